use Rattle.std.proofs.Common.{◌≡◌, ◌∙◌, List, Option, Ok, false, map, ap, subst, sym}
use Rattle.mz_value.specs.declared.value.Value.{Value}
use Rattle.mz_value.specs.Contents.{case_names}
use Rattle.mz_core.specs.Types.{plain_type}
use Rattle.mz_operations.specs.Arguments.{Arguments, arguments, at}
use Rattle.mz_operations.specs.declared.row.MadeRow.TheVariants as made
use Rattle.mz_operations.specs.declared.row.Row.TheVariants.{Made}
use Rattle.mz_meaning.specs.Runs.{Out}
use Rattle.mz_meaning.specs.Cells.{held, typed, value_of}
use Rattle.mz_symbol.specs.Readings.{state_of}
use Rattle.mz_eval_cells.specs.declared.types.Known.{Known}
use Rattle.mz_eval_cells.specs.Views.{all_seen, cell_of, cells_of, row_content}
use Rattle.mz_eval_row_symbols.specs.NodeRows.{stamped, var_value, with_value}
use Rattle.mz_eval_rows.specs.StepsCells.{KeepsSets}
use Rattle.mz_eval_rows.proofs.NodeLaws.{node_meets}
use Rattle.mz_eval_rows.proofs.ReshapedLaws.{sets_kept}
use Rattle.mz_eval_rows.proofs.reshaped.row_of_shaped.Goals as goal

pub returns-clause-means : goal.returns-clause-means
returns-clause-means c r h =
    let t = plain_type c.args.t.now in
    let names = case_names c.args.cases.now in
    let row = Made (made.Shaped c.args.d) in
    let ks = c.args.cells.items in
    let cs = all_seen r ks in
    let s = state_of r c.args.run.now in
    let v = var_value r.mode names row t cs in
    let jx = c.in-Ok.parts.0.value.items in
    let xs = c.in-Ok.parts.1.value in
    let there = subst (λ (ys : List Known). at (map value_of (all_seen r ys)) c.args.d ≡ held r.mode (row_content r.line jx xs)) c.deref.ensures.value (c.in-Ok.ensures.array r) in
    let keeps = subst (λ (ys : Arguments). KeepsSets ys (map value_of cs)) (sym (c.in-Ok.ensures.values ∙ ap (λ (ys : List Known). map value_of (cells_of ys)) c.deref.ensures.value)) (sets_kept r ks) in
    let keeps_too = subst (λ (vs : List (Option Value)). KeepsSets (arguments vs) (map value_of cs)) (sym c.deref-2.ensures.value) keeps in
    node_meets r.mode names row t c.args.at cs (with_value v (cell_of c.in_ok-shape.shape)) s s (stamped t r) (Ok c.in_ok-k.k) ((c.in_ok-shape.ensures r).by s)
    (ap (λ x. Out (typed r.mode false t x) s) (c.in_ok-k.ensures r h jx (map value_of cs) t.base keeps_too there))
