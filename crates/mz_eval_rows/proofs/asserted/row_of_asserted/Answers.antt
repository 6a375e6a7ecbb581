use Rattle.std.proofs.Common.{◌≡◌, List, Option, false, map, sym, subst}
use Rattle.mz_value.specs.Contents.{case_names}
use Rattle.mz_core.specs.Types.{plain_type}
use Rattle.mz_operations.specs.declared.row.MadeRow.TheVariants as made
use Rattle.mz_operations.specs.Values.{made_value}
use Rattle.mz_meaning.specs.Runs.{Out}
use Rattle.mz_meaning.specs.Cells.{typed, value_of}
use Rattle.mz_symbol.specs.Makes.{MeetsAt}
use Rattle.mz_symbol.specs.Readings.{state_of}
use Rattle.mz_value.specs.Contents.{Content}
use Rattle.mz_eval_cells.specs.declared.types.Known.{Known}
use Rattle.mz_eval_cells.specs.Views.{all_seen, cell_of, seen}
use Rattle.mz_eval_row_symbols.specs.NodeRows.{stamped, var_value, with_value}
use Rattle.mz_eval_rows.proofs.NodeLaws.{node_meets}
use Rattle.mz_eval_rows.proofs.AssertedLaws.{asserted_value}
use Rattle.mz_eval_rows.proofs.asserted.row_of_asserted.Goals as goal

pub returns-clause-means : goal.returns-clause-means
returns-clause-means c r h =
    let t = plain_type c.args.t.now in
    let names = case_names c.args.cases.now in
    let cs = all_seen r c.args.cells.items in
    let s = state_of r c.args.run.now in
    let u = state_of r c.third_cell.new.run in
    let v = var_value r.mode names c.args.row t cs in
    let w = value_of (seen r c.in_ok-k.k) in
    let there = subst (λ (ks : List Known). made_value made.AssertValue (map value_of (all_seen r ks)) ≡ w) c.deref.ensures.value (c.in_ok-k.ensures r) in
    let told = asserted_value r.mode names c.args.row t cs w c.requires there in
    node_meets r.mode names c.args.row t c.args.at cs (with_value v (cell_of c.in_ok-shape.shape)) s u (stamped t r) c.third_cell.result ((c.in_ok-shape.ensures r).by s)
    (subst (λ (y : Option Content). MeetsAt (stamped t r) c.third_cell.result u (Out (typed r.mode false t (with_value y (cell_of c.in_ok-shape.shape))) s)) (sym told) (c.third_cell.ensures.means r h))
