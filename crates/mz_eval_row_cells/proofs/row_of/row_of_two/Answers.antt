use Rattle.std.proofs.Common.{◌∙◌, ap, sym, rules, w64}
use Rattle.std.proofs.lemmas.Int.{to_z-of_z}
use Rattle.mz_value.specs.Contents.{case_names, int}
use Rattle.mz_core.specs.Types.{plain_type}
use Rattle.mz_meaning.specs.Cells.{par_value}
use Rattle.mz_eval_cells.specs.Views.{cell_of}
use Rattle.mz_eval_row_cells.proofs.Parted.{integers_row}
use Rattle.mz_eval_row_cells.proofs.row_of.row_of_two.Goals as goal

pub returns-in-Some : goal.returns-in-Some
unfolding plain_type
returns-in-Some c =
    let x = to_z-of_z w64 c.in-Some.n.0 (search rules) in
    let y = to_z-of_z w64 c.in-Some.n.1 (search rules) in
    integers_row (case_names c.args.cases.now) c.args.row (plain_type c.args.t.now) c.args.at (cell_of c.args.a) (cell_of c.args.b) _ _ c.row_of_integers.result (c.in-Some.ensures.0 ∙ ap (λ n. par_value (int n)) (sym x)) (c.in-Some.ensures.1 ∙ ap (λ n. par_value (int n)) (sym y)) c.row_of_integers.ensures
