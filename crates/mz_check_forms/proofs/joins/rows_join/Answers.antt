use Rattle.std.proofs.Common.{map, sym, subst}
use Rattle.mz_core.specs.Types.{plain_type}
use Rattle.mz_core.specs.TreeViews.{tree}
use Rattle.mz_check_meaning.specs.Coerced.{bottom_type}
use Rattle.mz_check_meaning.specs.Arrays.{element_next}
use Rattle.mz_check_meaning.specs.Passes.{Passes}
use Rattle.mz_check_forms.proofs.Loops.{loop_all_in}
use Rattle.mz_check_forms.proofs.joins.rows_join.Goals as goal

pub returns : goal.returns
returns c = subst (Passes plain_type c.lines_join.result) (sym (loop_all_in element_next bottom_type (map (λ r. map tree r.items) c.args.lines.now))) c.lines_join.ensures
