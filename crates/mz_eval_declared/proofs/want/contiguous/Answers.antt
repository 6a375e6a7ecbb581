use Rattle.std.proofs.Common.{sym, ◌∙◌}
use Rattle.std.specs.Prelude.{pos}
use Rattle.mz_base.specs.declared.kind.Kind.TheVariants.{IndexMismatch}
use Rattle.mz_operations.specs.Arrays.{is_contiguous}
use Rattle.mz_meaning.specs.Runs.{give, stop}
use Rattle.mz_meaning.specs.Arrays.{Within}
use Rattle.mz_eval_declared.specs.Wants.{wanted}
use Rattle.mz_eval_declared.proofs.Told.{told_first, told_refused, told_second}
use Rattle.mz_eval_declared.proofs.want.contiguous.Goals as goal

pub returns-then-is_contiguous : goal.returns-then-is_contiguous
returns-then-is_contiguous c =
    told_first wanted c.within.result (give (Within c.args.s.now)) (stop IndexMismatch c.args.at (pos 0)) (is_contiguous c.args.s.now) (sym c.is_contiguous.ensures ∙ c.if-is_contiguous.true) c.within.ensures

pub returns-else-is_contiguous : goal.returns-else-is_contiguous
returns-else-is_contiguous c =
    told_second wanted _ (give (Within c.args.s.now)) (stop IndexMismatch c.args.at (pos 0)) (is_contiguous c.args.s.now) (sym c.is_contiguous.ensures ∙ c.if-is_contiguous.false) (told_refused wanted c.args.at _ c.at.ensures)
