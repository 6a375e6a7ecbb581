use Rattle.std.proofs.Common.{◌∙◌, ap, sym}
use Rattle.mz_meaning.specs.Runs.{Out}
use Rattle.mz_symbol.specs.Readings.{state_of}
use Rattle.mz_eval_branches.proofs.NoValues.{no_value}
use Rattle.mz_eval_branches.proofs.lines.ranged_line.Goals as goal

pub returns-then-has_no_value-clause-means : goal.returns-then-has_no_value-clause-means
returns-then-has_no_value-clause-means c r h = ap (λ v. Out v (state_of r c.args.run.now)) (no_value r c.args.k.now (sym c.has_no_value.ensures ∙ c.if-has_no_value.true))
