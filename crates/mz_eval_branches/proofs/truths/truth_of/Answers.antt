use Rattle.std.proofs.Common.{◌∙◌, sym, subst}
use Rattle.mz_meaning.specs.Runs.{give}
use Rattle.mz_symbol.specs.Readings.{state_of}
use Rattle.mz_symbol.specs.Makes.{MeetsAt}
use Rattle.mz_eval_branches.specs.Truths.{truth_seen}
use Rattle.mz_eval_branches.proofs.NoValues.{no_value}
use Rattle.mz_eval_branches.proofs.TruthLaws.{goes_none}
use Rattle.mz_eval_branches.proofs.truths.truth_of.Goals as goal

pub returns-then-has_no_value-clause-goes : goal.returns-then-has_no_value-clause-goes
returns-then-has_no_value-clause-goes c = goes_none c.args.run.now c.no_truth.new.run c.no_truth.ensures.goes

pub returns-then-has_no_value-clause-means : goal.returns-then-has_no_value-clause-means
returns-then-has_no_value-clause-means c r h = subst (λ v. MeetsAt (truth_seen r) c.no_truth.result (state_of r c.no_truth.new.run) (give v (state_of r c.args.run.now))) (sym (no_value r c.args.k.now (sym c.has_no_value.ensures ∙ c.if-has_no_value.true))) (c.no_truth.ensures.means r h)
