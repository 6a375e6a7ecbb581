use Rattle.mz_meaning_laws.proofs.Budgets.{ends_within}
use Rattle.mz_meaning_laws.proofs.budget_law.evaluations_end_within_their_budget.Goals as goal

pub returns : goal.returns
returns c = ends_within
