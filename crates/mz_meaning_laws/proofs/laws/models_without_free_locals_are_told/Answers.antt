use Rattle.mz_meaning_laws.proofs.Consequences.{expressions_without, expressions_take_none, walks_without, all_run, solves_plainly, plainly_solves, nothing_solves}
use Rattle.mz_meaning_laws.proofs.laws.models_without_free_locals_are_told.Goals as goal

pub returns : goal.returns
returns c = record { expressions = expressions_without; choices = expressions_take_none; walks = walks_without; runs = all_run; solves = solves_plainly; back = plainly_solves; none = nothing_solves }
