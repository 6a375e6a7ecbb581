use Rattle.mz_meaning_laws.proofs.Consequences.{solutions_are_over, over_is_solution, bare_walk_tells, bare_walk_stops, no_solution}
use Rattle.mz_meaning_laws.proofs.laws.solutions_are_told_by_one_walk.Goals as goal

pub returns : goal.returns
returns c = record { over = solutions_are_over; back = over_is_solution; told = bare_walk_tells; stopped = bare_walk_stops; none = no_solution }
