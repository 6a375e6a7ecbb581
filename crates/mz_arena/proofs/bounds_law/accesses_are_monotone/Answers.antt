use Rattle.mz_arena.proofs.Accesses.{access_is_monotone, set_access_is_monotone}
use Rattle.mz_arena.proofs.bounds_law.accesses_are_monotone.Goals as goal

pub returns : goal.returns
returns c = record { numbers = access_is_monotone; sets = set_access_is_monotone }
