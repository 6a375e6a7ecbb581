use Rattle.std.proofs.Common.{◌≡◌, map, replicate}
use Rattle.mz_core.specs.Types.{plain_type}
use Rattle.mz_meaning.specs.Domains.{domain_over}
use Rattle.mz_model_names.proofs.sets.copies.Given as goal

abbrev pub invariant-loop-turn : goal.invariant-loop-turn
invariant-loop-turn l = map (domain_over (plain_type l.t)) l.sets.items ≡ replicate l._turn (domain_over (plain_type l.t) l.u)
