use Rattle.std.proofs.Common.{false, refl, subst, IsSome, sym}
use Rattle.mz_arena.specs.Extents.{Known}
use Rattle.mz_partial.proofs.Asked.{asked_constant, zero_there}
use Rattle.mz_partial.proofs.Making.{constant_placed}
use Rattle.mz_partial.proofs.make.nowhere.Goals as goal

pub make-requires-clause-asked : goal.make-requires-clause-asked
make-requires-clause-asked c = asked_constant c.args.arena.now _ _ refl refl (subst (λ (x : Known). IsSome x) (sym zero_there) refl)

pub returns : goal.returns
returns c = constant_placed c.args.arena.now c.make.new.arena _ c.in_ok-t.t false _ refl refl zero_there c.in_ok-t.ensures.placed c.in_ok-t.ensures.stands
