use Rattle.std.proofs.Common.{true, refl, subst, IsSome, sym}
use Rattle.mz_arena.specs.Extents.{Known}
use Rattle.mz_partial.proofs.Asked.{asked_constant, one_there}
use Rattle.mz_partial.proofs.Making.{constant_placed}
use Rattle.mz_partial.proofs.make.always.Goals as goal

pub make-requires-clause-asked : goal.make-requires-clause-asked
make-requires-clause-asked c = asked_constant c.args.arena.now _ _ refl refl (subst (λ (x : Known). IsSome x) (sym one_there) refl)

pub returns : goal.returns
returns c = constant_placed c.args.arena.now c.make.new.arena _ c.in_ok-t.t true _ refl refl one_there c.in_ok-t.ensures.placed c.in_ok-t.ensures.stands
