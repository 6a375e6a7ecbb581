use Rattle.std.proofs.Common.{refl}
use Rattle.mz_partial.specs.Nodes.{three}
use Rattle.mz_partial.proofs.Asked.{asked_remake}
use Rattle.mz_partial.proofs.Standing.{inner_bound}
use Rattle.mz_partial.proofs.Making.{remade_same, remade}
use Rattle.mz_partial.proofs.make.remake.Goals as goal

pub make-requires-clause-asked : goal.make-requires-clause-asked
make-requires-clause-asked c = asked_remake c.args.arena.now c.args.id c.args.n _ _ c.requires refl refl

pub make-requires-clause-bound : goal.make-requires-clause-bound
make-requires-clause-bound c = inner_bound c.args.n.kind c.requires.inner

pub returns-then-is_own : goal.returns-then-is_own
returns-then-is_own c = remade_same c.args.arena.now c.args.id c.args.n (three c.args.a c.args.b c.args.c) c.requires (c.is_own.ensures.own c.if-is_own.true)

pub returns : goal.returns
returns c = remade c.args.arena.now c.make.new.arena c.args.id c.args.n (three c.args.a c.args.b c.args.c) c.in_ok-t.t c.in_ok-t.ensures.placed (c.is_own.ensures.other c.if-is_own.false)
