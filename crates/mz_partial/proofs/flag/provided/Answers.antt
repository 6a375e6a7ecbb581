use Rattle.mz_partial.proofs.Saying.{chooses_not, chooses_if, not_truth}
use Rattle.mz_partial.proofs.flag.provided.Goals as goal
use Rattle.mz_partial.proofs.Standing.{truth_later}

pub connective-requires-clause-a : goal.connective-requires-clause-a
connective-requires-clause-a c =
    let m = c.in_ok-n.ensures in
    not_truth c.negation.new.arena c.args.c c.in_ok-n.n m.arena m.node (truth_later c.args.arena.now c.negation.new.arena c.args.c m.extends.grew c.requires.c)

pub connective-requires-clause-b : goal.connective-requires-clause-b
connective-requires-clause-b c = truth_later c.args.arena.now c.negation.new.arena c.args.a c.in_ok-n.ensures.extends.grew c.requires.a

pub returns-in_default : goal.returns-in_default
returns-in_default c = chooses_not c.args.arena.now c.negation.new.arena c.connective.new.arena c.args.c c.args.a c.in_ok-n.n c.in_ok-h.h c.args.g c.in_default.is c.in_ok-n.ensures c.in_ok-h.ensures

pub returns : goal.returns
returns c = chooses_if c.args.arena.now c.choice.new.arena c.args.c c.args.a c.in-Some.b c.in_ok-h-2.h c.args.g c.in-Some.is c.in_ok-h-2.ensures
