use Rattle.std.proofs.Common.{arith, refl}
use Rattle.mz_eval_comprehensions.specs.Views.{place_in}
use Rattle.mz_eval_comprehensions.proofs.TurnLaws.{no_places, place_next}
use Rattle.mz_eval_comprehensions.proofs.turns.next_place.Goals as goal

pub returns-then-index-bounds-clause-next : goal.returns-then-index-bounds-clause-next
returns-then-index-bounds-clause-next c = record {
  same = λ r h. refl;
  next = λ r h. no_places (place_in r c.args.xs.now) c.args.bounds.now c.args.index.now (omega arith);
}

pub returns-clause-next : goal.returns-clause-next
returns-clause-next c = record {
  same = c.in_ok-x.ensures.turn.same;
  next = λ r h. place_next (place_in r c.args.xs.now) c.args.bounds.now c.args.index.now c.index-bounds-n.result _ (omega arith) c.index-bounds-n.is (c.in_ok-x.ensures.turn.is r h);
}
