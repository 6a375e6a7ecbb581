use Rattle.std.proofs.Common.{ap, arith, map}
use Rattle.std.proofs.lemmas.List.{at_drop_all}
use Rattle.mz_meaning.specs.Comprehensions.{surely}
use Rattle.mz_eval_comprehensions.specs.Views.{value_element}
use Rattle.mz_eval_comprehensions.proofs.TurnLaws.{value_next}
use Rattle.mz_eval_comprehensions.proofs.turns.next_value.Goals as goal

pub returns-then-place-all : goal.returns-then-place-all
returns-then-place-all c r = at_drop_all (map value_element) c.args.all.now c.args.place.now (omega arith)

pub returns : goal.returns
returns c r = value_next c.args.all.now c.args.place.now c.index-all-place.result _ (omega arith) c.index-all-place.is (ap surely (c.in_ok-cell.ensures.seen r))
