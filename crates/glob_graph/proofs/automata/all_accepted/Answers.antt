use Rattle.std.proofs.Common.{◌≡◌, ◌+◌, ◌*◌, ap, arith, length}
use Rattle.glob_nodes.proofs.Saying.{ok_so}
use Rattle.glob_nodes.proofs.Telling.{goes_less, goes_more}
use Rattle.glob_graph.proofs.Letterwise.{accepted_all}
use Rattle.glob_graph.proofs.automata.all_accepted.Goals as goal

pub list_of_steps-requires : goal.list_of_steps-requires
list_of_steps-requires c = c.deref.ensures.value

pub returns-in_err-letters-clause-goes : goal.returns-in_err-letters-clause-goes
returns-in_err-letters-clause-goes c = goes_less (24 * length c.args.ids.now) _ c.args.run.now c.are_letters.new.run (omega arith) c.are_letters.ensures.goes

pub returns-in_err-list-clause-goes : goal.returns-in_err-list-clause-goes
returns-in_err-list-clause-goes c =
    let same : length c.deref.result.now ≡ length c.args.m.now.steps.cells.items = ap length c.deref.ensures.value in
    goes_more (24 * length c.args.ids.now) (8 * length c.deref.result.now) _ c.args.run.now c.are_letters.new.run c.list_of_steps.new.run (omega (arith, same)) c.in_ok-letters.ensures.goes c.list_of_steps.ensures.goes

pub returns-in_err-end-clause-goes : goal.returns-in_err-end-clause-goes
returns-in_err-end-clause-goes c =
    let same : length c.deref.result.now ≡ length c.args.m.now.steps.cells.items = ap length c.deref.ensures.value in
    goes_more (24 * length c.args.ids.now + 8 * length c.deref.result.now) (88 * length c.args.ids.now) _ c.args.run.now c.list_of_steps.new.run c.last_state.new.run (omega (arith, same))
    (goes_more (24 * length c.args.ids.now) (8 * length c.deref.result.now) _ c.args.run.now c.are_letters.new.run c.list_of_steps.new.run (omega arith) c.in_ok-letters.ensures.goes c.in_ok-list.ensures.goes)
    c.last_state.ensures.goes

pub returns-in_err-last-clause-goes : goal.returns-in_err-last-clause-goes
returns-in_err-last-clause-goes c =
    let same : length c.deref.result.now ≡ length c.args.m.now.steps.cells.items = ap length c.deref.ensures.value in
    goes_more (24 * length c.args.ids.now + 8 * length c.deref.result.now) (88 * length c.args.ids.now + 18) _ c.args.run.now c.list_of_steps.new.run c.is_final.new.run (omega (arith, same))
    (goes_more (24 * length c.args.ids.now) (8 * length c.deref.result.now) _ c.args.run.now c.are_letters.new.run c.list_of_steps.new.run (omega arith) c.in_ok-letters.ensures.goes c.in_ok-list.ensures.goes)
    (goes_more (88 * length c.args.ids.now) 18 _ c.list_of_steps.new.run c.last_state.new.run c.is_final.new.run (omega arith) c.in_ok-end.ensures.goes c.is_final.ensures.goes)

pub returns-clause-goes : goal.returns-clause-goes
returns-clause-goes c =
    let same : length c.deref.result.now ≡ length c.args.m.now.steps.cells.items = ap length c.deref.ensures.value in
    goes_more (24 * length c.args.ids.now + 8 * length c.deref.result.now) (88 * length c.args.ids.now + 24) _ c.args.run.now c.list_of_steps.new.run c.joined.new.run (omega (arith, same))
    (goes_more (24 * length c.args.ids.now) (8 * length c.deref.result.now) _ c.args.run.now c.are_letters.new.run c.list_of_steps.new.run (omega arith) c.in_ok-letters.ensures.goes c.in_ok-list.ensures.goes)
    (goes_more (88 * length c.args.ids.now) 24 _ c.list_of_steps.new.run c.last_state.new.run c.joined.new.run (omega arith) c.in_ok-end.ensures.goes
    (goes_more 18 6 24 c.last_state.new.run c.is_final.new.run c.joined.new.run (omega arith) c.in_ok-last.ensures.goes c.joined.ensures.goes))

pub returns-clause-accepted : goal.returns-clause-accepted
returns-clause-accepted c = ok_so c.joined.result c.joined.ensures.says (λ id s. accepted_all c.args.run.now c.are_letters.new.run c.list_of_steps.new.run c.last_state.new.run c.is_final.new.run c.joined.new.run c.args.m.now c.args.ids.now c.in_ok-letters.letters c.in_ok-list.list c.in_ok-end.end c.in_ok-last.last id _ _ _ _ c.in_ok-letters.ensures.tells c.in_ok-list.ensures.goes c.in_ok-list.ensures.gives c.in_ok-end.ensures.goes c.in_ok-end.ensures.last c.in_ok-last.ensures.goes c.in_ok-last.ensures.says c.joined.ensures.goes s)
