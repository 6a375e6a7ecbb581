use Rattle.std.proofs.Common.{◌≡◌, ◌+◌, ◌*◌, ◌&&◌, Some, ap, arith, length, subst}
use Rattle.mz_globals.specs.Lists.{pairwise}
use Rattle.mz_symbol.specs.Makes.{GoesOnBy}
use Rattle.mz_symbol.specs.Symbols.{list_term}
use Rattle.glob_nodes.specs.declared.nodes.Compare.TheVariants.{Equal, Differ}
use Rattle.glob_nodes.specs.Says.{Gives, Tells, compares, num, pair_count}
use Rattle.glob_nodes.proofs.Saying.{ok_so}
use Rattle.glob_nodes.proofs.Telling.{goes_less, goes_more}
use Rattle.glob_graph.proofs.Rounds.{closed_cost, round_told}
use Rattle.glob_graph.proofs.circuits.walk_round.Goals as goal

pub walked-requires-clause-none : goal.walked-requires-clause-none
walked-requires-clause-none c = c.new-walk.ensures.items

pub walked-requires-clause-count : goal.walked-requires-clause-count
walked-requires-clause-count c = c.requires

pub returns-in_err-list-clause-goes : goal.returns-in_err-list-clause-goes
returns-in_err-list-clause-goes c =
    let same : length c.deref.result.now ≡ length c.args.xs.now.items.items = ap length c.deref.ensures.value in
    goes_less _ _ c.args.run.now c.list_of.new.run (omega (arith, same)) c.list_of.ensures.goes

pub returns-in_err-end-clause-goes : goal.returns-in_err-end-clause-goes
returns-in_err-end-clause-goes c =
    let same : length c.deref.result.now ≡ length c.args.xs.now.items.items = ap length c.deref.ensures.value in
    goes_more (8 * length c.deref.result.now) (56 * length c.args.xs.now.items.items) _ c.args.run.now c.list_of.new.run c.walked.new.run (omega (arith, same)) c.in_ok-list.ensures.goes c.walked.ensures.goes

pub returns-clause-goes : goal.returns-clause-goes
returns-clause-goes c =
    let n = length c.args.xs.now.items.items in
    let same : length c.deref.result.now ≡ n = ap length c.deref.ensures.value in
    let walks = goes_more (8 * length c.deref.result.now) (56 * n) (64 * n) c.args.run.now c.list_of.new.run c.walked.new.run (omega (arith, same)) c.in_ok-list.ensures.goes c.in_ok-end.ensures.goes in
    let ends = subst (λ ps. GoesOnBy (12 * pair_count ps + 12) c.walked.new.run c.closed.new.run) c.as_slice.ensures.value c.closed.ensures.goes in
    let most = closed_cost c.walked.new.walk.items c.args.xs.now.items.items c.in_ok-end.ensures.long in
    goes_more (64 * n) (12 * (n * n) + 12) _ c.args.run.now c.walked.new.run c.closed.new.run (omega arith) walks (goes_less _ (12 * (n * n) + 12) c.walked.new.run c.closed.new.run most ends)

pub returns-clause-round : goal.returns-clause-round
returns-clause-round c = ok_so c.closed.result c.closed.ensures.tells (λ id t. round_told c.args.run.now c.list_of.new.run c.walked.new.run c.closed.new.run c.args.xs.now c.in_ok-list.list c.in_ok-end.end id _ _ c.walked.new.walk.items c.in_ok-end.ensures.goes c.closed.ensures.goes
    (subst (λ ids. Gives c.args.run.now c.list_of.new.run (λ r. list_term r.term ids) c.in_ok-list.list) c.deref.ensures.value c.in_ok-list.ensures.gives)
    c.in_ok-end.ensures.walked c.in_ok-end.ensures.long
    (subst (λ ps. Tells c.walked.new.run c.closed.new.run (λ r. compares Equal (num r c.in_ok-end.end) (Some c.args.xs.now.first) && pairwise (λ x y. compares Differ (num r x) (num r y)) ps) id) c.as_slice.ensures.value t))
