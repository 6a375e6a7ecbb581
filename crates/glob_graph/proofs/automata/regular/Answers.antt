use Rattle.std.proofs.Common.{◌≡◌, ◌+◌, ◌*◌, ap, arith, length, subst}
use Rattle.mz_symbol.specs.Makes.{GoesOnBy}
use Rattle.glob_nodes.proofs.Saying.{ok_so}
use Rattle.glob_nodes.proofs.Telling.{goes_less, goes_more}
use Rattle.glob_graph.proofs.Letterwise.{regular_cost, regular_row}
use Rattle.glob_graph.proofs.automata.regular.Goals as goal

pub returns-in_err-body-clause-goes : goal.returns-in_err-body-clause-goes
returns-in_err-body-clause-goes c =
    let same : length c.deref.result.now ≡ length c.args.xs.now.items.items = ap length c.deref.ensures.value in
    let spent = subst (λ n. GoesOnBy (56 * (n + n * length c.args.m.now.steps.cells.items) + 50) c.args.run.now c.accepted.new.run) same c.accepted.ensures.goes in
    let most = regular_cost c.args.xs.now.items.items _ _ _ c.requires.fits in
    goes_less _ _ c.args.run.now c.accepted.new.run (omega (arith, most)) spent

pub returns-clause-goes : goal.returns-clause-goes
returns-clause-goes c =
    let same : length c.deref.result.now ≡ length c.args.xs.now.items.items = ap length c.deref.ensures.value in
    let spent = subst (λ n. GoesOnBy (56 * (n + n * length c.args.m.now.steps.cells.items) + 50) c.args.run.now c.accepted.new.run) same c.in_ok-body.ensures.goes in
    goes_more _ 6 _ c.args.run.now c.accepted.new.run c.joined.new.run (regular_cost c.args.xs.now.items.items _ _ _ c.requires.fits) spent c.joined.ensures.goes

pub returns-clause-row : goal.returns-clause-row
returns-clause-row c = ok_so c.joined.result c.joined.ensures.says (λ id s. regular_row c.args.run.now c.accepted.new.run c.joined.new.run c.args.xs.now c.args.m.now c.deref.result.now c.in_ok-body.body id _ 6 c.deref.ensures.value c.requires.whole c.in_ok-body.ensures.goes c.in_ok-body.ensures.accepted c.joined.ensures.goes s)
