use Rattle.fz_items.specs.Contents.{contents_of}
use Rattle.fz_items.proofs.IntLists.{fails_along}
use Rattle.fz_items.proofs.Loops.{more_step, more_fails, more_ends}
use Rattle.fz_items.proofs.value.push_more.Goals as goal

pub returns-in-Err : goal.returns-in-Err
returns-in-Err c =
    fails_along c.in-Err.miss _ _ c.in-Err.ensures
    (more_fails c.args.part c.args.base (contents_of c.loop-domain.items.items) c.args.domains.now c.loop-domain.domain-index c.domain-item.result c.loop-domain.rest.now _ c.loop-domain-test.true c.domain-item.is c.loop-domain.invariant)

pub loop-domain-preserved : goal.loop-domain-preserved
loop-domain-preserved c =
    let p = c.in-Ok.ensures in
    more_step c.args.part c.args.base (contents_of c.loop-domain.items.items) _ c.args.domains.now c.loop-domain.domain-index c.domain-item.result c.loop-domain.rest.now p.0 c.in-Ok.behind.now _ c.loop-domain-test.true c.domain-item.is p.1 p.2 c.loop-domain.invariant

pub returns : goal.returns
returns c =
    more_ends c.args.part c.args.base (contents_of c.loop-domain.items.items) c.args.domains.now c.loop-domain.domain-index c.loop-domain.rest.now _ c.loop-domain-test.false c.loop-domain.invariant
