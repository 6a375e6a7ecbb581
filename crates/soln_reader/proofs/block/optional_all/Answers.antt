use Rattle.std.proofs.Common.{ap, ◌∙◌, map, arith, min, length, ◌<◌}
use Rattle.std.proofs.lemmas.List.{map_push}
use Rattle.mz_value.specs.Contents.{content}
use Rattle.fz_items.specs.Contents.{content_of}
use Rattle.fz_items.proofs.IntLists.{fails_along}
use Rattle.soln_reader.proofs.Solutions.{optional_step, optional_fails, optional_done}
use Rattle.soln_reader.proofs.block.optional_all.Goals as goal

pub returns-in-Err : goal.returns-in-Err
returns-in-Err c =
    let below : c.loop-k.k < min (min (length c.args.domains.now) (length c.args.occurs.now)) (length c.args.items.now) = omega (arith, c.loop-k-test.true, c.min.ensures, c.min-most.ensures) in
    fails_along c.in-Err.miss _ _ c.in-Err.ensures
    (optional_fails content_of c.args.domains.now c.args.occurs.now c.args.items.now c.loop-k.k c.index-domains-k.result c.index-occurs-k.result c.index-items-k.result (map content c.loop-k.values.items) _ (omega arith) (omega arith) (omega arith) c.index-domains-k.is c.index-occurs-k.is c.index-items-k.is c.loop-k.invariant)

pub loop-k-preserved : goal.loop-k-preserved
loop-k-preserved c =
    let below : c.loop-k.k < min (min (length c.args.domains.now) (length c.args.occurs.now)) (length c.args.items.now) = omega (arith, c.loop-k-test.true, c.min.ensures, c.min-most.ensures) in
    optional_step content_of c.args.domains.now c.args.occurs.now c.args.items.now c.loop-k.k c.index-domains-k.result c.index-occurs-k.result c.index-items-k.result (map content c.loop-k.values.items) _ (content c.in-Ok.v) _ (omega arith) (omega arith) (omega arith) c.index-domains-k.is c.index-occurs-k.is c.index-items-k.is c.in-Ok.ensures
    (ap (map content) c.in_ok-push-in-Ok.ensures.items ∙ map_push content c.loop-k.values.items c.in-Ok.v) c.loop-k.invariant

pub returns : goal.returns
returns c =
    optional_done content_of c.args.domains.now c.args.occurs.now c.args.items.now c.loop-k.k (map content c.loop-k.values.items) _ (omega (arith, c.loop-k-test.false, c.min.ensures, c.min-most.ensures)) c.loop-k.invariant
