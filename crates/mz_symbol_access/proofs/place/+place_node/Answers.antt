use Rattle.std.proofs.Common.{arith}
use Rattle.mz_symbol_access.proofs.PlaceLaws.{place_step, split_first}
use Rattle.mz_symbol_access.proofs.place.+place_node.Goals as goal

pub returns-in_ok-all-in-len1-up-indices-clause-means : goal.returns-in_ok-all-in-len1-up-indices-clause-means
returns-in_ok-all-in-len1-up-indices-clause-means t c r h =
    let e = c.in_ok-all-in-len1-up-indices.ensures.means r h in
    let back = c.in_ok-all-in-len1-up-indices.ensures.goes.back r h in
    let f = c.in_ok-place-in-len1-up-indices.ensures.means r back in
    place_step r c.args.ranges.now c.args.indices.now _ _ _ _ _ _ _ _ _ (split_first _ c.args.ranges.now (omega (arith, c.in-len1-up.len_at_least))) (split_first _ c.args.indices.now (omega (arith, c.in-len1-up-indices.len_at_least))) f e
