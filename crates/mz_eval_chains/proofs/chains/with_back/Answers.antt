use Rattle.std.proofs.Common.{◌-◌, length, map, take, refl, ap}
use Rattle.mz_eval_chains.specs.Innermosts.{operator_of}
use Rattle.mz_eval_chains.proofs.Innermosts.{backed_made, backed_none}
use Rattle.mz_eval_chains.proofs.Heads.{list_by_last}
use Rattle.mz_eval_chains.proofs.chains.with_back.Goals as goal

pub returns : goal.returns
returns c =
    let all = c.args.rest.now in
    let x = c.index-rest-count.result in
    backed_made c.args.at all (take (length all - 1) all) x c.place_after-place.result _ _ _ (ap (map operator_of) c.new-none.ensures.items) c.in_ok-begun.ensures c.place_after-place.ensures c.in_ok-ended.ensures
    (list_by_last (length all) all (take (length all - 1) all) x refl c.if-count-eq0.false c.index-rest-count.is refl)

pub returns-then-count-eq0 : goal.returns-then-count-eq0
returns-then-count-eq0 c = backed_none c.args.at c.args.rest.now _ (ap (map operator_of) c.new-none.ensures.items) c.if-count-eq0.true
