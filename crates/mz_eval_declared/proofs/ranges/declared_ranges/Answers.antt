use Rattle.std.proofs.Common.{arith, rules, ap, ◌∙◌}
use Rattle.mz_meaning.specs.Arrays.{range_for}
use Rattle.mz_eval_declared.specs.Wants.{wanted}
use Rattle.mz_eval_declared.proofs.Ranging.{range_goes, range_ends}
use Rattle.mz_eval_declared.proofs.ranges.declared_ranges.Goals as goal

pub loop-k-preserved : goal.loop-k-preserved
loop-k-preserved c =
    let w = c.index-ws-k.result in
    range_goes wanted c.args.ws.now c.args.own.now _ _ _ c.loop-k.k w c.range_for.result (omega arith) c.index-ws-k.is (c.range_for.ensures ∙ ap (range_for (wanted w)) c.range_at.ensures) (search rules) c.loop-k.invariant

pub returns : goal.returns
returns c = range_ends wanted c.args.ws.now c.args.own.now _ _ c.loop-k.k (omega arith) c.loop-k.invariant
