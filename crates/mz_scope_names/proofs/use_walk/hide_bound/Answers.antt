use Rattle.std.proofs.Common.{◌+◌, drop, ap, sym, ◌∙◌}
use Rattle.mz_scope_names.specs.Uses.{with_bound}
use Rattle.mz_scope_names.proofs.UsesLists.{bound_from, bound_read}
use Rattle.mz_scope_names.proofs.use_walk.hide_bound.Goals as goal

pub loop-name-preserved : goal.loop-name-preserved
loop-name-preserved c =
    c.loop-name.invariant ∙ bound_from c.loop-name.hidden c.args.names.now c.loop-name.name-index c.name-item.result c.loop-name-test.true c.name-item.is
    ∙ ap (λ z. with_bound z (drop (c.loop-name.name-index + 1) c.args.names.now)) (sym c.in_ok-add.ensures)

pub returns : goal.returns
returns c = bound_read c.loop-name.hidden c.args.names.now c.loop-name.name-index _ c.loop-name.invariant c.loop-name-test.false
