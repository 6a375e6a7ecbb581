use Rattle.mz_scope_order.proofs.Whole.{parts_are}
use Rattle.mz_scope_order.proofs.parts.model_parts.Goals as goal

pub returns : goal.returns
returns c =
    parts_are
    (record { enums = c.in_ok-enums.enums; decls = c.in_ok-decls.decls; functions = c.in_ok-functions.functions; constraints = c.in_ok-constraints.constraints; goal = c.goal_of-goal.result; outputs = c.in_ok-outputs.outputs; given = c.in_ok-given.given })
    c.args.sources.now.files.items _ c.args.given_data.now.items.items _ _ c.as_slice-files.ensures.value c.as_slice-items.ensures.value c.as_slice.ensures.value
    c.in_ok-enums.ensures c.in_ok-decls.ensures c.in_ok-functions.ensures c.in_ok-constraints.ensures c.goal_of-goal.ensures c.in_ok-outputs.ensures c.in_ok-given.ensures
