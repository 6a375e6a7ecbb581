use Rattle.std.proofs.Common.{◌∙◌, sym}
use Rattle.cases_instances.proofs.Standing.{choice_there, variable_kept, other_kept, choice_kept, set_some}
use Rattle.cases_instances.proofs.nodes.is_kept.Goals as goal

pub set-requires : goal.set-requires
set-requires c = choice_there c.args.arena.now c.args.id c.node-n.result c.len-count.ensures.arena c.node-n.ensures (sym c.is_local.ensures ∙ c.if-is_local.true)

pub returns-then-is_local : goal.returns-then-is_local
returns-then-is_local c = λ t. choice_kept c.args.arena.now c.args.id c.node-n.result c.len-count.ensures.arena c.node-n.ensures c.args.ids.now (sym c.is_local.ensures ∙ c.if-is_local.true) (set_some c.args.arena.now c.args.id c.node-n.result c.len-count.ensures.arena c.node-n.ensures c.set.result.now c.set.ensures (c.can_take.ensures t))

pub returns-then-is_free : goal.returns-then-is_free
returns-then-is_free c = λ t. variable_kept c.args.arena.now c.args.id c.node-n.result c.len-count.ensures.arena c.node-n.ensures c.args.ids.now (sym c.is_local.ensures ∙ c.if-is_local.false) (c.is_at.ensures t)

pub returns-else-is_free : goal.returns-else-is_free
returns-else-is_free c = λ t. other_kept c.args.arena.now c.args.id c.node-n.result c.len-count.ensures.arena c.node-n.ensures c.args.ids.now (sym c.is_free.ensures ∙ c.if-is_free.false) (sym c.is_local.ensures ∙ c.if-is_local.false)
