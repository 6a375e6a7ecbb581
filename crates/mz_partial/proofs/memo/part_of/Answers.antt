use Rattle.std.proofs.Common.{sym, ◌∙◌}
use Rattle.mz_partial.specs.declared.group.Group.TheVariants as group
use Rattle.mz_partial.proofs.Filling.{takes}
use Rattle.mz_partial.proofs.memo.part_of.Goals as goal

pub leaf-requires : goal.leaf-requires
leaf-requires c = takes c.args.arena.now c.args.memo.now c.args.id c.node-n.result group.Leaf c.len-count.ensures.arena c.requires.memo c.requires.reach c.node-n.ensures (sym c.group_of.ensures ∙ c.in-Leaf.is)

pub one-requires : goal.one-requires
one-requires c = takes c.args.arena.now c.args.memo.now c.args.id c.node-n.result group.One c.len-count.ensures.arena c.requires.memo c.requires.reach c.node-n.ensures (sym c.group_of.ensures ∙ c.in-One.is)

pub two-requires : goal.two-requires
two-requires c = takes c.args.arena.now c.args.memo.now c.args.id c.node-n.result group.Two c.len-count.ensures.arena c.requires.memo c.requires.reach c.node-n.ensures (sym c.group_of.ensures ∙ c.in-Two.is)

pub cons-requires : goal.cons-requires
cons-requires c = takes c.args.arena.now c.args.memo.now c.args.id c.node-n.result group.Cons c.len-count.ensures.arena c.requires.memo c.requires.reach c.node-n.ensures (sym c.group_of.ensures ∙ c.in-Cons.is)

pub test-requires : goal.test-requires
test-requires c = takes c.args.arena.now c.args.memo.now c.args.id c.node-n.result group.Test c.len-count.ensures.arena c.requires.memo c.requires.reach c.node-n.ensures (sym c.group_of.ensures ∙ c.in-Test.is)

pub connected-requires : goal.connected-requires
connected-requires c = takes c.args.arena.now c.args.memo.now c.args.id c.node-n.result group.Connective c.len-count.ensures.arena c.requires.memo c.requires.reach c.node-n.ensures (sym c.group_of.ensures ∙ c.in-Connective.is)

pub reading-requires : goal.reading-requires
reading-requires c = takes c.args.arena.now c.args.memo.now c.args.id c.node-n.result group.Reading c.len-count.ensures.arena c.requires.memo c.requires.reach c.node-n.ensures (sym c.group_of.ensures ∙ c.in-Reading.is)

pub branches-requires : goal.branches-requires
branches-requires c = takes c.args.arena.now c.args.memo.now c.args.id c.node-n.result group.Choice c.len-count.ensures.arena c.requires.memo c.requires.reach c.node-n.ensures (sym c.group_of.ensures ∙ c.in-Choice.is)

pub guarded-requires : goal.guarded-requires
guarded-requires c = takes c.args.arena.now c.args.memo.now c.args.id c.node-n.result group.Guard c.len-count.ensures.arena c.requires.memo c.requires.reach c.node-n.ensures (sym c.group_of.ensures ∙ c.in-Guard.is)

pub division-requires : goal.division-requires
division-requires c = takes c.args.arena.now c.args.memo.now c.args.id c.node-n.result group.Division c.len-count.ensures.arena c.requires.memo c.requires.reach c.node-n.ensures (sym c.group_of.ensures ∙ c.in-Division.is)

pub extreme-requires : goal.extreme-requires
extreme-requires c = takes c.args.arena.now c.args.memo.now c.args.id c.node-n.result group.Extreme c.len-count.ensures.arena c.requires.memo c.requires.reach c.node-n.ensures (sym c.group_of.ensures ∙ c.in-Extreme.is)

pub access-requires : goal.access-requires
access-requires c = takes c.args.arena.now c.args.memo.now c.args.id c.node-n.result group.Access c.len-count.ensures.arena c.requires.memo c.requires.reach c.node-n.ensures (sym c.group_of.ensures ∙ c.in-Access.is)
