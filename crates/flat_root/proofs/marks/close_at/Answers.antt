use Rattle.std.proofs.Common.{sym, ◌∙◌}
use Rattle.flat_reif.proofs.Gathering.{is_node}
use Rattle.flat_root.proofs.Marking.{closes_marked, closes_unmarked, on_ok_on}
use Rattle.flat_root.proofs.marks.close_at.Goals as goal

pub returns-then-has : goal.returns-then-has
returns-then-has c = on_ok_on c.add_children.result _ _ (closes_marked c.args.arena.now c.args.id c.node.result c.len-count.ensures.arena (is_node c.args.arena.now c.args.id c.node.result c.node.ensures) c.args.need.now c.add_children.new.need c.requires.total c.requires.closed (sym c.has.ensures ∙ c.if-has.true)) c.add_children.ensures

pub returns-else-has : goal.returns-else-has
returns-else-has c = closes_unmarked c.args.arena.now c.args.need.now c.args.id c.requires.total c.requires.closed (sym c.has.ensures ∙ c.if-has.false)
