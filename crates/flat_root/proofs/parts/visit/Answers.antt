use Rattle.std.proofs.Common.{ap, sym, ◌∙◌}
use Rattle.flat_reif.proofs.Gathering.{is_node}
use Rattle.flat_root.specs.Turns.{met_in}
use Rattle.flat_root.proofs.Marking.{on_ok_on}
use Rattle.flat_root.proofs.Parting.{visited_seen, visited_leaf, visited_and}
use Rattle.flat_root.proofs.Turning.{met_more, met_up_to}
use Rattle.flat_root.proofs.parts.visit.Goals as goal

pub returns-then-is_met-clause-visits : goal.returns-then-is_met-clause-visits
returns-then-is_met-clause-visits c = visited_seen c.args.arena.now c.len-count.ensures.arena c.args.id c.args.stack.now.items (met_in c.args.turn c.args.marks.now.items) c.args.parts.now.items (sym (ap (λ ms. met_in c.args.turn ms c.args.id) c.as_slice.ensures.value) ∙ sym c.is_met.ensures ∙ c.if-is_met.true)

pub returns-then-is_and-clause-visits : goal.returns-then-is_and-clause-visits
returns-then-is_and-clause-visits c = on_ok_on c.push_both.result _ _ (visited_and c.args.arena.now c.len-count.ensures.arena c.args.id c.args.stack.now.items (met_in c.args.turn c.args.marks.now.items) c.args.parts.now.items c.requires.place (sym (ap (λ ms. met_in c.args.turn ms c.args.id) c.as_slice.ensures.value) ∙ sym c.is_met.ensures ∙ c.if-is_met.false) (met_in c.args.turn c.meet.new.marks.items) (met_more c.args.marks.now.items c.meet.new.marks.items c.args.id c.args.turn c.in-Ok.ensures) c.node-n.result (is_node c.args.arena.now c.args.id c.node-n.result c.node-n.ensures) (sym c.is_and.ensures ∙ c.if-is_and.true) c.push_both.new.stack.items) c.push_both.ensures

pub returns-then-is_and-clause-marks : goal.returns-then-is_and-clause-marks
returns-then-is_and-clause-marks c = on_ok_on c.push_both.result _ _ (λ _. met_up_to c.args.marks.now.items c.meet.new.marks.items c.args.id c.args.turn c.in-Ok.ensures c.requires.marks) c.push_both.ensures

pub returns-else-is_and-clause-visits : goal.returns-else-is_and-clause-visits
returns-else-is_and-clause-visits c = on_ok_on c.push_part.result _ _ (visited_leaf c.args.arena.now c.len-count.ensures.arena c.args.id c.args.stack.now.items (met_in c.args.turn c.args.marks.now.items) c.args.parts.now.items c.requires.place (sym (ap (λ ms. met_in c.args.turn ms c.args.id) c.as_slice.ensures.value) ∙ sym c.is_met.ensures ∙ c.if-is_met.false) (met_in c.args.turn c.meet.new.marks.items) (met_more c.args.marks.now.items c.meet.new.marks.items c.args.id c.args.turn c.in-Ok.ensures) c.node-n.result (is_node c.args.arena.now c.args.id c.node-n.result c.node-n.ensures) (sym c.is_and.ensures ∙ c.if-is_and.false) c.push_part.new.parts.items) c.push_part.ensures

pub returns-else-is_and-clause-marks : goal.returns-else-is_and-clause-marks
returns-else-is_and-clause-marks c = on_ok_on c.push_part.result _ _ (λ _. met_up_to c.args.marks.now.items c.meet.new.marks.items c.args.id c.args.turn c.in-Ok.ensures c.requires.marks) c.push_part.ensures
