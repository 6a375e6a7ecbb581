use Rattle.std.proofs.Common.{◌<◌, subst, sym, ◌∙◌}
use Rattle.std.proofs.lemmas.List.{nil_from_length}
use Rattle.flat_root.specs.Parts.{SplitSoFar, effort}
use Rattle.flat_root.specs.Turns.{met_in}
use Rattle.flat_root.proofs.Parting.{split_begins, split_all, here}
use Rattle.flat_root.proofs.Turning.{none_met, up_to_before}
use Rattle.flat_root.proofs.parts.split.Goals as goal

pub next-init : goal.next-init
next-init c = (split_begins c.args.arena.now c.args.ids.now c.in-Ok.x.items (met_in c.args.turn c.args.marks.now.items) c.new-parts.result.items c.requires.parts c.in-Ok.ensures (none_met c.args.marks.now.items c.args.turn c.requires.marks) c.new-parts.ensures.items, up_to_before c.args.marks.now.items c.args.turn c.requires.marks)

pub visit-requires-clause-place : goal.visit-requires-clause-place
visit-requires-clause-place c = (here c.args.arena.now c.args.ids.now c.pop.new.self.items c.in-Some.id (met_in c.args.turn c.next.marks.items) c.next.parts.items (subst (λ is. SplitSoFar c.args.arena.now c.args.ids.now is (met_in c.args.turn c.next.marks.items) c.next.parts.items) c.in-Some.ensures.items c.next.invariant.0)).root.place

pub visit-requires-clause-marks : goal.visit-requires-clause-marks
visit-requires-clause-marks c = c.next.invariant.1

pub next-smaller : goal.next-smaller
next-smaller c = subst (λ is. effort c.args.arena.now c.visit.new.stack.items (met_in c.args.turn c.visit.new.marks.items) < effort c.args.arena.now is (met_in c.args.turn c.next.marks.items)) (sym c.in-Some.ensures.items) c.in-Ok-visit.ensures.visits.less

pub next-preserved : goal.next-preserved
next-preserved c = (c.in-Ok-visit.ensures.visits.so_far c.args.ids.now (subst (λ is. SplitSoFar c.args.arena.now c.args.ids.now is (met_in c.args.turn c.next.marks.items) c.next.parts.items) c.in-Some.ensures.items c.next.invariant.0), c.in-Ok-visit.ensures.marks)

pub returns-in-None-clause-split : goal.returns-in-None-clause-split
returns-in-None-clause-split c = split_all c.args.arena.now c.len-count.ensures.arena c.args.ids.now (met_in c.args.turn c.next.marks.items) c.next.parts.items (subst (λ is. SplitSoFar c.args.arena.now c.args.ids.now is (met_in c.args.turn c.next.marks.items) c.next.parts.items) (nil_from_length c.next.stack.items (sym c.next.stack.ok.0 ∙ c.in-None.ensures.cases.0)) c.next.invariant.0)

pub returns-in-None-clause-marks : goal.returns-in-None-clause-marks
returns-in-None-clause-marks c = c.next.invariant.1
