use Rattle.std.proofs.Common.{◌≡◌, ap, ◌∙◌}
use Rattle.mz_value.specs.Ranges.{IsDifference, least}
use Rattle.mz_value.specs.StepsWalks.{common, gaps}
use Rattle.mz_value.proofs.Sets.{IsSound, Makes, makes_difference, sound_same}
use Rattle.mz_value.proofs.range_set.RangeSet.diff.Goals as goal
use Rattle.mz_value.proofs.range_set.RangeSet.diff.Goals.{In_ok-ranges}

own : (c : In_ok-ranges) → IsSound c.args.self.now
own c = sound_same _ _ c.self.view_is c.self.invariant

other : (c : In_ok-ranges) → IsSound c.args.other.now
other c = sound_same _ _ c.other.view_is c.other.invariant

made : (c : In_ok-ranges) → Makes IsDifference c.args.self.now c.args.other.now c.in_ok-ranges.ranges.items
made c =
    let that : c.deref.result.now ≡ c.args.other.now = c.deref.ensures.value ∙ c.other.view_is in
    let this : c.deref-2.result.now ≡ c.args.self.now = c.deref-2.ensures.value ∙ c.self.view_is in
    let missing : c.deref-3.result.now ≡ gaps least c.args.other.now = c.deref-3.ensures.value ∙ c.in_ok-missing.ensures ∙ ap (gaps least) that in
    makes_difference c.args.self.now c.args.other.now c.in_ok-ranges.ranges.items (own c) (other c)
    (c.in_ok-ranges.ensures ∙ ap (λ s. common s c.deref-3.result.now) this ∙ ap (common c.args.self.now) missing)

pub invariant_of-result : goal.invariant_of-result
invariant_of-result c = let m = made (goal.at.invariant_of-result c).In_ok-ranges in (m.1, m.2)

pub returns-clause-members : goal.returns-clause-members
returns-clause-members c = (made (goal.at.returns-clause-members c).In_ok-ranges).0

pub returns-clause-canonical : goal.returns-clause-canonical
returns-clause-canonical c = (made (goal.at.returns-clause-canonical c).In_ok-ranges).1

pub returns-clause-limits : goal.returns-clause-limits
returns-clause-limits c = (made (goal.at.returns-clause-limits c).In_ok-ranges).2
