use Rattle.std.proofs.Common.{◌≡◌, ap, ◌∙◌, sym, subst, List}
use Rattle.mz_value.specs.Ranges.{Range, IsUnion, AreInLimit}
use Rattle.mz_value.specs.StepsWalks.{merged, joined}
use Rattle.mz_value.proofs.Joined.{merged_limit}
use Rattle.mz_value.proofs.Sets.{IsSound, Makes, makes_union, sound_same}
use Rattle.mz_value.proofs.range_set.RangeSet.union.Goals as goal
use Rattle.mz_value.proofs.range_set.RangeSet.union.Goals.{In_ok-ranges}

own : (c : In_ok-ranges) → IsSound c.args.self.now
own c = sound_same _ _ c.self.view_is c.self.invariant

other : (c : In_ok-ranges) → IsSound c.args.other.now
other c = sound_same _ _ c.other.view_is c.other.invariant

made : (c : In_ok-ranges) → Makes IsUnion c.args.self.now c.args.other.now c.in_ok-ranges.ranges.items
made c =
    let this : c.deref.result.now ≡ c.args.self.now = c.deref.ensures.value ∙ c.self.view_is in
    let that : c.deref-2.result.now ≡ c.args.other.now = c.deref-2.ensures.value ∙ c.other.view_is in
    let all : c.deref-3.result.now ≡ merged c.args.self.now c.args.other.now = c.deref-3.ensures.value ∙ c.in_ok-all.ensures ∙ ap (λ s. merged s c.deref-2.result.now) this ∙ ap (merged c.args.self.now) that in
    makes_union c.args.self.now c.args.other.now c.in_ok-ranges.ranges.items (own c) (other c) (c.in_ok-ranges.ensures ∙ ap joined all)

pub invariant_of-result : goal.invariant_of-result
invariant_of-result c = let m = made (goal.at.invariant_of-result c).In_ok-ranges in (m.1, m.2)

pub returns-clause-members : goal.returns-clause-members
returns-clause-members c = (made (goal.at.returns-clause-members c).In_ok-ranges).0

pub returns-clause-canonical : goal.returns-clause-canonical
returns-clause-canonical c = (made (goal.at.returns-clause-canonical c).In_ok-ranges).1

pub returns-clause-limits : goal.returns-clause-limits
returns-clause-limits c = (made (goal.at.returns-clause-limits c).In_ok-ranges).2

pub joined-requires : goal.joined-requires
joined-requires c =
    let this : c.deref.result.now ≡ c.args.self.now = c.deref.ensures.value ∙ c.self.view_is in
    let that : c.deref-2.result.now ≡ c.args.other.now = c.deref-2.ensures.value ∙ c.other.view_is in
    let all : c.deref-3.result.now ≡ merged c.args.self.now c.args.other.now = c.deref-3.ensures.value ∙ c.in_ok-all.ensures ∙ ap (λ s. merged s c.deref-2.result.now) this ∙ ap (merged c.args.self.now) that in
    let a = sound_same _ _ c.self.view_is c.self.invariant in
    let b = sound_same _ _ c.other.view_is c.other.invariant in
    let P : List Range → Type 0 = AreInLimit in
    subst P (sym all) (merged_limit c.args.self.now c.args.other.now a.1 b.1)
