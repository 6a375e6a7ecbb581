use Rattle.std.proofs.Common.{◌≡◌, ap, ◌∙◌, sym, subst, List}
use Rattle.std.specs.Prelude.{ℤ}
use Rattle.std.specs.List.Sorted.{IsPermutation}
use Rattle.mz_value.specs.Ranges.{Range, AreInLimit}
use Rattle.mz_value.specs.StepsWalks.{joined}
use Rattle.mz_value.proofs.Sorted.{MakesSet, makes_set, limit_sorted, singles}
use Rattle.mz_value.proofs.range_set.RangeSet.of.Goals as goal
use Rattle.mz_value.proofs.range_set.RangeSet.of.Goals.{In_ok-ranges, After-deref-2}

sorted : (c : After-deref-2) → IsPermutation c.args.items.now c.sort_unstable.new.self.items
sorted c = let P : List ℤ → Type 0 = λ xs. IsPermutation xs c.sort_unstable.new.self.items in subst P c.in_ok-sorted.ensures.items c.sort_unstable.ensures.permutation

all : (c : After-deref-2) → c.deref-2.result.now ≡ singles c.sort_unstable.new.self.items
all c = c.deref-2.ensures.value ∙ c.in_ok-single.ensures ∙ ap singles c.deref.ensures.value

pub joined-requires : goal.joined-requires
joined-requires c = let P : List Range → Type 0 = AreInLimit in subst P (sym (all c)) (limit_sorted c.args.items.now _ c.requires (sorted c))

permuted : (c : In_ok-ranges) → IsPermutation c.args.items.now c.sort_unstable.new.self.items
permuted c = let P : List ℤ → Type 0 = λ xs. IsPermutation xs c.sort_unstable.new.self.items in subst P c.in_ok-sorted.ensures.items c.sort_unstable.ensures.permutation

made : (c : In_ok-ranges) → MakesSet c.args.items.now c.in_ok-ranges.ranges.items
made c =
    makes_set c.args.items.now c.sort_unstable.new.self.items c.in_ok-ranges.ranges.items c.requires (permuted c) c.sort_unstable.ensures.sorted
    (c.in_ok-ranges.ensures ∙ ap joined (c.deref-2.ensures.value ∙ c.in_ok-single.ensures ∙ ap singles c.deref.ensures.value))

pub invariant_of-result : goal.invariant_of-result
invariant_of-result c = let m = made (goal.at.invariant_of-result c).In_ok-ranges in (m.1, m.2)

pub returns-clause-members : goal.returns-clause-members
returns-clause-members c = (made (goal.at.returns-clause-members c).In_ok-ranges).0

pub returns-clause-canonical : goal.returns-clause-canonical
returns-clause-canonical c = (made (goal.at.returns-clause-canonical c).In_ok-ranges).1

pub returns-clause-limits : goal.returns-clause-limits
returns-clause-limits c = (made (goal.at.returns-clause-limits c).In_ok-ranges).2
