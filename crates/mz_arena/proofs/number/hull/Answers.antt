use Rattle.std.proofs.Common.{◌≡◌, ◌<◌, List, length, pos, arith, sym, ap, subst, ◌∙◌}
use Rattle.std.proofs.lemmas.Int.{ints}
use Rattle.mz_value.specs.Ranges.{Range, AreCanonical, AreInLimit}
use Rattle.mz_operations.specs.Bounds.{hull_of_set}
use Rattle.mz_arena.proofs.Intervals.{IsHull, set_hull, empty_hull, pair_same}
use Rattle.mz_arena.proofs.number.hull.Goals as goal

abbrev zero : Range
zero = (pos 0, pos 0)

abbrev is_hull : (rs set : List Range) → rs ≡ set → AreCanonical set → AreInLimit set → 0 < length rs → IsHull rs zero
is_hull rs set e c all l = set_hull rs zero (subst (λ s. AreCanonical s) (sym e) c) (subst (λ s. AreInLimit s) (sym e) all) l

pub invariant_of-result-2 : goal.invariant_of-result-2
invariant_of-result-2 c =
    let h : IsHull c.ranges-ranges.result.now zero = is_hull c.ranges-ranges.result.now c.args.set.now c.ranges-ranges.ensures.ranges c.ranges-ranges.ensures.canonical c.ranges-ranges.ensures.limits (omega arith) in
    record { ordered = omega (arith, ints); lo_in_limit = omega (arith, ints); hi_in_limit = omega (arith, ints) }

pub returns : goal.returns
returns c =
    let h : IsHull c.ranges-ranges.result.now zero = is_hull c.ranges-ranges.result.now c.args.set.now c.ranges-ranges.ensures.ranges c.ranges-ranges.ensures.canonical c.ranges-ranges.ensures.limits (omega arith) in
    pair_same (hull_of_set c.ranges-ranges.result.now) _ _ (omega (arith, ints)) (omega (arith, ints)) ∙ ap hull_of_set c.ranges-ranges.ensures.ranges

pub returns-then-n-eq0 : goal.returns-then-n-eq0
returns-then-n-eq0 c = sym (empty_hull c.ranges-ranges.result.now c.if-n-eq0.true) ∙ ap hull_of_set c.ranges-ranges.ensures.ranges
