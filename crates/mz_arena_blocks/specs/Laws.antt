-- Hulls and unions are associative.
use Rattle.std.specs.Prelude.{◌≡◌, List}
use Rattle.std.proofs.Common.{◌∙◌, inl, inr, ⊎_elim, arith}
use Rattle.std.proofs.lemmas.Int.{ints, clamps}
use Rattle.mz_value.specs.Ranges.{Range}
use Rattle.mz_interval.specs.Ends.{Ends, hull_of}
use Rattle.mz_operations.specs.Sets.{union}
use Rattle.mz_operations.specs.Laws.{IsSet}
use Rattle.mz_operations.proofs.SetMembers.{union_set, union_members, union_is}

same_ends : (a b : Ends) → a.0 ≡ b.0 → a.1 ≡ b.1 → a ≡ b
same_ends (x, y) (z, w) p q = cc

pub hull_associative : (a b c : Ends) → hull_of (hull_of a b) c ≡ hull_of a (hull_of b c)
hull_associative a b c = same_ends (hull_of (hull_of a b) c) (hull_of a (hull_of b c)) (omega (arith, ints, clamps)) (omega (arith, ints, clamps))

pub union_fits : (a b : List Range) → IsSet a → IsSet b → IsSet (union a b)
union_fits a b p q = union_set a b p q

pub union_associative : (a b c : List Range) → IsSet a → IsSet b → IsSet c → union (union a b) c ≡ union a (union b c)
union_associative a b c p q r =
    let ab = union_set a b p q in
    let bc = union_set b c q r in
    let left = union_members a b p q in
    let right = union_members b c q r in
    let all = union_members (union a b) c ab r in
    union_is a (union b c) (union (union a b) c) p bc (λ x. (
      λ m. ⊎_elim (λ n. ⊎_elim (λ k. inl k) (λ k. inr ((right x).1 (inl k))) ((left x).0 n)) (λ n. inr ((right x).1 (inr n))) ((all x).0 m),
      λ m. (all x).1 (⊎_elim (λ k. inl ((left x).1 (inl k))) (λ n. ⊎_elim (λ k. inl ((left x).1 (inr k))) (λ k. inr k) ((right x).0 n)) m),
    )) (union_set (union a b) c ab r).0
