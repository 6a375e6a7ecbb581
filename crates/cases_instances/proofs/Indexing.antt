-- Index ranges that a test takes.
use Rattle.std.proofs.Common.{◌≡◌, ◌↔◌, ℕ, ◌*◌, ℤ, pos, ◌≤ℤ◌, List, [], ◌∷◌, Bool, true, false, ◌&&◌, Some, inl, inr, refl, sym, ap, subst, ◌∙◌, int_le, arith, rules}
use Rattle.std.proofs.lemmas.Int.{ints}
use Rattle.std.specs.Prelude.{IsTrue}
use Rattle.std.specs.List.{list_all}
use Rattle.std.specs.Ordering.{int_eq}
use Rattle.std.proofs.lemmas.Bool.{and_parts}
use Rattle.std.proofs.lemmas.Bool.Decides.{Decides-int_eq}
use Rattle.mz_value.specs.Ranges.{Range, IsInLimit, least, greatest, cardinality, range_of}
use Rattle.mz_operations.specs.Arrays as operations
use Rattle.mz_instance.specs.Instance.{IsIndex, IsCounted, IsIndexRange, AreIndexRanges}
use Rattle.fz_program.specs.Flat.{is_index_range, is_index, is_literal, place_count}

-- the FlatZinc side's count is the model's
pub counts : (ix : List Range) → place_count ix ≡ operations.place_count ix
unfolding place_count operations.place_count
counts [] = refl
counts (r ∷ rs) = ap (λ n. cardinality (range_of r.0 r.1) * n) (counts rs)

at_most : (a b : ℤ) → int_le a b ≡ true → a ≤ℤ b
at_most a b h = search (rules, ints)

literal : (n : ℤ) → is_literal n ≡ true → IsInLimit n
literal n h = let p = and_parts (int_le least n) (int_le n greatest) h in (at_most least n p.0, at_most n greatest p.1)

index_range : (r : Range) → is_index_range r ≡ true → IsIndexRange r
index_range r h = by (int_eq r.0 (pos 1) && int_eq r.1 (pos 0)) refl
  where
    by : (b : Bool) → (int_eq r.0 (pos 1) && int_eq r.1 (pos 0)) ≡ b → IsIndexRange r
    by true e =
        let p = and_parts (int_eq r.0 (pos 1)) (int_eq r.1 (pos 0)) e in
        let low = (Decides-int_eq r.0 (pos 1)).0 p.0 in
        let high = (Decides-int_eq r.1 (pos 0)).0 p.1 in
        let none : ◌≡◌ {A = Range} r (pos 1, pos 0) = ap (λ n. (n, r.1)) low ∙ ap (λ n. (pos 1, n)) high in
        record { ordered = inl none; least = subst IsInLimit (sym low) (omega (arith, ints), omega (arith, ints)); greatest = subst IsInLimit (sym high) (omega (arith, ints), omega (arith, ints)) }
    by false e =
        let other : (int_le r.0 r.1 && (is_literal r.0 && is_literal r.1)) ≡ true = cc in
        let p = and_parts (int_le r.0 r.1) (is_literal r.0 && is_literal r.1) other in
        let q = and_parts (is_literal r.0) (is_literal r.1) p.1 in
        record { ordered = inr (at_most r.0 r.1 p.0); least = literal r.0 q.0; greatest = literal r.1 q.1 }

index_ranges : (rs : List Range) → list_all is_index_range rs ≡ true → AreIndexRanges rs
index_ranges [] h = tt
index_ranges (r ∷ rs) h = let p = and_parts (is_index_range r) (list_all is_index_range rs) h in (index_range r p.0, index_ranges rs p.1)

index_is : (ix : List Range) → is_index ix ≡ true → IsIndex (Some ix)
index_is [] h = absurd (cc)
index_is (r ∷ rs) h = ((λ e. absurd (cc)), index_ranges (r ∷ rs) h)

pub array_given : (ix : List Range) (n : ℕ) (b : Bool) → {a : Bool} → a ≡ is_index ix → a ≡ true → (IsTrue b ↔ (place_count ix ≡ n)) → b ≡ true → IsIndex (Some ix) × IsCounted (Some ix) n
array_given ix n b h t c is = (index_is ix (sym h ∙ t), sym (c.0 is) ∙ counts ix)
