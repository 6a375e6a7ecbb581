-- A truth value at a place, as an integer.
use Rattle.std.proofs.Common.{◌≡◌, ◌∙◌, ℕ, ℤ, pos, int_le, Bool, true, false, ◌&&◌, Option, Some, None, IsSome, refl, sym, ap, if◌then◌else◌}
use Rattle.mz_value.specs.Contents.{Content}
use Rattle.mz_core.specs.declared.types.Base.TheVariants as base
use Rattle.mz_arena.specs.Values.{Term, as_number, holds, is_true, bit, access_term, and_term, comparison_term, guard_term, to_int_term}
use Rattle.mz_symbol.specs.Symbols.{value_by}
use Rattle.mz_symbol_rows.proofs.MakingLaws.{whole_kept}
use Rattle.mz_symbol_access.specs.StepsAlone.{is_among}
use Rattle.mz_symbol_access.specs.StepsTruth.{among_term, truth_term}

pub guarded_true : (d x : Term) → is_true d ≡ true → guard_term d x ≡ x
unfolding guard_term
guarded_true d x h = ap (λ p. if p then x else None) h

pub guarded_false : (d x : Term) → is_true d ≡ false → guard_term d x ≡ None
unfolding guard_term
guarded_false d x h = ap (λ p. if p then x else None) h

-- ---- the place

both_bits : (p q : Bool) → is_true (bit (is_true (bit p) && is_true (bit q))) ≡ p && q
both_bits true true = refl
both_bits true false = refl
both_bits false q = refl

abbrev among_by : ℕ → Option ℤ → Bool
among_by n o = is_true (bit (is_true (bit (holds (Some (pos 1)) o int_le)) && is_true (bit (holds o (Some (pos n)) int_le))))

among_is : (n : ℕ) (x : Term) (m : ℤ) → as_number x ≡ Some m → is_true (among_term n x) ≡ is_among n m
unfolding and_term comparison_term
among_is n x m e = ap (among_by n) e ∙ both_bits (int_le (pos 1) m) (int_le m (pos n))

among_none : (n : ℕ) (x : Term) → as_number x ≡ None → is_true (among_term n x) ≡ false
unfolding and_term comparison_term
among_none n x e = ap (among_by n) e

-- ---- the value there

-- a place among so many has a number, and no other place has one
pub record HasTruths (n : ℕ) (x list : Term) : Type 0 where
  pub there : (m : ℤ) → as_number x ≡ Some m → is_among n m ≡ true → IsSome (value_by base.Bool (access_term x list))
  pub beyond : (m : ℤ) → as_number x ≡ Some m → is_among n m ≡ false → access_term x list ≡ None
  pub nowhere : as_number x ≡ None → access_term x list ≡ None

kept : (x : Term) (o : Option Content) → value_by base.Bool x ≡ o → IsSome o → value_by base.Bool (to_int_term x) ≡ value_by base.Bool x
kept x (Some c) e h = sym (whole_kept base.Bool x c e)
kept x None e h = absurd (cc)

lost : (n : ℕ) (x list : Term) → is_true (among_term n x) ≡ false → access_term x list ≡ None → value_by base.Bool (truth_term n x list) ≡ value_by base.Bool (access_term x list)
lost n x list h e = ap (value_by base.Bool) (guarded_false (among_term n x) (to_int_term (access_term x list)) h) ∙ ap (value_by base.Bool) (sym e)

pub truth_read : (n : ℕ) (x list : Term) → HasTruths n x list → value_by base.Bool (truth_term n x list) ≡ value_by base.Bool (access_term x list)
truth_read n x list w = by (as_number x) refl
  where
    at : (m : ℤ) (p : Bool) → as_number x ≡ Some m → is_among n m ≡ p → value_by base.Bool (truth_term n x list) ≡ value_by base.Bool (access_term x list)
    at m true e h =
        ap (value_by base.Bool) (guarded_true (among_term n x) (to_int_term (access_term x list)) (among_is n x m e ∙ h))
        ∙ kept (access_term x list) (value_by base.Bool (access_term x list)) refl (w.there m e h)
    at m false e h = lost n x list (among_is n x m e ∙ h) (w.beyond m e h)

    by : (o : Option ℤ) → as_number x ≡ o → value_by base.Bool (truth_term n x list) ≡ value_by base.Bool (access_term x list)
    by None e = lost n x list (among_none n x e) (w.nowhere e)
    by (Some m) e = at m (is_among n m) e refl

pub truth_nowhere : (n : ℕ) (list : Term) → truth_term n None list ≡ None
truth_nowhere n list = guarded_false (among_term n None) (to_int_term (access_term None list)) (among_none n None refl)
