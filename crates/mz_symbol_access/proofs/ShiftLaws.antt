-- How far an index lies from the lower end of a range.
use Rattle.std.proofs.Common.{◌≡◌, ◌∙◌, ◌⊎◌, inl, inr, ℕ, ℤ, pos, ◌+ℤ◌, ◌-ℤ◌, int_le, int_lt, Bool, true, false, ◌&&◌, cond, Option, Some, None, refl, sym, ap, arith, if◌then◌else◌}
use Rattle.std.proofs.lemmas.Int.{ints}
use Rattle.std.specs.Int.{int_min, int_max}
use Rattle.mz_index.specs.Places.{Range, is_inside}
use Rattle.mz_operations.specs.declared.row.Arith.TheVariants.{Add}
use Rattle.mz_operations.specs.declared.row.Side.TheVariants.{Least, Greatest}
use Rattle.mz_operations.specs.Views.{◌>>=◌}
use Rattle.mz_operations.specs.Numbers.{computed, toward}
use Rattle.mz_arena.specs.Values.{Term, number, as_number, is_true, bit, and_term, arith_term, comparison_term, cons_term, extreme_term, guard_term}
use Rattle.mz_symbol_rows.proofs.RowLaws.{bit_true}
use Rattle.mz_symbol.specs.Runs.{Run}
use Rattle.mz_meaning.specs.Runs.{Out}
use Rattle.mz_symbol.specs.Readings.{Reading, node_meaning, state_of}
use Rattle.mz_symbol.proofs.ConstantLaws.{out_value, out_state}
use Rattle.mz_symbol_access.specs.StepsPlace.{whole, sum_node, inside_term, list_of_two, near_term, step_of, shift_term, IsShifted, Shifts, offset_in}

abbrev inside_of : Range → Option ℤ → Bool
inside_of r None = false
inside_of r (Some i) = is_inside r i

inside_by : (r : Range) (o : Option ℤ) (x : Term) → as_number x ≡ o → inside_term r x ≡ bit (inside_of r o)
unfolding and_term comparison_term
inside_by r None x e = rw (e) refl
inside_by r (Some i) x e = rw (e) (ap (λ p. bit (p && is_true (bit (int_le i r.1)))) (bit_true (int_le r.0 i)) ∙ ap (λ p. bit (int_le r.0 i && p)) (bit_true (int_le i r.1)))

inside_is : (r : Range) (x : Term) → inside_term r x ≡ bit (inside_of r (as_number x))
inside_is r x = inside_by r (as_number x) x refl

-- ---- an index that lies in the range

least_inside : (i hi : ℤ) → int_le i hi ≡ true → int_min i hi ≡ i
least_inside i hi h = by (int_lt hi i) refl
  where
    by : (t : Bool) → int_lt hi i ≡ t → cond t hi i ≡ i
    by true e = absurd (omega (arith, ints))
    by false e = refl

greatest_inside : (lo i : ℤ) → int_le lo i ≡ true → int_max i lo ≡ i
greatest_inside lo i h = by (int_lt lo i) refl
  where
    by : (t : Bool) → int_lt lo i ≡ t → cond t i lo ≡ i
    by true e = refl
    by false e = omega (arith, ints)

both_true : (p q : Bool) → (p && q) ≡ true → (p ≡ true) × (q ≡ true)
both_true true q h = (refl, h)
both_true false q h = absurd (cc)

pub extreme_two : (n m : ℤ) → extreme_term Least (list_of_two (whole n) (whole m)) ≡ whole (int_min n m)
unfolding extreme_term cons_term toward
extreme_two n m = refl

pub extreme_two_up : (n m : ℤ) → extreme_term Greatest (list_of_two (whole n) (whole m)) ≡ whole (int_max n m)
unfolding extreme_term cons_term toward
extreme_two_up n m = refl

near_inside : (r : Range) (i : ℤ) → is_inside r i ≡ true → near_term r (whole i) ≡ whole i
near_inside r i h =
    let p = both_true (int_le r.0 i) (int_le i r.1) h in
    ap (λ x. extreme_term Greatest (list_of_two x (whole r.0))) (extreme_two i r.1 ∙ ap (λ n. whole n) (least_inside i r.1 p.1))
    ∙ extreme_two_up i r.0
    ∙ ap (λ n. whole n) (greatest_inside r.0 i p.0)

pub shift_number : (r : Range) (one : Bool) (i : ℤ) → shift_term r one (whole i) ≡ whole (i +ℤ step_of r one)
unfolding arith_term computed
shift_number r one i = refl

-- ---- an offset

guard_true : (p : Bool) (y : Term) → p ≡ true → guard_term (bit p) y ≡ y
unfolding guard_term
guard_true true y h = refl
guard_true false y h = absurd (cc)

guard_false : (p : Bool) (y : Term) → p ≡ false → guard_term (bit p) y ≡ None
unfolding guard_term
guard_false false y h = refl
guard_false true y h = absurd (cc)

pub no_step : (i n : ℤ) → n ≡ pos 0 → i ≡ i +ℤ n
no_step i n e = omega (arith, ints, e)

shifts_inside : (range : Range) (one : Bool) (i : ℤ) (z : Term) → is_inside range i ≡ true → IsShifted range one (whole i) z → z ≡ whole (i +ℤ step_of range one)
shifts_inside range one i z h (inl e) = e ∙ shift_number range one i
shifts_inside range one i z h (inr (inl e)) = e ∙ ap (shift_term range one) (near_inside range i h) ∙ shift_number range one i
shifts_inside range one i z h (inr (inr e)) = e.1 ∙ ap (λ n. whole n) (no_step i (step_of range one) e.0)

offset_some : (range : Range) (one : Bool) (i : ℤ) (z : Term) (p : Bool) → is_inside range i ≡ p → IsShifted range one (whole i) z → guard_term (bit (is_inside range i)) z ≡ (if is_inside range i then whole (i +ℤ step_of range one) else None)
offset_some range one i z true h s = guard_true (is_inside range i) z h ∙ shifts_inside range one i z h s ∙ ap (λ b. if b then whole (i +ℤ step_of range one) else None) (sym h)
offset_some range one i z false h s = guard_false (is_inside range i) z h ∙ ap (λ b. if b then whole (i +ℤ step_of range one) else None) (sym h)

offset_by : (range : Range) (one : Bool) (x z : Term) → IsShifted range one x z → guard_term (bit (inside_of range (as_number x))) z ≡ offset_in range one (as_number x)
offset_by range one None z s = guard_false false z refl
offset_by range one (Some (number i)) z s = offset_some range one i z (is_inside range i) refl s
offset_by range one (Some v) z s = guard_false false z refl

pub offset_is : (r : Reading) (old new : Run) (range : Range) (one : Bool) (x id : ℕ) → Shifts r old new range one x id → guard_term (inside_term range (r.term x)) (r.term id) ≡ offset_in range one (as_number (r.term x))
offset_is r old new range one x id s = ap (λ b. guard_term b (r.term id)) (inside_is range (r.term x)) ∙ offset_by range one (r.term x) (r.term id) s.is

-- ---- what the calls say

pub shifts_direct : (r : Reading) (old m new : Run) (range : Range) (one : Bool) (x back id : ℕ) → Out (whole (step_of range one)) (state_of r old) ≡ Out (r.term back) (state_of r m) → state_of r m ≡ state_of r new → r.term id ≡ node_meaning r (sum_node x back) → Shifts r old new range one x id
shifts_direct r old m new range one x back id b s e = record {
  same = out_state b ∙ s;
  is = inl (e ∙ ap (arith_term Add (r.term x)) (sym (out_value b)));
}

pub shifts_near : (r : Reading) (old m n new : Run) (range : Range) (one : Bool) (x back id : ℕ) → Out (whole (step_of range one)) (state_of r old) ≡ Out (r.term back) (state_of r m) → state_of r m ≡ state_of r n → Out (shift_term range one (near_term range (r.term x))) (state_of r n) ≡ Out (r.term id) (state_of r new) → Shifts r old new range one x id
shifts_near r old m n new range one x back id b s e = record {
  same = out_state b ∙ s ∙ out_state e;
  is = inr (inl (sym (out_value e)));
}

pub shifts_not : (r : Reading) (s : Run) (range : Range) (one : Bool) (x : ℕ) → one ≡ true → range.0 ≡ pos 1 → Shifts r s s range one x x
shifts_not r s range true x o e = record { same = refl; is = inr (inr (none range.0 e, refl)) }
  where
    none : (n : ℤ) → n ≡ pos 1 → pos 1 -ℤ n ≡ pos 0
    none n e = omega (arith, ints, e)
shifts_not r s range false x o e = absurd (cc)
