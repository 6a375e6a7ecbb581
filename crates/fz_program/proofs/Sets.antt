-- The test of a set that stands in a row, and what it says.
use Rattle.std.proofs.Common.{◌≡◌, List, [], ◌∷◌, ℤ, Bool, true, false, ◌&&◌, refl, sym, rules}
use Rattle.std.specs.Prelude.{int_le, ◌≤ℤ◌}
use Rattle.std.proofs.lemmas.Bool.{false≢true, and_parts}
use Rattle.mz_value.specs.Ranges.{Range, AreCanonical, AreInLimit, IsApart, IsInLimit, least, greatest}
use Rattle.mz_value.proofs.Comparisons.{int_le_true}
use Rattle.fz_program.specs.Flat.{is_set, is_apart, is_literal, is_literal_range, IsSet}

pub literal_is : (n : ℤ) → IsInLimit n → is_literal n ≡ true
literal_is n h = rw (int_le_true least n h.0, int_le_true n greatest h.1) refl

pub literal_in : (n : ℤ) → is_literal n ≡ true → IsInLimit n
literal_in n e = let parts = and_parts (int_le least n) (int_le n greatest) e in search (rules, parts)

apart_is : (r : Range) (rs : List Range) → IsApart r rs → is_apart r rs ≡ true
apart_is r [] h = refl
apart_is r (s ∷ ss) h = search (rules, h)

apart_in : (r : Range) (rs : List Range) → is_apart r rs ≡ true → IsApart r rs
apart_in r [] e = tt
apart_in r (s ∷ ss) e = search (rules, e)

-- a canonical set in the limit passes
pub set_is : (s : List Range) → AreCanonical s → AreInLimit s → is_set s ≡ true
unfolding is_set
set_is [] c l = refl
set_is (r ∷ rs) c l = rw (int_le_true r.0 r.1 c.0, literal_is r.0 l.0, literal_is r.1 l.1, apart_is r rs c.1, set_is rs c.2 l.2) refl

-- and no other does
pub set_in : (s : List Range) → is_set s ≡ true → IsSet s
unfolding is_set
set_in [] e = (tt, tt)
set_in (r ∷ rs) e =
    let one = and_parts (is_literal_range r) (is_apart r rs && is_set rs) e in
    let ends = and_parts (int_le r.0 r.1) (is_literal r.0 && is_literal r.1) one.0 in
    let literals = and_parts (is_literal r.0) (is_literal r.1) ends.1 in
    let more = and_parts (is_apart r rs) (is_set rs) one.1 in
    let rest = set_in rs more.1 in
    let ascends : r.0 ≤ℤ r.1 = search (rules, ends.0) in
    ((ascends, apart_in r rs more.0, rest.0), (literal_in r.0 literals.0, literal_in r.1 literals.1, rest.1))

-- so the test of a set of the code says nothing more
pub with_set : (b : Bool) (s : List Range) → AreCanonical s → AreInLimit s → b ≡ (b && is_set s)
with_set true s c l = sym (set_is s c l)
with_set false s c l = refl
