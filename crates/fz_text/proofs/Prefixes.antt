-- What follows a text, a run of bytes, a number and a name.
use Rattle.std.proofs.Common.{◌≡◌, ℕ, zero, suc, ◌+◌, ◌-◌, ◌*◌, ◌/◌, ◌%◌, ◌^◌, ◌<◌, ◌≤◌, ◌==◌, List, [], ◌∷◌, ◌++◌, length, length-append, take, drop, Bool, true, false, cond, refl, sym, ap, ◌∙◌, arith, tests, Some, None}
use Rattle.std.specs.Prelude.{◌&&◌, nat_eq, min, ℤ, pos, negsuc, ◌≤ℤ◌}
use Rattle.std.specs.List.{prefix_len, list_all}
use Rattle.std.specs.Fmt.{decimal, digit_glyph, digits, digits_onto, signed_decimal}
use Rattle.std.proofs.lemmas.Bool.{false≢true, eqb-true, and_parts}
use Rattle.std.proofs.lemmas.Int.{ints}
use Rattle.std.proofs.lemmas.Nat.{div-add-mod'}
use Rattle.std.proofs.lemmas.Fmt.{decimal_by_steps}
use Rattle.mz_value.specs.Ranges.{IsInLimit}
use Rattle.mz_base.specs.Words.{is_word}
use Rattle.fz_items.specs.Bytes.{is_digit, is_letter, is_name_byte, first_byte}
use Rattle.fz_items.specs.Items.{digits_at, number_from, past}
use Rattle.fz_text_read.specs.Lines.{is_no_colon}
use Rattle.fz_text_read.specs.Tokens.{behind, number_at, natural_at, negative_at, name_at}

-- a byte that passes a test isn't one that fails it
pub other_byte : (p : ℕ → Bool) (b k : ℕ) → p b ≡ true → p k ≡ false → nat_eq b k ≡ false
other_byte p b k is fails = by (nat_eq b k) refl
  where
    by : (t : Bool) → nat_eq b k ≡ t → nat_eq b k ≡ false
    by false e = e
    by true e = absurd (false≢true (sym fails ∙ ap p (sym (eqb-true b k e)) ∙ is))

-- ---- a text that doesn't stand first

turned : (a b : ℕ) → nat_eq a b ≡ false → nat_eq b a ≡ false
turned a b e = grind (arith, tests)

pub not_behind : (c : ℕ) (cs bs : List ℕ) → nat_eq (first_byte bs) c ≡ false → behind (c ∷ cs) bs ≡ None
unfolding behind
not_behind c cs [] e = refl
not_behind c cs (b ∷ bs) e = rw (turned b c e) refl

-- ---- runs

pub run_is : (p : ℕ → Bool) (w bs : List ℕ) → list_all p w ≡ true → p (first_byte bs) ≡ false → prefix_len p (w ++ bs) ≡ length w
run_is p [] [] all stop = refl
run_is p [] (b ∷ bs) all stop = rw stop refl
run_is p (b ∷ w) bs all stop =
    let parts = and_parts (p b) (list_all p w) all in
    ap (λ t. cond t (1 + prefix_len p (w ++ bs)) 0) parts.0 ∙ omega (arith, run_is p w bs parts.1 stop)

pub take_prefix : (w bs : List ℕ) → take (length w) (w ++ bs) ≡ w
take_prefix [] bs = refl
take_prefix (b ∷ w) bs = ap (λ v. b ∷ v) (take_prefix w bs)

pub drop_prefix : (w bs : List ℕ) → drop (length w) (w ++ bs) ≡ bs
drop_prefix [] bs = refl
drop_prefix (b ∷ w) bs = drop_prefix w bs

all_push : (p : ℕ → Bool) (ds : List ℕ) (d : ℕ) → list_all p ds ≡ true → p d ≡ true → list_all p (ds ++ d ∷ []) ≡ true
all_push p [] d all e = rw e refl
all_push p (x ∷ ds) d all e = let parts = and_parts (p x) (list_all p ds) all in rw (parts.0, all_push p ds d parts.1 e) refl

-- ---- numbers

from_push : (n : ℕ) (ds : List ℕ) (d : ℕ) → number_from n (ds ++ d ∷ []) ≡ min (number_from n ds * 10 + (d - 48)) past
from_push n [] d = refl
from_push n (x ∷ ds) d = from_push (min (n * 10 + (x - 48)) past) ds d

-- a number's digits, and what they are read to
pub record IsNumeral (n : ℕ) (ds : List ℕ) : Type 0 where
  pub digits : list_all is_digit ds ≡ true
  pub value : n < past → number_from 0 ds ≡ n
  pub some : 0 < length ds

digit_is : (n : ℕ) → n < 10 → is_digit (48 + n) ≡ true
digit_is n h = grind (arith, tests)

one_digit : (n : ℕ) → n < 10 → IsNumeral n ((48 + n) ∷ [])
one_digit n h = record { digits = rw (digit_is n h) refl; value = λ small. first_of (omega arith, grind (arith, tests)); some = omega arith }

more_digits : (n : ℕ) (ds : List ℕ) → 10 ≤ n → IsNumeral (n / 10) ds → IsNumeral n (ds ++ ((48 + n % 10) ∷ []))
more_digits n ds h before =
    let parts = div-add-mod' n 10 in
    let last : n % 10 < 10 = omega arith in
    record {
      digits = all_push is_digit ds (48 + n % 10) before.digits (digit_is (n % 10) last);
      value = λ small. from_push 0 ds (48 + n % 10) ∙ rw (before.value (omega (arith, parts))) (first_of (omega (arith, parts), grind (arith, parts)));
      some = omega (arith, length-append ds ((48 + n % 10) ∷ []));
    }

pub numeral : (n : ℕ) → n < 2 ^ 64 → IsNumeral n (decimal n)
numeral n h = decimal_by_steps IsNumeral one_digit more_digits n h

some_is : (n : ℕ) → 0 < n → nat_eq n 0 ≡ false
some_is n h = grind (arith, tests)

pub digits_again : (n : ℕ) (rest : List ℕ) → n < past → is_digit (first_byte rest) ≡ false → digits_at (decimal n ++ rest) ≡ Some (n, rest)
unfolding digits_at
digits_again n rest small stop =
    let wide : n < 2 ^ 64 = omega arith in
    let is = numeral n wide in
    let run = run_is is_digit (decimal n) rest is.digits stop in
    let some : nat_eq (length (decimal n)) 0 ≡ false = some_is (length (decimal n)) is.some in
    rw run (rw some (rw (take_prefix (decimal n) rest, drop_prefix (decimal n) rest, is.value small) refl))

pub first_digit : (ds rest : List ℕ) → list_all is_digit ds ≡ true → 0 < length ds → is_digit (first_byte (ds ++ rest)) ≡ true
first_digit [] rest all some = absurd (omega arith)
first_digit (d ∷ ds) rest all some = (and_parts (is_digit d) (list_all is_digit ds) all).0

no_minus : (b : ℕ) → is_digit b ≡ true → nat_eq b 45 ≡ false
no_minus b e = other_byte is_digit b 45 e refl

-- numbers of the limit
pub below_past : (k : ℕ) → IsInLimit (pos k) → k < past
below_past k h = let high : pos k ≤ℤ pos (2 ^ 61) = h.1 in omega (arith, ints, high)

above_past : (k : ℕ) → IsInLimit (negsuc k) → suc k < past
above_past k h = let low : negsuc (2 ^ 61 - 1) ≤ℤ negsuc k = h.0 in omega (arith, ints, low)

pub is_wide : (k : ℕ) → k < past → k < 2 ^ 64
is_wide k h = omega arith

minus_is : (bs : List ℕ) → number_at (45 ∷ bs) ≡ negative_at bs
unfolding number_at behind
minus_is bs = refl

negative_again : (k : ℕ) (rest : List ℕ) → suc k < past → is_digit (first_byte rest) ≡ false → negative_at (decimal (suc k) ++ rest) ≡ Some (negsuc k, rest)
unfolding negative_at
negative_again k rest small stop = rw (digits_again (suc k) rest small stop) refl

-- a number's text is read again, where no digit follows it
pub number_again : (n : ℤ) (rest : List ℕ) → IsInLimit n → is_digit (first_byte rest) ≡ false → number_at (signed_decimal n ++ rest) ≡ Some (n, rest)
unfolding number_at natural_at
number_again (pos k) rest h stop =
    let small = below_past k h in
    let is = numeral k (is_wide k small) in
    let first = first_digit (decimal k) rest is.digits is.some in
    rw (not_behind 45 [] (decimal k ++ rest) (no_minus (first_byte (decimal k ++ rest)) first)) (rw (digits_again k rest small stop) refl)
number_again (negsuc k) rest h stop = minus_is (decimal (suc k) ++ rest) ∙ negative_again k rest (above_past k h) stop

-- ---- digits are no colons, however many there are

glyph_is_no_colon : (d : ℕ) → d < 10 → is_no_colon (digit_glyph false d) ≡ true
glyph_is_no_colon d h = grind (arith, tests)

either_has : (t : Bool) (xs ys : List ℕ) → list_all is_no_colon xs ≡ true → list_all is_no_colon ys ≡ true → list_all is_no_colon (cond t xs ys) ≡ true
either_has true xs ys a b = a
either_has false xs ys a b = b

onto_has_no_colon : (k n : ℕ) (acc : List ℕ) → list_all is_no_colon acc ≡ true → list_all is_no_colon (digits_onto k 10 false n acc) ≡ true
onto_has_no_colon zero n acc h = h
onto_has_no_colon (suc k) n acc h =
    let last : n % 10 < 10 = omega arith in
    let glyph : list_all is_no_colon (digit_glyph false (n % 10) ∷ acc) ≡ true = rw (glyph_is_no_colon (n % 10) last) h in
    either_has (n / 10 == 0) (digit_glyph false (n % 10) ∷ acc) (digits_onto k 10 false (n / 10) (digit_glyph false (n % 10) ∷ acc)) glyph (onto_has_no_colon k (n / 10) (digit_glyph false (n % 10) ∷ acc) glyph)

pub decimal_has_no_colon : (n : ℕ) → list_all is_no_colon (decimal n) ≡ true
unfolding digits
decimal_has_no_colon n = onto_has_no_colon 64 n [] refl

pub signed_has_no_colon : (n : ℤ) → list_all is_no_colon (signed_decimal n) ≡ true
signed_has_no_colon (pos n) = decimal_has_no_colon n
signed_has_no_colon (negsuc n) = decimal_has_no_colon (suc n)

pub all_append : {A : Type 0} (p : A → Bool) (xs ys : List A) → list_all p xs ≡ true → list_all p ys ≡ true → list_all p (xs ++ ys) ≡ true
all_append p [] ys a b = b
all_append p (x ∷ xs) ys a b = let parts = and_parts (p x) (list_all p xs) a in rw (parts.0, all_append p xs ys parts.1 b) refl

-- ---- names

pub word_is : (w : List ℕ) → is_word w ≡ true → (is_letter (first_byte w) ≡ true) × (list_all is_name_byte w ≡ true)
word_is [] e = absurd (false≢true e)
word_is (b ∷ bs) e =
    let parts = and_parts (is_letter b) (list_all is_name_byte bs) e in
    (parts.0, rw (parts.0, parts.1) refl)

pub first_is : (w rest : List ℕ) → is_word w ≡ true → first_byte (w ++ rest) ≡ first_byte w
first_is [] rest e = absurd (false≢true e)
first_is (b ∷ bs) rest e = refl

-- a name is read again, where no byte of a name follows it
pub name_again : (w rest : List ℕ) → is_word w ≡ true → is_name_byte (first_byte rest) ≡ false → name_at (w ++ rest) ≡ Some (w, rest)
unfolding name_at
name_again w rest e stop =
    let is = word_is w e in
    let run = run_is is_name_byte w rest is.1 stop in
    rw run (rw (first_is w rest e) (rw is.0 (rw (take_prefix w rest, drop_prefix w rest) refl)))
