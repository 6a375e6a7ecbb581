-- What UTF-8 means, with its escapes read, is UTF-8.
use Rattle.std.proofs.Common.{◌≡◌, ℕ, suc, ◌<◌, ◌≤◌, List, [], ◌∷◌, ◌++◌, length, get_or, Bool, true, false, ◌&&◌, cond, refl, sym, ap, subst, ◌∙◌, inl, inr, arith, append-nil}
use Rattle.std.specs.Str.{IsUtf8}
use Rattle.std.proofs.Math.Utf8.{scalar, scalars, encode, encodes, low_scalar}
use Rattle.std.proofs.lemmas.Str.{IsUtf8-nil, IsUtf8-append, encode_ascii, inside_one, length-encode, len_utf8_bounds}
use Rattle.std.proofs.lemmas.Bool.{cases_lt, and_parts}
use Rattle.std.proofs.lemmas.Bool.Decides.{nat_tests}
use Rattle.mz_lexer.specs.Texts.{begins_escape, meant, meaning_from, meaning}

-- every byte of a list is above 127
abbrev AreHigh : List ℕ → Type 0
AreHigh w = (k : ℕ) → k < length w → 128 ≤ get_or w k 0

high_meant : (escaped : Bool) (b : ℕ) → 128 ≤ b → (begins_escape escaped b ≡ false) × (meant escaped b ≡ b)
high_meant true b high = (grind (arith, nat_tests), grind (arith, nat_tests))
high_meant false b high = (grind (arith, nat_tests), refl)

meaning_high : (escaped : Bool) (b : ℕ) (bs : List ℕ) → 128 ≤ b → meaning_from escaped (b ∷ bs) ≡ b ∷ meaning_from false bs
unfolding meaning_from
meaning_high escaped b bs high = let h = high_meant escaped b high in rw (h.0, h.1) refl

high_run : (escaped : Bool) (b : ℕ) (w rest : List ℕ) → AreHigh (b ∷ w) → meaning_from escaped ((b ∷ w) ++ rest) ≡ (b ∷ w) ++ meaning_from false rest
high_run escaped b [] rest high = meaning_high escaped b rest (high 0 (omega arith))
high_run escaped b (c ∷ w) rest high = meaning_high escaped b ((c ∷ w) ++ rest) (high 0 (omega arith)) ∙ ap (λ us. b ∷ us) (high_run false c w rest (λ k below. high (suc k) (omega arith)))

char_utf8 : (c : ℕ) → scalar c ≡ true → IsUtf8 (encode c)
char_utf8 c is = (c ∷ [], (rw is refl, append-nil (encode c)))

encode_high : (c : ℕ) → 128 ≤ c → AreHigh (encode c)
encode_high c high k below =
    elim (cases_lt (get_or (encode c) k 0) 128) [
      | inl low ↦ absurd (omega (arith, inside_one c [] (encode c) k (sym (append-nil (encode c))) below low))
      | inr le ↦ le
    ]

some_run : (escaped : Bool) (w rest : List ℕ) → 0 < length w → AreHigh w → meaning_from escaped (w ++ rest) ≡ w ++ meaning_from false rest
some_run escaped [] rest some high = absurd (omega arith)
some_run escaped (b ∷ w) rest some high = high_run escaped b w rest high

low_meant : (escaped : Bool) (b : ℕ) → b < 128 → meant escaped b < 128
low_meant true b low = grind (arith, nat_tests)
low_meant false b low = low

pub byte_utf8 : (b : ℕ) → b < 128 → IsUtf8 (b ∷ [])
byte_utf8 b low = subst IsUtf8 (encode_ascii b low) (char_utf8 b (low_scalar b (omega arith)))

meaning_one : (escaped : Bool) (b : ℕ) (bs : List ℕ) → meaning_from escaped (b ∷ bs) ≡ cond (begins_escape escaped b) (meaning_from true bs) (meant escaped b ∷ meaning_from false bs)
unfolding meaning_from
meaning_one true b bs = refl
meaning_one false b bs = refl

low_step : (escaped : Bool) (b : ℕ) (bs : List ℕ) → b < 128 → IsUtf8 (meaning_from true bs) → IsUtf8 (meaning_from false bs) → IsUtf8 (meaning_from escaped (b ∷ bs))
low_step escaped b bs low behind plain = subst IsUtf8 (sym (meaning_one escaped b bs)) (go (begins_escape escaped b))
  where
    go : (t : Bool) → IsUtf8 (cond t (meaning_from true bs) (meant escaped b ∷ meaning_from false bs))
    go true = behind
    go false = IsUtf8-append (meant escaped b ∷ []) (meaning_from false bs) (byte_utf8 (meant escaped b) (low_meant escaped b low)) plain

meaning_nil : (escaped : Bool) → meaning_from escaped [] ≡ []
unfolding meaning_from
meaning_nil escaped = refl

some_bytes : (c : ℕ) → 0 < length (encode c)
some_bytes c = omega (arith, length-encode c, (len_utf8_bounds c).0)

chars_utf8 : (cs : List ℕ) → scalars cs ≡ true → (escaped : Bool) → IsUtf8 (meaning_from escaped (encodes cs))
chars_utf8 [] is escaped = subst IsUtf8 (sym (meaning_nil escaped)) IsUtf8-nil
chars_utf8 (c ∷ cs) is escaped =
    let parts = and_parts (scalar c) (scalars cs) is in
    elim (cases_lt c 128) [
      | inl low ↦ subst (λ w. IsUtf8 (meaning_from escaped (w ++ encodes cs))) (sym (encode_ascii c low)) (low_step escaped c (encodes cs) low (chars_utf8 cs parts.1 true) (chars_utf8 cs parts.1 false))
      | inr high ↦ subst IsUtf8 (sym (some_run escaped (encode c) (encodes cs) (some_bytes c) (encode_high c high))) (IsUtf8-append (encode c) (meaning_from false (encodes cs)) (char_utf8 c parts.0) (chars_utf8 cs parts.1 false))
    ]

-- the meaning of UTF-8 is UTF-8
pub meaning_utf8 : (bs : List ℕ) → IsUtf8 bs → IsUtf8 (meaning bs)
meaning_utf8 bs (cs, (is, e)) = subst (λ us. IsUtf8 (meaning us)) e (chars_utf8 cs is false)
