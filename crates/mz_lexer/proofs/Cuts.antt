-- Where the content of a piece of a text stops, and where it stops being UTF-8.
use Rattle.std.proofs.Common.{◌≡◌, ℕ, zero, suc, ◌+◌, ◌-◌, ◌<◌, ◌≤◌, List, [], ◌∷◌, ◌++◌, length, take, drop, get_or, Bool, true, false, ◌&&◌, refl, sym, ap, subst, ◌∙◌, inl, inr, arith, length-append, length-drop, true≢false, suc-add, zero-add, append-nil}
use Rattle.std.specs.Prelude.{nat_eq}
use Rattle.std.specs.Str.{IsUtf8, is_utf8}
use Rattle.std.specs.Str.Lossy.{utf8_valid_len, valid_len_up_to}
use Rattle.std.proofs.lemmas.List.{take-append-drop, take_more, take_all, take_at, get_or_at, take-append-le}
use Rattle.std.proofs.Math.Seq.{take-append-add}
use Rattle.std.proofs.lemmas.Str.{IsUtf8-nil, IsUtf8-append, IsUtf8-from_is_utf8, is_utf8-from_IsUtf8, IsCharBoundary-before_ascii, IsUtf8-take}
use Rattle.std.proofs.lemmas.Bool.{cases_lt}
use Rattle.std.proofs.lemmas.Bool.Decides.{nat_tests, Decides-eqb}
use Rattle.mz_lexer.specs.Bytes.{first_byte}
use Rattle.mz_lexer.specs.Texts.{is_plain, is_escape, escape_value, content_from}
use Rattle.mz_lexer.specs.Lexes.{Means, nothing, a_byte, an_escape, IsStuck, at_the_end, at_newline, at_backslash}
use Rattle.mz_base.proofs.Choices.{pick}
use Rattle.mz_lexer.proofs.Meanings.{byte_utf8}

and_false : (t : Bool) → (t && false) ≡ false
and_false true = refl
and_false false = refl

no_second : (t u : Bool) → t ≡ true → (t && u) ≡ false → u ≡ false
no_second true u e h = h
no_second false u e h = cc

zero_no_suc : {n : ℕ} → 0 ≡ suc n → ⊥
zero_no_suc e = cc

-- the longest prefix of at most m bytes that is UTF-8
record IsGreatest (bs : List ℕ) (m n : ℕ) : Type 0 where
  valid : IsUtf8 (take n bs)
  longest : (k : ℕ) → n < k → k ≤ m → IsUtf8 (take k bs) → ⊥

greatest : (bs : List ℕ) (m : ℕ) → IsGreatest bs m (valid_len_up_to bs m)
greatest bs zero = record { valid = IsUtf8-nil; longest = λ k more few u. absurd (omega arith) }
greatest bs (suc m) = pick (IsGreatest bs (suc m)) (is_utf8 (take (suc m) bs)) _ _
    (λ is. record { valid = IsUtf8-from_is_utf8 _ is; longest = λ k more few u. absurd (omega arith) })
    (λ isnt. let rest = greatest bs m in record {
      valid = rest.valid;
      longest = λ k more few u. elim (cases_lt m k) [
        | inl past ↦ let same : k ≡ suc m = omega arith in true≢false (sym (is_utf8-from_IsUtf8 _ (subst (λ j. IsUtf8 (take j bs)) same u)) ∙ isnt)
        | inr within ↦ rest.longest k more within u
      ];
    })

valid_is : (bs : List ℕ) → utf8_valid_len bs ≡ valid_len_up_to bs (length bs)
unfolding utf8_valid_len
valid_is bs = refl

pub valid_prefix : (bs : List ℕ) → IsUtf8 (take (utf8_valid_len bs) bs)
valid_prefix bs = subst (λ n. IsUtf8 (take n bs)) (sym (valid_is bs)) (greatest bs (length bs)).valid

pub valid_longest : (bs : List ℕ) (k : ℕ) → utf8_valid_len bs < k → k ≤ length bs → IsUtf8 (take k bs) → ⊥
valid_longest bs k more few u = (greatest bs (length bs)).longest k (omega (arith, valid_is bs, more)) few u

pub valid_whole : (bs : List ℕ) → utf8_valid_len bs ≡ length bs → IsUtf8 bs
valid_whole bs e = subst IsUtf8 (ap (λ n. take n bs) e ∙ take_all (length bs) bs (omega arith)) (valid_prefix bs)

-- the content that comes first, and what follows it
pub record IsPrefixContent (bs : List ℕ) : Type 0 where
  pub content : List ℕ
  pub value : List ℕ
  pub rest : List ℕ
  pub means : Means content value
  pub split : bs ≡ content ++ rest
  pub len : content_from false bs ≡ length content
  pub stops : content_from false rest ≡ 0

content_stop : (bs : List ℕ) → content_from false bs ≡ 0 → IsPrefixContent bs
content_stop bs e = record { content = []; value = []; rest = bs; means = nothing; split = refl; len = e; stops = e }

pub plain_cons : (b : ℕ) (bs : List ℕ) → is_plain b ≡ true → content_from false (b ∷ bs) ≡ suc (content_from false bs)
unfolding content_from
plain_cons b bs is = rw is refl

escape_cons : (b c : ℕ) (bs : List ℕ) → is_plain b ≡ false → nat_eq b 92 ≡ true → is_escape c ≡ true → content_from false (b ∷ c ∷ bs) ≡ suc (suc (content_from false bs))
unfolding content_from
escape_cons b c bs isnt is escape = rw (isnt, is, escape) refl

stop_cons : (b : ℕ) (bs : List ℕ) → is_plain b ≡ false → (nat_eq b 92 && is_escape (first_byte bs)) ≡ false → content_from false (b ∷ bs) ≡ 0
unfolding content_from
stop_cons b bs isnt stop = rw (isnt, stop) refl

with_plain : (b : ℕ) (bs : List ℕ) → is_plain b ≡ true → IsPrefixContent bs → IsPrefixContent (b ∷ bs)
with_plain b bs is f = record { content = b ∷ f.content; value = b ∷ f.value; rest = f.rest; means = a_byte is f.means; split = ap (λ us. b ∷ us) f.split; len = plain_cons b bs is ∙ ap suc f.len; stops = f.stops }

with_escape : (b c : ℕ) (bs : List ℕ) → is_plain b ≡ false → nat_eq b 92 ≡ true → is_escape c ≡ true → IsPrefixContent bs → IsPrefixContent (b ∷ c ∷ bs)
with_escape b c bs isnt is escape f =
    let backslash : b ≡ 92 = (Decides-eqb b 92).0 is in
    record {
      content = 92 ∷ c ∷ f.content;
      value = escape_value c ∷ f.value;
      rest = f.rest;
      means = an_escape escape f.means;
      split = ap (λ x. x ∷ c ∷ bs) backslash ∙ ap (λ us. 92 ∷ c ∷ us) f.split;
      len = escape_cons b c bs isnt is escape ∙ ap (λ n. suc (suc n)) f.len;
      stops = f.stops;
    }

nothing_left : content_from false [] ≡ 0
unfolding content_from
nothing_left = refl

pub prefix_content : (bs : List ℕ) → IsPrefixContent bs
prefix_content [] = content_stop [] nothing_left
prefix_content (b ∷ []) = go (is_plain b) refl (prefix_content [])
  where
    go : (t : Bool) → is_plain b ≡ t → IsPrefixContent [] → IsPrefixContent (b ∷ [])
    go true is f = with_plain b [] is f
    go false isnt f = content_stop (b ∷ []) (stop_cons b [] isnt (and_false (nat_eq b 92)))
prefix_content (b ∷ c ∷ bs) = go (is_plain b) (nat_eq b 92) (is_escape c) refl refl refl (prefix_content (c ∷ bs)) (prefix_content bs)
  where
    go : (t u v : Bool) → is_plain b ≡ t → nat_eq b 92 ≡ u → is_escape c ≡ v → IsPrefixContent (c ∷ bs) → IsPrefixContent bs → IsPrefixContent (b ∷ c ∷ bs)
    go true u v is e f next after = with_plain b (c ∷ bs) is next
    go false true true isnt e f next after = with_escape b c bs isnt e f after
    go false false v isnt e f next after = content_stop (b ∷ c ∷ bs) (stop_cons b (c ∷ bs) isnt (rw e refl))
    go false true false isnt e f next after = content_stop (b ∷ c ∷ bs) (stop_cons b (c ∷ bs) isnt (rw (e, f) refl))

escape_first : (b : ℕ) (bs : List ℕ) → is_plain b ≡ false → nat_eq b 92 ≡ true → is_escape (first_byte bs) ≡ true → content_from false (b ∷ bs) ≡ suc (content_from true bs)
unfolding content_from
escape_first b bs isnt is escape = rw (isnt, is, escape) refl

goes_escape : (b : ℕ) (bs : List ℕ) → nat_eq b 10 ≡ false → nat_eq b 92 ≡ true → is_escape (first_byte bs) ≡ true → nat_eq b 34 ≡ false → content_from false (b ∷ bs) ≡ 0 → ⊥
goes_escape b bs e f g h stop = zero_no_suc (sym stop ∙ escape_first b bs (rw (e, h, f) refl) f g)

-- where a content stops, and neither a quote nor `\(` stands, it is stuck
pub stuck_at : (bs : List ℕ) → content_from false bs ≡ 0 → nat_eq (first_byte bs) 34 ≡ false → (nat_eq (first_byte bs) 92 && nat_eq (first_byte (drop 1 bs)) 40) ≡ false → IsStuck bs
stuck_at [] stop no_quote no_inner = at_the_end
stuck_at (b ∷ bs) stop no_quote no_inner = go (nat_eq b 10) (nat_eq b 92) (is_escape (first_byte bs)) refl refl refl
  where
    go : (t u v : Bool) → nat_eq b 10 ≡ t → nat_eq b 92 ≡ u → is_escape (first_byte bs) ≡ v → IsStuck (b ∷ bs)
    go true u v e f g = subst (λ x. IsStuck (x ∷ bs)) (sym ((Decides-eqb b 10).0 e)) (at_newline bs)
    go false true false e f g = subst (λ x. IsStuck (x ∷ bs)) (sym ((Decides-eqb b 92).0 f)) (at_backslash bs g (no_second (nat_eq b 92) (nat_eq (first_byte bs) 40) f no_inner))
    go false false v e f g = absurd (zero_no_suc (sym stop ∙ plain_cons b bs (rw (e, no_quote, f) refl)))
    go false true true e f g = absurd (goes_escape b bs e f g no_quote stop)

-- a content is cut before a byte that isn't ASCII
pub record IsCut (bs : List ℕ) (n : ℕ) : Type 0 where
  pub value : List ℕ
  pub means : Means (take n bs) value

escape_low : (c : ℕ) → is_escape c ≡ true → c < 128
escape_low c is = grind (arith, nat_tests)

pub cut_before : {bs v : List ℕ} → Means bs v → (n : ℕ) → n < length bs → 128 ≤ get_or bs n 0 → IsCut bs n
cut_before nothing n below high = absurd (omega arith)
cut_before (a_byte plain m) zero below high = record { value = []; means = nothing }
cut_before (a_byte {b = b} plain m) (suc n) below high = let rest = cut_before m n (omega arith) high in record { value = b ∷ rest.value; means = a_byte plain rest.means }
cut_before (an_escape escape m) zero below high = record { value = []; means = nothing }
cut_before (an_escape {b = b} escape m) (suc zero) below high = absurd (omega (arith, escape_low b escape))
cut_before (an_escape {b = b} escape m) (suc (suc n)) below high = let rest = cut_before m n (omega arith) high in record { value = escape_value b ∷ rest.value; means = an_escape escape rest.means }

-- after the longest prefix that is UTF-8 comes a byte that isn't ASCII
pub high_behind : (bs : List ℕ) → utf8_valid_len bs < length bs → 128 ≤ get_or bs (utf8_valid_len bs) 0
high_behind bs less =
    let n : ℕ = utf8_valid_len bs in
    elim (cases_lt (get_or bs n 0) 128) [
      | inl low ↦ absurd (valid_longest bs (n + 1) (omega arith) (omega arith) (subst IsUtf8 (sym (take_more bs n 0 less)) (IsUtf8-append (take n bs) (get_or bs n 0 ∷ []) (valid_prefix bs) (byte_utf8 (get_or bs n 0) low))))
      | inr high ↦ high
    ]

take_none : (j : ℕ) → ◌≡◌ {A = List ℕ} (take j []) []
take_none zero = refl
take_none (suc j) = refl

take_over : (n k : ℕ) (bs : List ℕ) → take n bs ++ take k (drop n bs) ≡ take (n + k) bs
take_over zero k bs = rw zero-add refl
take_over (suc n) k [] = take_none k ∙ sym (take_none (suc n + k))
take_over (suc n) k (b ∷ bs) = ap (λ us. b ∷ us) (take_over n k bs) ∙ sym (ap (λ (j : ℕ). take j (b ∷ bs)) (suc-add n k))

ascii_cut : (d r : List ℕ) (b : ℕ) → b < 128 → IsUtf8 (d ++ b ∷ r) → IsUtf8 d
ascii_cut d r b low u =
    let here : get_or (d ++ b ∷ r) (length d) 0 ≡ b = get_or_at d b r 0 (length d) refl in
    let boundary = IsCharBoundary-before_ascii (d ++ b ∷ r) (length d) (omega (arith, length-append d (b ∷ r))) (omega (arith, here, low)) in
    subst IsUtf8 (take_at d (b ∷ r) (length d) refl) (IsUtf8-take (d ++ b ∷ r) (length d) u boundary)

-- what is left of a content that stops being UTF-8 is none, nor is it with what follows it
not_all : (c : List ℕ) → utf8_valid_len c < length c → IsUtf8 (drop (utf8_valid_len c) c) → ⊥
not_all c less u =
    let n : ℕ = utf8_valid_len c in
    valid_longest c (length c) less (omega arith) (subst IsUtf8 (take-append-drop n c ∙ sym (take_all (length c) c (omega arith))) (IsUtf8-append (take n c) (drop n c) (valid_prefix c) u))

not_prefix : (c : List ℕ) (k : ℕ) → utf8_valid_len c + k ≤ length c → 0 < k → IsUtf8 (take k (drop (utf8_valid_len c) c)) → ⊥
not_prefix c k few some u =
    let n : ℕ = utf8_valid_len c in
    valid_longest c (n + k) (omega arith) few (subst IsUtf8 (take_over n k c) (IsUtf8-append (take n c) (take k (drop n c)) (valid_prefix c) u))

not_beyond : (c rest : List ℕ) (m : ℕ) → utf8_valid_len c < length c → first_byte rest < 128 → 0 < m → IsUtf8 (drop (utf8_valid_len c) c ++ take m rest) → ⊥
not_beyond c [] m less low some u = not_all c less (subst IsUtf8 (ap (λ us. drop (utf8_valid_len c) c ++ us) (take_none m) ∙ append-nil _) u)
not_beyond c (b ∷ rest) zero less low some u = absurd (omega arith)
not_beyond c (b ∷ rest) (suc m) less low some u = not_all c less (ascii_cut _ (take m rest) b low u)

-- no character stands where a content stops being UTF-8
pub no_character : (c rest : List ℕ) → utf8_valid_len c < length c → first_byte rest < 128 → (k : ℕ) → 0 < k → IsUtf8 (take k (drop (utf8_valid_len c) c ++ rest)) → ⊥
no_character c rest less low k some u =
    let n : ℕ = utf8_valid_len c in
    let d : List ℕ = drop n c in
    let len : length d ≡ length c - n = length-drop n c in
    elim (cases_lt (length d) k) [
      | inl past ↦
          let same : k ≡ length d + (k - length d) = omega arith in
          not_beyond c rest (k - length d) less low (omega arith) (subst IsUtf8 (ap (λ (j : ℕ). take j (d ++ rest)) same ∙ take-append-add d rest (k - length d)) u)
      | inr within ↦ not_prefix c k (omega (arith, len)) some (subst IsUtf8 (take-append-le k d rest within) u)
    ]
