-- The names of the model's variables and arrays: each is told by a name of the model and what stands before it.
use Rattle.std.proofs.Common.{◌≡◌, ℕ, suc, ◌+◌, ◌<◌, ◌≤◌, ◌^◌, List, [], ◌∷◌, ◌++◌, length, Bool, true, false, not, ◌&&◌, ◌||◌, nat_eq, refl, sym, ap, subst, ◌∙◌, arith, append_assoc, codes, decimal}
use Rattle.std.specs.List.{list_all}
use Rattle.std.specs.Str.{bytes_eq}
use Rattle.std.specs.Str.Parse.{AllDigits}
use Rattle.std.proofs.lemmas.Bool.{and_parts, and_from}
use Rattle.std.proofs.lemmas.Bool.Decides.{nat_tests}
use Rattle.std.proofs.lemmas.Fmt.{decimal_injective, decimal_is_IsNumeral}
use Rattle.std.proofs.lemmas.Str.Parse.{digit_from_value}
use Rattle.std.proofs.lemmas.List.{append_cancel_left}
use Rattle.mz_base.specs.Words.{is_letter, is_digit, is_word, is_word_byte, is_keyword, is_identifier}
use Rattle.fz_program.specs.Names.{Name, is_reserved}
use Rattle.fz_build.specs.Naming as build
use Rattle.flat_meaning.specs.Front.{occurrence_name, value_name, place_name, element_name}

-- what a name of the model becomes
pub data Tag : Type 0 where
  own : Tag
  element : ℕ → Tag
  occurs : Tag
  occurs_at : ℕ → Tag
  value : Tag
  value_at : ℕ → Tag

abbrev pub tagged : Tag → Name → Name
tagged own x = x
tagged (element k) x = element_name k x
tagged occurs x = occurrence_name x
tagged (occurs_at k) x = occurrence_name (place_name k x)
tagged value x = value_name x
tagged (value_at k) x = value_name (place_name k x)

abbrev pub IsSmall : Tag → Type 0
IsSmall (element k) = k < 2 ^ 64
IsSmall (occurs_at k) = k < 2 ^ 64
IsSmall (value_at k) = k < 2 ^ 64
IsSmall _ = Unit {0}

-- a name that a model may have
pub record IsOwnName (x : Name) : Type 0 where
  pub word : is_identifier x ≡ true
  pub open_ : is_reserved x ≡ false

-- ---- the first byte

record Begins (x : Name) : Type 0 where
  letter : ℕ
  rest : List ℕ
  is : x ≡ letter ∷ rest
  high : 65 ≤ letter

letter_high : (b : ℕ) → is_letter b ≡ true → 65 ≤ b
letter_high b h = grind (arith, nat_tests)

begins : (x : Name) → is_identifier x ≡ true → Begins x
begins [] h = absurd (cc)
begins (b ∷ bs) h = record { letter = b; rest = bs; is = refl; high = letter_high b (and_parts (is_letter b) (list_all is_word_byte bs) (and_parts (is_word (b ∷ bs)) (not (is_keyword (b ∷ bs))) h).0).0 }

same_first : (a b : ℕ) (x : Name) (xs ys : List ℕ) → x ≡ a ∷ xs → x ≡ b ∷ ys → a ≡ b
same_first a b x xs ys h k = cc

no_digit : (ds rest x : List ℕ) → 0 < length ds → AllDigits 10 ds → is_identifier x ≡ true → x ≡ ds ++ rest → ⊥
no_digit [] rest x some a h e = absurd (omega (arith, some))
no_digit (d ∷ ds) rest x some a h e =
    let b = begins x h in
    let r = digit_from_value d a.0 in
    let s = same_first b.letter d x b.rest (ds ++ rest) b.is e in
    omega (arith, b.high, r.0, r.1, s)

place_is : (k : ℕ) (y : Name) → place_name k y ≡ decimal k ++ 95 ∷ y
place_is k y = append_assoc (decimal k) (95 ∷ []) y

no_place : (k : ℕ) (x y : Name) → k < 2 ^ 64 → is_identifier x ≡ true → x ≡ place_name k y → ⊥
no_place k x y small h e = let n = decimal_is_IsNumeral k small in no_digit (decimal k) (95 ∷ y) x n.0.0 n.0.1 h (e ∙ place_is k y)

-- ---- a place before a name

record AreSame (xs ys x y : Name) : Type 0 where
  front : xs ≡ ys
  back : x ≡ y

after_both : (d e : ℕ) (ds es x y : Name) → d ≡ e → AreSame ds es x y → AreSame (d ∷ ds) (e ∷ es) x y
after_both d e ds es x y h s = record { front = cc (h, s.front); back = s.back }

split_at : (ds es x y : List ℕ) → AllDigits 10 ds → AllDigits 10 es → ds ++ 95 ∷ x ≡ es ++ 95 ∷ y → AreSame ds es x y
split_at [] [] x y a b e = record { front = refl; back = cc }
split_at [] (c ∷ es) x y a b e = absurd (let r = digit_from_value c b.0 in let s = same_first 95 c (95 ∷ x) x (es ++ 95 ∷ y) refl e in omega (arith, r.1, s))
split_at (d ∷ ds) [] x y a b e = absurd (let r = digit_from_value d a.0 in let s = same_first d 95 (d ∷ (ds ++ 95 ∷ x)) (ds ++ 95 ∷ x) y refl e in omega (arith, r.1, s))
split_at (d ∷ ds) (c ∷ es) x y a b e = after_both d c ds es x y (cc) (split_at ds es x y a.1 b.1 (cc))

record IsSamePlace (j k : ℕ) (x y : Name) : Type 0 where
  place : j ≡ k
  name : x ≡ y

same_place : (j k : ℕ) (x y : Name) → j < 2 ^ 64 → k < 2 ^ 64 → place_name j x ≡ place_name k y → IsSamePlace j k x y
same_place j k x y h l e =
    let s = split_at (decimal j) (decimal k) x y (decimal_is_IsNumeral j h).0.1 (decimal_is_IsNumeral k l).0.1 (sym (place_is j x) ∙ e ∙ place_is k y) in
    record { place = decimal_injective j k h l s.front; name = s.back }

-- ---- a name is told

reserved : (x : Name) (bs : List ℕ) → x ≡ 88 ∷ 95 ∷ bs → is_reserved x ≡ false → ⊥
reserved x bs e h = let y : is_reserved x ≡ true = ap is_reserved e in absurd (cc)

third : (a b : ℕ) (xs ys : List ℕ) → 88 ∷ 95 ∷ a ∷ xs ≡ 88 ∷ 95 ∷ b ∷ ys → a ≡ b
third a b xs ys h = cc

pub record IsSameTag (t u : Tag) (x y : Name) : Type 0 where
  pub tag : t ≡ u
  pub name : x ≡ y

pub same_label : (t u : Tag) (x y : Name) → IsSmall t → IsSmall u → IsOwnName x → IsOwnName y → tagged t x ≡ tagged u y → IsSameTag t u x y
same_label own own x y s r g h e = record { tag = refl; name = e }
same_label own (element k) x y s r g h e = absurd (reserved x _ e g.open_)
same_label own occurs x y s r g h e = absurd (reserved x _ e g.open_)
same_label own (occurs_at k) x y s r g h e = absurd (reserved x _ e g.open_)
same_label own value x y s r g h e = absurd (reserved x _ e g.open_)
same_label own (value_at k) x y s r g h e = absurd (reserved x _ e g.open_)
same_label (element j) own x y s r g h e = absurd (reserved y _ (sym e) h.open_)
same_label (element j) (element k) x y s r g h e = let p = same_place j k x y s r (append_cancel_left (codes "X_ELT_") (place_name j x) (place_name k y) e) in record { tag = ap element p.place; name = p.name }
same_label (element j) occurs x y s r g h e = absurd (omega (arith, third 69 79 _ _ e))
same_label (element j) (occurs_at k) x y s r g h e = absurd (omega (arith, third 69 79 _ _ e))
same_label (element j) value x y s r g h e = absurd (omega (arith, third 69 86 _ _ e))
same_label (element j) (value_at k) x y s r g h e = absurd (omega (arith, third 69 86 _ _ e))
same_label occurs own x y s r g h e = absurd (reserved y _ (sym e) h.open_)
same_label occurs (element k) x y s r g h e = absurd (omega (arith, third 79 69 _ _ e))
same_label occurs occurs x y s r g h e = record { tag = refl; name = append_cancel_left (codes "X_OCC_") x y e }
same_label occurs (occurs_at k) x y s r g h e = absurd (no_place k x y r g.word (append_cancel_left (codes "X_OCC_") x (place_name k y) e))
same_label occurs value x y s r g h e = absurd (omega (arith, third 79 86 _ _ e))
same_label occurs (value_at k) x y s r g h e = absurd (omega (arith, third 79 86 _ _ e))
same_label (occurs_at j) own x y s r g h e = absurd (reserved y _ (sym e) h.open_)
same_label (occurs_at j) (element k) x y s r g h e = absurd (omega (arith, third 79 69 _ _ e))
same_label (occurs_at j) occurs x y s r g h e = absurd (no_place j y x s h.word (sym (append_cancel_left (codes "X_OCC_") (place_name j x) y e)))
same_label (occurs_at j) (occurs_at k) x y s r g h e = let p = same_place j k x y s r (append_cancel_left (codes "X_OCC_") (place_name j x) (place_name k y) e) in record { tag = ap occurs_at p.place; name = p.name }
same_label (occurs_at j) value x y s r g h e = absurd (omega (arith, third 79 86 _ _ e))
same_label (occurs_at j) (value_at k) x y s r g h e = absurd (omega (arith, third 79 86 _ _ e))
same_label value own x y s r g h e = absurd (reserved y _ (sym e) h.open_)
same_label value (element k) x y s r g h e = absurd (omega (arith, third 86 69 _ _ e))
same_label value occurs x y s r g h e = absurd (omega (arith, third 86 79 _ _ e))
same_label value (occurs_at k) x y s r g h e = absurd (omega (arith, third 86 79 _ _ e))
same_label value value x y s r g h e = record { tag = refl; name = append_cancel_left (codes "X_VAL_") x y e }
same_label value (value_at k) x y s r g h e = absurd (no_place k x y r g.word (append_cancel_left (codes "X_VAL_") x (place_name k y) e))
same_label (value_at j) own x y s r g h e = absurd (reserved y _ (sym e) h.open_)
same_label (value_at j) (element k) x y s r g h e = absurd (omega (arith, third 86 69 _ _ e))
same_label (value_at j) occurs x y s r g h e = absurd (omega (arith, third 86 79 _ _ e))
same_label (value_at j) (occurs_at k) x y s r g h e = absurd (omega (arith, third 86 79 _ _ e))
same_label (value_at j) value x y s r g h e = absurd (no_place j y x s h.word (sym (append_cancel_left (codes "X_VAL_") (place_name j x) y e)))
same_label (value_at j) (value_at k) x y s r g h e = let p = same_place j k x y s r (append_cancel_left (codes "X_VAL_") (place_name j x) (place_name k y) e) in record { tag = ap value_at p.place; name = p.name }

-- ---- none is the name of a variable that the compiler makes

pub not_introduced : (t : Tag) (x : Name) → IsOwnName x → (k : ℕ) → tagged t x ≡ build.introduced_name k → ⊥
not_introduced own x h k e = reserved x _ e h.open_
not_introduced (element j) x h k e = omega (arith, third 69 73 _ _ e)
not_introduced occurs x h k e = omega (arith, third 79 73 _ _ e)
not_introduced (occurs_at j) x h k e = omega (arith, third 79 73 _ _ e)
not_introduced value x h k e = omega (arith, third 86 73 _ _ e)
not_introduced (value_at j) x h k e = omega (arith, third 86 73 _ _ e)

-- ---- each is an identifier

all_both : (xs ys : List ℕ) → list_all is_word_byte xs ≡ true → list_all is_word_byte ys ≡ true → list_all is_word_byte (xs ++ ys) ≡ true
all_both [] ys h k = k
all_both (x ∷ xs) ys h k = let b = and_parts (is_word_byte x) (list_all is_word_byte xs) h in and_from (is_word_byte x) (list_all is_word_byte (xs ++ ys)) b.0 (all_both xs ys b.1 k)

digit_is_word : (d : ℕ) → 48 ≤ d → d ≤ 57 → is_word_byte d ≡ true
digit_is_word d h k = grind (arith, nat_tests)

digits_are_words : (ds : List ℕ) → AllDigits 10 ds → list_all is_word_byte ds ≡ true
digits_are_words [] a = refl
digits_are_words (d ∷ ds) a = let r = digit_from_value d a.0 in and_from (is_word_byte d) (list_all is_word_byte ds) (digit_is_word d (omega (arith, r.0)) (omega (arith, r.1))) (digits_are_words ds a.1)

letter_is_word : (b : ℕ) → is_letter b ≡ true → is_word_byte b ≡ true
letter_is_word b h = ap (λ l. l || (is_digit b || nat_eq b 95)) h

words_of : (x : Name) → is_identifier x ≡ true → list_all is_word_byte x ≡ true
words_of [] h = absurd (cc)
words_of (b ∷ bs) h = let p = and_parts (is_letter b) (list_all is_word_byte bs) (and_parts (is_word (b ∷ bs)) (not (is_keyword (b ∷ bs))) h).0 in and_from (is_word_byte b) (list_all is_word_byte bs) (letter_is_word b p.0) p.1

no_keyword : (bs : List ℕ) → is_keyword (88 ∷ bs) ≡ false
unfolding is_keyword
no_keyword bs = refl

prefixed : (bs : List ℕ) → list_all is_word_byte bs ≡ true → is_identifier (88 ∷ bs) ≡ true
prefixed bs h = and_from (is_word (88 ∷ bs)) (not (is_keyword (88 ∷ bs))) h (ap not (no_keyword bs))

placed : (k : ℕ) (x : Name) → k < 2 ^ 64 → is_identifier x ≡ true → list_all is_word_byte (place_name k x) ≡ true
placed k x small h = subst (λ bs. list_all is_word_byte bs ≡ true) (sym (place_is k x)) (all_both (decimal k) (95 ∷ x) (digits_are_words (decimal k) (decimal_is_IsNumeral k small).0.1) (words_of x h))

pub is_name : (t : Tag) (x : Name) → IsSmall t → IsOwnName x → is_identifier (tagged t x) ≡ true
is_name own x s h = h.word
is_name (element k) x s h = prefixed (codes "_ELT_" ++ place_name k x) (placed k x s h.word)
is_name occurs x s h = prefixed (codes "_OCC_" ++ x) (words_of x h.word)
is_name (occurs_at k) x s h = prefixed (codes "_OCC_" ++ place_name k x) (placed k x s h.word)
is_name value x s h = prefixed (codes "_VAL_" ++ x) (words_of x h.word)
is_name (value_at k) x s h = prefixed (codes "_VAL_" ++ place_name k x) (placed k x s h.word)
