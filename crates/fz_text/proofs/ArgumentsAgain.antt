-- The arguments of rows are read again, where variables have these names.
use Rattle.std.proofs.Common.{◌≡◌, ℕ, zero, suc, ◌<◌, List, [], ◌∷◌, ◌++◌, length, map, Bool, true, false, refl, sym, ap, subst, ◌∙◌, arith, tests, Some, None, append_assoc, flat_map, codes, Contains}
use Rattle.std.specs.Prelude.{◌||◌, ℤ, pos, not, nat_eq, nat_lt}
use Rattle.std.specs.List.{AllByRecursion, prefix_len}
use Rattle.std.specs.Fmt.{signed_decimal}
use Rattle.std.specs.Str.{bytes_eq}
use Rattle.std.proofs.lemmas.Bool.{false≢true, and_parts}
use Rattle.std.proofs.lemmas.Slice.Eq.{bytes_eq-Decides}
use Rattle.mz_base.specs.Words.{is_identifier, is_keyword, is_word}
use Rattle.mz_value.specs.Ranges.{Range, IsInLimit}
use Rattle.fz_items.specs.Bytes.{first_byte, is_digit, is_letter, is_name_byte}
use Rattle.fz_program.specs.Names.{Name}
use Rattle.fz_program.specs.Arguments.{Plain, bool, int, set as set_of, var, nested, Argument, one, array, plain_of}
use Rattle.fz_program.specs.Flat.{AreDistinct, IsSet}
use Rattle.fz_items.specs.Items.{interval as interval_set}
use Rattle.fz_text_read.specs.Tokens.{behind}
use Rattle.fz_text_read.specs.Lists.{closed_at}
use Rattle.fz_text_read.specs.Arguments.{argument_at, array_at, braces_set_at, interval_set_at, number_or_interval_at, number_or_set_at, place_at, place_of, plain_at, word_at, word_of}
use Rattle.fz_text.specs.Spelling.{argument_text, array_text, commas, elements, interval, label_at, numbers, plain_text, set}
use Rattle.fz_text.proofs.Prefixes.{first_is, name_again, not_behind, number_again, other_byte, word_is}
use Rattle.fz_text.proofs.PartsAgain.{Again, none_again, pieces, some_again, is_stop, stop_is_no_digit, stop_is_no_dot, stop_is_no_name_byte}
use Rattle.fz_text.proofs.SetsAgain.{brace, braces_again, braces_text, dots, empty_text, from_again, interval_parts, is_set_byte, no_brace, number_first, one_in_limit, one_range, set_first, zero_in_limit}

-- names of variables: identifiers, each once
pub record AreNames (names : List Name) : Type 0 where
  pub identifiers : AllByRecursion (λ w. is_identifier w ≡ true) names
  pub distinct : AreDistinct names

-- an argument that has a text: numbers and sets of the limit, variables that are there
abbrev pub HasText : List Name → Plain → Type 0
HasText names (bool b) = Unit {0}
HasText names (int n) = IsInLimit n
HasText names (set_of s) = IsSet s
HasText names (var k) = k < length names
HasText names nested = ⊥

abbrev pub HasTexts : List Name → Argument → Type 0
HasTexts names (one p) = HasText names p
HasTexts names (array ps) = AllByRecursion (HasText names) ps

-- ---- names

pub label_is_identifier : (names : List Name) (k : ℕ) → AllByRecursion (λ w. is_identifier w ≡ true) names → k < length names → is_identifier (label_at names k) ≡ true
label_is_identifier [] k all below = absurd (omega arith)
label_is_identifier (w ∷ ws) zero all below = all.0
label_is_identifier (w ∷ ws) (suc k) all below = label_is_identifier ws k all.1 (omega arith)

label_contained : (names : List Name) (k : ℕ) → k < length names → Contains names (label_at names k)
label_contained [] k below = absurd (omega arith)
label_contained (w ∷ ws) zero below = (0, omega arith, refl)
label_contained (w ∷ ws) (suc k) below = let h = label_contained ws k (omega arith) in (suc h.0, omega (arith, h.1), h.2)

same_bytes : (w : Name) → bytes_eq w w ≡ true
same_bytes w = (bytes_eq-Decides w w).1 refl

other_bytes : (v w : Name) → (v ≡ w → ⊥) → bytes_eq v w ≡ false
other_bytes v w differ = by (bytes_eq v w) refl
  where
    by : (t : Bool) → bytes_eq v w ≡ t → bytes_eq v w ≡ false
    by false e = e
    by true e = absurd (differ ((bytes_eq-Decides v w).0 e))

-- where the first name that is this one stands
prefix_of : (names : List Name) (k : ℕ) → AreDistinct names → k < length names → prefix_len (λ x. not (bytes_eq (label_at names k) x)) names ≡ k
prefix_of [] k d below = absurd (omega arith)
prefix_of (w ∷ ws) zero d below = rw (same_bytes w) refl
prefix_of (w ∷ ws) (suc k) d below =
    let differ : label_at ws k ≡ w → ⊥ = λ e. d.0 (subst (Contains ws) e (label_contained ws k (omega arith))) in
    rw (other_bytes (label_at ws k) w differ) (omega (arith, prefix_of ws k d.1 (omega arith)))

pub place_again : (names : List Name) (k : ℕ) → AreDistinct names → k < length names → place_of names (label_at names k) ≡ Some k
place_again names k d below = let is = prefix_of names k d below in rw is (rw (below_is k (length names) below) refl)
  where
    below_is : (m n : ℕ) → m < n → nat_lt m n ≡ true
    below_is m n h = grind (arith, tests)

pub word_of_identifier : (w : Name) → is_identifier w ≡ true → is_word w ≡ true
word_of_identifier w e = (and_parts (is_word w) (not (is_keyword w)) e).0

no_keyword : (w v : Name) → is_identifier w ≡ true → is_keyword v ≡ true → bytes_eq w v ≡ false
no_keyword w v e key = other_bytes w v (λ same. absurd (false≢true (sym (ap not (ap is_keyword same ∙ key)) ∙ (and_parts (is_word w) (not (is_keyword w)) e).1)))

true_is_keyword : is_keyword (codes "true") ≡ true
unfolding is_keyword
true_is_keyword = refl

false_is_keyword : is_keyword (codes "false") ≡ true
unfolding is_keyword
false_is_keyword = refl

-- the name of a variable in an array, or after a mark
pub place_at_again : (names : List Name) (k : ℕ) (rest : List ℕ) → AreNames names → k < length names → is_name_byte (first_byte rest) ≡ false → place_at names (label_at names k ++ rest) ≡ Some (k, rest)
unfolding place_at
place_at_again names k rest are below stop =
    let word = word_of_identifier (label_at names k) (label_is_identifier names k are.identifiers below) in
    rw (name_again (label_at names k) rest word stop) (rw (place_again names k are.distinct below) refl)

-- ---- arguments that are no arrays

word_again : (names : List Name) (w : Name) (a : Argument) (rest : List ℕ) → is_word w ≡ true → is_name_byte (first_byte rest) ≡ false → word_of names w ≡ Some a → plain_at names (w ++ rest) ≡ Some (a, rest)
unfolding plain_at word_at
word_again names w a rest is stop e = rw (ap is_letter (first_is w rest is) ∙ (word_is w is).0) (rw (name_again w rest is stop) (rw e refl))

variable_of : (names : List Name) (k : ℕ) → AreNames names → k < length names → word_of names (label_at names k) ≡ Some (one (var k))
unfolding word_of
variable_of names k are below =
    let is = label_is_identifier names k are.identifiers below in
    rw (no_keyword (label_at names k) (codes "true") is true_is_keyword, no_keyword (label_at names k) (codes "false") is false_is_keyword) (rw (place_again names k are.distinct below) refl)

true_of : (names : List Name) → word_of names (codes "true") ≡ Some (one (bool true))
unfolding word_of
true_of names = refl

false_of : (names : List Name) → word_of names (codes "false") ≡ Some (one (bool false))
unfolding word_of
false_of names = refl

no_letter : (b : ℕ) → is_set_byte b ≡ true → is_letter b ≡ false
no_letter b e = grind (arith, tests)

no_dots : (rest : List ℕ) → is_stop (first_byte rest) ≡ true → behind (codes "..") rest ≡ None
no_dots rest e = not_behind 46 (46 ∷ []) rest (stop_is_no_dot (first_byte rest) e)

int_again : (names : List Name) (n : ℤ) (rest : List ℕ) → IsInLimit n → is_stop (first_byte rest) ≡ true → plain_at names (signed_decimal n ++ rest) ≡ Some (one (int n), rest)
unfolding plain_at number_or_set_at number_or_interval_at
int_again names n rest h stop =
    rw (no_letter (first_byte (signed_decimal n ++ rest)) (number_first n rest h)) (rw (no_brace n rest h) (rw (number_again n rest h (stop_is_no_digit (first_byte rest) stop)) (rw (no_dots rest stop) refl)))

interval_plain_again : (names : List Name) (r : Range) (s : List Range) (rest : List ℕ) → IsInLimit r.0 → IsInLimit r.1 → interval_set r.0 r.1 ≡ Some s → is_digit (first_byte rest) ≡ false → plain_at names (interval r ++ rest) ≡ Some (one (set_of s), rest)
unfolding plain_at number_or_set_at number_or_interval_at interval_set_at
interval_plain_again names r s rest low high is stop =
    let tail = codes ".." ++ (signed_decimal r.1 ++ rest) in
    rw (interval_parts r rest) (rw (no_letter (first_byte (signed_decimal r.0 ++ tail)) (number_first r.0 tail low)) (rw (no_brace r.0 tail low) (rw (number_again r.0 tail low refl) (rw (dots (signed_decimal r.1 ++ rest)) (rw (from_again r s rest high is stop) refl)))))

set_plain_again : (names : List Name) (s : List Range) (rest : List ℕ) → IsSet s → is_digit (first_byte rest) ≡ false → plain_at names (set s ++ rest) ≡ Some (one (set_of s), rest)
unfolding set plain_at number_or_set_at braces_set_at
set_plain_again names [] rest is stop = ap (λ t. plain_at names (t ++ rest)) empty_text ∙ interval_plain_again names (pos 1, pos 0) [] rest one_in_limit zero_in_limit refl stop
set_plain_again names (r ∷ []) rest is stop = interval_plain_again names r (r ∷ []) rest is.1.0 is.1.1 (one_range r is.0.0 is.1.0 is.1.1) stop
set_plain_again names (r ∷ t ∷ rs) rest is stop = rw (braces_text (r ∷ t ∷ rs) rest) (rw (brace (numbers (flat_map elements (r ∷ t ∷ rs)) ++ (codes "}" ++ rest))) (rw (braces_again r (t ∷ rs) rest is.0 is.1) refl))

-- each is read again, where a comma or what closes follows it
pub plain_again : (names : List Name) → AreNames names → (p : Plain) → HasText names p → (rest : List ℕ) → is_stop (first_byte rest) ≡ true → plain_at names (plain_text names p ++ rest) ≡ Some (one p, rest)
unfolding plain_text
plain_again names are (bool true) h rest stop = word_again names (codes "true") (one (bool true)) rest refl (stop_is_no_name_byte (first_byte rest) stop) (true_of names)
plain_again names are (bool false) h rest stop = word_again names (codes "false") (one (bool false)) rest refl (stop_is_no_name_byte (first_byte rest) stop) (false_of names)
plain_again names are (int n) h rest stop = int_again names n rest h stop
plain_again names are (set_of s) h rest stop = set_plain_again names s rest h (stop_is_no_digit (first_byte rest) stop)
plain_again names are (var k) h rest stop =
    word_again names (label_at names k) (one (var k)) rest (word_of_identifier (label_at names k) (label_is_identifier names k are.identifiers h)) (stop_is_no_name_byte (first_byte rest) stop) (variable_of names k are h)
plain_again names are nested h rest stop = absurd h

-- ---- arrays

-- the text of an element, as of an argument
abbrev element_text : List Name → Argument → List ℕ
element_text names a = plain_text names (plain_of a)

each_plain : (names : List Name) → AreNames names → (ps : List Plain) → AllByRecursion (HasText names) ps → AllByRecursion (Again (plain_at names) (element_text names)) (map one ps)
each_plain names are [] h = tt
each_plain names are (p ∷ ps) h = (λ rest stop. plain_again names are p h.0 rest stop, each_plain names are ps h.1)

texts_of : (names : List Name) (ps : List Plain) → map (plain_text names) ps ≡ map (element_text names) (map one ps)
texts_of names [] = refl
texts_of names (p ∷ ps) = ap (λ ts. plain_text names p ∷ ts) (texts_of names ps)

plains_of : (ps : List Plain) → map plain_of (map one ps) ≡ ps
plains_of [] = refl
plains_of (p ∷ ps) = ap (λ qs. p ∷ qs) (plains_of ps)

bracket_closes : (rest : List ℕ) → behind (codes "]") (codes "]" ++ rest) ≡ Some rest
unfolding behind
bracket_closes rest = refl

-- what the text of an argument that is no array begins with
abbrev is_plain_byte : ℕ → Bool
is_plain_byte b = is_letter b || is_set_byte b

first_letter : (w rest : List ℕ) → is_word w ≡ true → is_plain_byte (first_byte (w ++ rest)) ≡ true
first_letter w rest is = rw (ap is_letter (first_is w rest is) ∙ (word_is w is).0) refl

set_byte_is : (b : ℕ) → is_set_byte b ≡ true → is_plain_byte b ≡ true
set_byte_is b e = by (is_letter b)
  where
    by : (t : Bool) → (t || is_set_byte b) ≡ true
    by true = refl
    by false = e

plain_first : (names : List Name) → AreNames names → (p : Plain) → HasText names p → (rest : List ℕ) → is_plain_byte (first_byte (plain_text names p ++ rest)) ≡ true
unfolding plain_text
plain_first names are (bool true) h rest = refl
plain_first names are (bool false) h rest = refl
plain_first names are (int n) h rest = set_byte_is (first_byte (signed_decimal n ++ rest)) (number_first n rest h)
plain_first names are (set_of s) h rest = set_byte_is (first_byte (set s ++ rest)) (set_first s rest h.1)
plain_first names are (var k) h rest = first_letter (label_at names k) rest (word_of_identifier (label_at names k) (label_is_identifier names k are.identifiers h))
plain_first names are nested h rest = absurd h

no_closing : (b : ℕ) → is_plain_byte b ≡ true → nat_eq b 93 ≡ false
no_closing b e = other_byte is_plain_byte b 93 e refl

no_opening : (b : ℕ) → is_plain_byte b ≡ true → nat_eq b 91 ≡ false
no_opening b e = other_byte is_plain_byte b 91 e refl

pub commas_text : (t : List ℕ) (ts : List (List ℕ)) (rest : List ℕ) → commas (t ∷ ts) ++ rest ≡ t ++ (flat_map (λ u. 44 ∷ u) ts ++ rest)
unfolding commas
commas_text t ts rest = append_assoc t (flat_map (λ u. 44 ∷ u) ts) rest

-- the elements of an array, after its opening bracket
elements_again : (names : List Name) → AreNames names → (ps : List Plain) → AllByRecursion (HasText names) ps → (rest : List ℕ) → closed_at (codes "]") (plain_at names) (commas (map (plain_text names) ps) ++ (codes "]" ++ rest)) ≡ Some (map one ps, rest)
unfolding commas
elements_again names are [] h rest = none_again (codes "]") (plain_at names) rest (bracket_closes rest)
elements_again names are (p ∷ ps) h rest =
    let tail = codes "]" ++ rest in
    let text = commas (map (element_text names) (map one (p ∷ ps))) in
    let more = pieces (element_text names) (map one ps) in
    let first : text ++ tail ≡ plain_text names p ++ (more ++ tail) = commas_text (plain_text names p) (map (element_text names) (map one ps)) tail in
    let other = ap (behind (codes "]")) first ∙ not_behind 93 [] (plain_text names p ++ (more ++ tail)) (no_closing (first_byte (plain_text names p ++ (more ++ tail))) (plain_first names are p h.0 (more ++ tail))) in
    ap (λ ts. closed_at (codes "]") (plain_at names) (commas ts ++ tail)) (texts_of names (p ∷ ps))
    ∙ some_again (codes "]") (plain_at names) (element_text names) (one p) (map one ps) rest other (each_plain names are (p ∷ ps) h) refl (bracket_closes rest)

array_again : (names : List Name) → AreNames names → (ps : List Plain) → AllByRecursion (HasText names) ps → (rest : List ℕ) → array_at names (commas (map (plain_text names) ps) ++ (codes "]" ++ rest)) ≡ Some (array ps, rest)
unfolding array_at
array_again names are ps h rest = rw (elements_again names are ps h rest) (ap (λ qs. Some (array qs, rest)) (plains_of ps))

bracket : (bs : List ℕ) → behind (codes "[") (91 ∷ bs) ≡ Some bs
unfolding behind
bracket bs = refl

array_text_is : (names : List Name) (ps : List Plain) (rest : List ℕ) → array_text names ps ++ rest ≡ 91 ∷ (commas (map (plain_text names) ps) ++ (codes "]" ++ rest))
array_text_is names ps rest = ap (λ t. 91 ∷ t) (append_assoc (commas (map (plain_text names) ps)) (codes "]") rest)

-- any argument
pub argument_again : (names : List Name) → AreNames names → (a : Argument) → HasTexts names a → Again (argument_at names) (argument_text names) a
unfolding argument_text argument_at
argument_again names are (one p) h rest stop = rw (not_behind 91 [] (plain_text names p ++ rest) (no_opening (first_byte (plain_text names p ++ rest)) (plain_first names are p h rest))) (plain_again names are p h rest stop)
argument_again names are (array ps) h rest stop = rw (array_text_is names ps rest) (rw (bracket (commas (map (plain_text names) ps) ++ (codes "]" ++ rest))) (array_again names are ps h rest))

pub each_argument : (names : List Name) → AreNames names → (xs : List Argument) → AllByRecursion (HasTexts names) xs → AllByRecursion (Again (argument_at names) (argument_text names)) xs
each_argument names are [] h = tt
each_argument names are (x ∷ xs) h = (argument_again names are x h.0, each_argument names are xs h.1)
