-- Lists of parts with commas between them are read again.
use Rattle.std.proofs.Common.{◌≡◌, ℕ, zero, suc, ◌<◌, ◌≤◌, List, [], ◌∷◌, ◌++◌, length, length-append, map, Bool, true, false, refl, sym, ap, subst, ◌∙◌, arith, Some, None, append_assoc, flat_map, codes}
use Rattle.std.specs.Prelude.{◌||◌, nat_eq}
use Rattle.std.specs.List.{AllByRecursion}
use Rattle.std.proofs.lemmas.Bool.{false≢true, eqb-true}
use Rattle.fz_items.specs.Bytes.{first_byte, is_digit, is_name_byte}
use Rattle.fz_items.specs.Items.{Read}
use Rattle.fz_text_read.specs.Tokens.{behind}
use Rattle.fz_text_read.specs.Lists.{parts_at, filled_at, closed_at}
use Rattle.fz_text_read.proofs.PartLoops.{last_at, more_at}
use Rattle.fz_text.specs.Spelling.{commas}
use Rattle.fz_text.proofs.Prefixes.{not_behind}

-- a parenthesis, a bracket or a brace that closes
abbrev pub is_close : ℕ → Bool
is_close b = nat_eq b 41 || (nat_eq b 93 || nat_eq b 125)

-- what may follow a part: a comma, or what closes
abbrev pub is_stop : ℕ → Bool
is_stop b = nat_eq b 44 || is_close b

pub either : {P : Type 0} (a b : Bool) → (a ≡ true → P) → (b ≡ true → P) → (a || b) ≡ true → P
either true b f g e = f refl
either false b f g e = g e

at_byte : (P : ℕ → Type 0) (b k : ℕ) → P k → nat_eq b k ≡ true → P b
at_byte P b k p e = subst P (sym (eqb-true b k e)) p

-- what holds of each byte that closes, or that stops, holds of any
of_close : (P : ℕ → Type 0) (b : ℕ) → P 41 → P 93 → P 125 → is_close b ≡ true → P b
of_close P b one two three e =
    either (nat_eq b 41) (nat_eq b 93 || nat_eq b 125) (at_byte P b 41 one) (either (nat_eq b 93) (nat_eq b 125) (at_byte P b 93 two) (at_byte P b 125 three)) e

of_stop : (P : ℕ → Type 0) (b : ℕ) → P 44 → P 41 → P 93 → P 125 → is_stop b ≡ true → P b
of_stop P b comma one two three e = either (nat_eq b 44) (is_close b) (at_byte P b 44 comma) (of_close P b one two three) e

pub stop_is_no_digit : (b : ℕ) → is_stop b ≡ true → is_digit b ≡ false
stop_is_no_digit b e = of_stop (λ k. is_digit k ≡ false) b refl refl refl refl e

pub stop_is_no_name_byte : (b : ℕ) → is_stop b ≡ true → is_name_byte b ≡ false
stop_is_no_name_byte b e = of_stop (λ k. is_name_byte k ≡ false) b refl refl refl refl e

pub stop_is_no_dot : (b : ℕ) → is_stop b ≡ true → nat_eq b 46 ≡ false
stop_is_no_dot b e = of_stop (λ k. nat_eq k 46 ≡ false) b refl refl refl refl e

pub close_stops : (b : ℕ) → is_close b ≡ true → is_stop b ≡ true
close_stops b e = of_close (λ k. is_stop k ≡ true) b refl refl refl e

pub close_is_no_comma : (b : ℕ) → is_close b ≡ true → nat_eq b 44 ≡ false
close_is_no_comma b e = of_close (λ k. nat_eq k 44 ≡ false) b refl refl refl e

pub close_is_there : (bs : List ℕ) → is_close (first_byte bs) ≡ true → 0 < length bs
close_is_there [] e = absurd (false≢true e)
close_is_there (b ∷ bs) e = omega arith

-- a part's text is read again, whatever stops it
abbrev pub Again : {A : Type 0} → (List ℕ → Read A) → (A → List ℕ) → A → Type 0
Again part text x = (rest : List ℕ) → is_stop (first_byte rest) ≡ true → part (text x ++ rest) ≡ Some (x, rest)

-- parts, with a comma before each
abbrev pub pieces : {A : Type 0} → (A → List ℕ) → List A → List ℕ
pieces text xs = flat_map (λ u. 44 ∷ u) (map text xs)

pub pieces_length : {A : Type 0} (text : A → List ℕ) (xs : List A) → length xs ≤ length (pieces text xs)
pieces_length text [] = omega arith
pieces_length text (x ∷ xs) = omega (arith, length-append (text x) (pieces text xs), pieces_length text xs)

no_comma : (rest : List ℕ) → is_close (first_byte rest) ≡ true → behind (codes ",") rest ≡ None
no_comma rest e = not_behind 44 [] rest (close_is_no_comma (first_byte rest) e)

comma : (bs : List ℕ) → behind (codes ",") (44 ∷ bs) ≡ Some bs
unfolding behind
comma bs = refl

pub parts_again : {A : Type 0} (part : List ℕ → Read A) (text : A → List ℕ) (x : A) (xs : List A) (most : ℕ) (rest : List ℕ) → length xs < most → AllByRecursion (Again part text) (x ∷ xs) → is_close (first_byte rest) ≡ true → parts_at part most (text x ++ (pieces text xs ++ rest)) ≡ Some (x ∷ xs, rest)
parts_again part text x [] most rest enough all e =
    last_at part most (text x ++ rest) rest x (omega arith) (all.0 rest (close_stops (first_byte rest) e)) (no_comma rest e)
parts_again part text x (y ∷ ys) zero rest enough all e = absurd (omega arith)
parts_again part text x (y ∷ ys) (suc most) rest enough all e =
    let behind_comma = text y ++ (pieces text ys ++ rest) in
    let next : pieces text (y ∷ ys) ++ rest ≡ 44 ∷ behind_comma = ap (λ t. 44 ∷ t) (append_assoc (text y) (pieces text ys) rest) in
    let read : part (text x ++ (44 ∷ behind_comma)) ≡ Some (x, 44 ∷ behind_comma) = ap (λ t. part (text x ++ t)) (sym next) ∙ all.0 (pieces text (y ∷ ys) ++ rest) refl ∙ ap (λ t. Some (x, t)) next in
    ap (λ t. parts_at part (suc most) (text x ++ t)) next
    ∙ more_at part most (text x ++ (44 ∷ behind_comma)) (44 ∷ behind_comma) behind_comma x read (comma behind_comma)
    ∙ rw (parts_again part text y ys most rest (omega arith) all.1 e) refl

-- with what closes them
pub filled_again : {A : Type 0} (close : List ℕ) (part : List ℕ → Read A) (text : A → List ℕ) (x : A) (xs : List A) (rest : List ℕ) → AllByRecursion (Again part text) (x ∷ xs) → is_close (first_byte (close ++ rest)) ≡ true → behind close (close ++ rest) ≡ Some rest → filled_at close part (commas (map text (x ∷ xs)) ++ (close ++ rest)) ≡ Some (x ∷ xs, rest)
unfolding filled_at commas
filled_again close part text x xs rest all e closes =
    let tail = close ++ rest in
    let whole : (text x ++ pieces text xs) ++ tail ≡ text x ++ (pieces text xs ++ tail) = append_assoc (text x) (pieces text xs) tail in
    let there = close_is_there tail e in
    let enough : length xs < length (text x ++ (pieces text xs ++ tail)) = omega (arith, length-append (text x) (pieces text xs ++ tail), length-append (pieces text xs) tail, pieces_length text xs) in
    rw whole (rw (parts_again part text x xs (length (text x ++ (pieces text xs ++ tail))) tail enough all e) (rw closes refl))

-- or none
pub none_again : {A : Type 0} (close : List ℕ) (part : List ℕ → Read A) (rest : List ℕ) → behind close (close ++ rest) ≡ Some rest → closed_at close part (close ++ rest) ≡ Some ([], rest)
unfolding closed_at
none_again close part rest closes = rw closes refl

pub some_again : {A : Type 0} (close : List ℕ) (part : List ℕ → Read A) (text : A → List ℕ) (x : A) (xs : List A) (rest : List ℕ) → behind close (commas (map text (x ∷ xs)) ++ (close ++ rest)) ≡ None → AllByRecursion (Again part text) (x ∷ xs) → is_close (first_byte (close ++ rest)) ≡ true → behind close (close ++ rest) ≡ Some rest → closed_at close part (commas (map text (x ∷ xs)) ++ (close ++ rest)) ≡ Some (x ∷ xs, rest)
unfolding closed_at
some_again close part text x xs rest other all e closes = rw other (filled_again close part text x xs rest all e closes)
