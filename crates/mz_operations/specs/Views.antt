-- What a value is, where it is of a kind. A value of another kind is none.
use Rattle.std.specs.Prelude.{◌≡◌, refl, ℕ, ℤ, pos, List, [], ◌∷◌, Bool, true, false, Option, Some, None, nat_eq, if◌then◌else◌}
use Rattle.std.specs.Option.{option_and_then}
use Rattle.mz_value.specs.Ranges.{Range}
use Rattle.mz_value.specs.Contents.{Content, Contents, bool, int, case, set, absent, text, array, none, more}

-- go on with what is there
infixl 10 ◌>>=◌
abbrev pub ◌>>=◌ : {A B : Type 0} → Option A → (A → Option B) → Option B
o >>= go = option_and_then go o

unfoldable pub as_bool : Content → Option Bool
as_bool (bool b) = Some b
as_bool _ = None

unfoldable pub as_int : Content → Option ℤ
as_int (int n) = Some n
as_int _ = None

-- an enum's number, and a case of it
unfoldable pub as_case : Content → Option (ℕ × ℤ)
as_case (case e k) = Some (e, k)
as_case _ = None

unfoldable pub as_set : Content → Option (List Range)
as_set (set e rs) = Some rs
as_set _ = None

unfoldable pub as_text : Content → Option (List ℕ)
as_text (text t) = Some t
as_text _ = None

abbrev pub items_in : Contents → List Content
items_in none = []
items_in (more x xs) = x ∷ items_in xs

-- an array's elements
unfoldable pub as_items : Content → Option (List Content)
as_items (array ix xs) = Some (items_in xs)
as_items _ = None

-- an array's index ranges
unfoldable pub as_index : Content → Option (List Range)
as_index (array ix xs) = Some ix
as_index _ = None

-- the elements of an array of one dimension
unfoldable pub as_row : Content → Option (List Content)
as_row (array (r ∷ []) xs) = Some (items_in xs)
as_row _ = None

-- 0 or 1, the integer, or the number of the case
abbrev pub number_of_bool : Bool → ℤ
number_of_bool true = pos 1
number_of_bool false = pos 0

-- a truth value or a case, as a number
unfoldable pub as_ordinal : Content → Option ℤ
as_ordinal (bool b) = Some (number_of_bool b)
as_ordinal (case e k) = Some k
as_ordinal _ = None

-- an integer or a case, as an element of a set
unfoldable pub as_element : Content → Option ℤ
as_element (int n) = Some n
as_element (case e k) = Some k
as_element _ = None

-- two truth values, two integers, or two cases of one enum, as numbers
unfoldable pub as_pair : Content → Content → Option (ℤ × ℤ)
as_pair (bool a) (bool b) = Some (number_of_bool a, number_of_bool b)
as_pair (int m) (int n) = Some (m, n)
as_pair (case d j) (case e k) = if nat_eq d e then Some (j, k) else None
as_pair _ _ = None

abbrev pub is_absent : Content → Bool
is_absent absent = true
is_absent _ = false

-- a truth value, an integer or a case: what an option may have as its value
unfoldable pub is_single : Content → Bool
is_single (bool b) = true
is_single (int n) = true
is_single (case e k) = true
is_single _ = false

-- absent, or what an option may have as its value
unfoldable pub as_option : Content → Option Content
as_option absent = Some absent
as_option x = if is_single x then Some x else None

-- the enum of a case or of a set of cases
unfoldable pub enum_of : Content → Option ℕ
enum_of (case e k) = Some e
enum_of (set e rs) = e
enum_of _ = None

-- ---- worked examples

false_below_true : as_pair (bool false) (bool true) ≡ Some (pos 0, pos 1)
unfolding as_pair
false_below_true = refl

-- no typed tree compares a truth value and an integer: there a coercion stands between
not_alike : as_pair (bool true) (int (pos 1)) ≡ None
unfolding as_pair
not_alike = refl

two_enums : as_pair (case 0 (pos 1)) (case 1 (pos 1)) ≡ None
unfolding as_pair
two_enums = refl
