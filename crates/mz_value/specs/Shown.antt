-- How values are shown.
use Rattle.std.specs.Prelude.{◌≡◌, refl, ℕ, zero, suc, ℤ, pos, negsuc, ◌-◌, ◌<◌, ◌≤ℤ◌, ◌+ℤ◌, ◌-ℤ◌, nat_abs, int_lt, List, [], ◌∷◌, ◌++◌, length, map, replicate, Bool, Option, Some, None, codes, slice_index_or, if◌then◌else◌}
use Rattle.std.specs.Fmt.{digits, signed_decimal}
use Rattle.std.specs.List.{flat_map, AllByRecursion}
use Rattle.mz_value.specs.Ranges.{Range}
use Rattle.mz_value.specs.Contents.{Content, Contents, bool, int, case, set, absent, text, array, none, more}

-- texts, with a text between them
abbrev pub join : List ℕ → List (List ℕ) → List ℕ
join between [] = []
join between (t ∷ ts) = t ++ flat_map (λ u. between ++ u) ts

-- texts, with commas between them
abbrev pub listed : List (List ℕ) → List ℕ
listed ts = join (codes ", ") ts

-- the blanks that a text lacks to a width, of which the sign doesn't matter
abbrev pub blanks : ℤ → List ℕ → List ℕ
blanks width t = replicate (nat_abs width - length t) 32

-- blanks come first, or last where the width is negative
abbrev pub padded : ℤ → List ℕ → List ℕ
padded width t = if int_lt width (pos 0) then t ++ blanks width t else blanks width t ++ t

-- the names of each enum's cases
abbrev pub Names : Type 0
Names = List (List (List ℕ))

-- the names of an enum's cases
abbrev pub names_of : Names → ℕ → List (List ℕ)
names_of names e = slice_index_or names e []

-- the name of a case, of which the first has number 1
abbrev pub name_at : List (List ℕ) → ℤ → List ℕ
name_at labels k = slice_index_or labels (nat_abs (k -ℤ pos 1)) []

abbrev pub shown_bool : Bool → List ℕ
shown_bool b = if b then codes "true" else codes "false"

-- this many integers from n on
abbrev pub numbers_from : ℤ → ℕ → List ℤ
numbers_from n zero = []
numbers_from n (suc count) = n ∷ numbers_from (n +ℤ pos 1) count

-- the integers of a range, and of all ranges, ascending
unfoldable pub range_elements : Range → List ℤ
range_elements r = numbers_from r.0 (suc (nat_abs (r.1 -ℤ r.0)))

abbrev pub elements : List Range → List ℤ
elements rs = flat_map range_elements rs

-- all elements in braces, each by its text
abbrev pub braces : (ℤ → List ℕ) → List Range → List ℕ
braces spell rs = codes "{" ++ listed (map spell (elements rs)) ++ codes "}"

abbrev pub interval : Range → List ℕ
interval r = signed_decimal r.0 ++ codes ".." ++ signed_decimal r.1

-- a set of integers: `1..3` where it is one range, else in braces
abbrev pub shown_integers : List Range → List ℕ
shown_integers (r ∷ []) = interval r
shown_integers rs = braces signed_decimal rs

-- a set of an enum is always in braces
abbrev pub shown_set : Names → Option ℕ → List Range → List ℕ
shown_set names None rs = shown_integers rs
shown_set names (Some e) rs = braces (name_at (names_of names e)) rs

unfoldable mutual
  pub shown : Names → Content → List ℕ
  shown names (bool b) = shown_bool b
  shown names (int n) = signed_decimal n
  shown names (case e k) = name_at (names_of names e) k
  shown names (set of rs) = shown_set names of rs
  shown names absent = codes "<>"
  shown names (text t) = t
  shown names (array index xs) = codes "[" ++ listed (shown_all names xs) ++ codes "]"

  pub shown_all : Names → Contents → List (List ℕ)
  shown_all names none = []
  shown_all names (more x xs) = shown names x ∷ shown_all names xs

-- an enum's number that is there
abbrev pub IsEnum : Names → ℕ → Type 0
IsEnum names e = e < length names

-- a number of a case that is there
abbrev pub IsCase : List (List ℕ) → ℤ → Type 0
IsCase labels k = (pos 1 ≤ℤ k) × (k ≤ℤ pos (length labels))

-- the least and the greatest number of each range are those of cases that are there
abbrev pub AreCases : List (List ℕ) → List Range → Type 0
AreCases labels rs = AllByRecursion (λ r. IsCase labels r.0 × IsCase labels r.1) rs

-- the enum of a set is there, where it has one, and so are the cases
abbrev pub IsShowableSet : Names → Option ℕ → List Range → Type 0
IsShowableSet names None rs = Unit {0}
IsShowableSet names (Some e) rs = IsEnum names e × AreCases (names_of names e) rs

-- the enums and the cases of a value are there
abbrev mutual
  pub IsShowable : Names → Content → Type 0
  IsShowable names (case e k) = IsEnum names e × IsCase (names_of names e) k
  IsShowable names (set of rs) = IsShowableSet names of rs
  IsShowable names (array index xs) = AreShowable names xs
  IsShowable names _ = Unit {0}

  pub AreShowable : Names → Contents → Type 0
  AreShowable names none = Unit {0}
  AreShowable names (more x xs) = IsShowable names x × AreShowable names xs

-- a value that is a text, and its bytes
abbrev pub IsText : Content → Type 0
IsText (text t) = Unit {0}
IsText _ = ⊥

abbrev pub bytes_of : Content → List ℕ
bytes_of (text t) = t
bytes_of _ = []

-- worked examples

abbrev colours : Names
colours = (codes "Red" ∷ codes "Green" ∷ codes "Blue" ∷ []) ∷ []

to_the_left : padded (pos 4) (signed_decimal (pos 7)) ≡ codes "   7"
unfolding digits
to_the_left = refl

to_the_right : padded (negsuc 2) (signed_decimal (pos 7)) ≡ codes "7  "
unfolding digits
to_the_right = refl

between_two : join (codes ", ") (codes "p" ∷ codes "q" ∷ []) ≡ codes "p, q"
between_two = refl

one_range : shown colours (set None ((pos 2, pos 3) ∷ [])) ≡ codes "2..3"
unfolding shown range_elements digits
one_range = refl

two_ranges : shown colours (set None ((negsuc 0, pos 1) ∷ (pos 5, pos 5) ∷ [])) ≡ codes "{-1, 0, 1, 5}"
unfolding shown range_elements digits
two_ranges = refl

no_integers : shown colours (set None []) ≡ codes "{}"
unfolding shown range_elements digits
no_integers = refl

a_set_of_cases : shown colours (set (Some 0) ((pos 1, pos 2) ∷ [])) ≡ codes "{Red, Green}"
unfolding shown range_elements digits
a_set_of_cases = refl

an_array : shown colours (array ((pos 1, pos 2) ∷ (pos 1, pos 1) ∷ []) (more (case 0 (pos 3)) (more absent none))) ≡ codes "[Blue, <>]"
unfolding shown
an_array = refl
