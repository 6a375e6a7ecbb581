-- The items of the stream.
--
--   item  = NAME "=" value ";"
--   value = "true" | "false" | int | set
--         | "array" DIGIT "d" "(" set { "," set } "," "[" [ value { "," value } ] "]" ")"
--   int   = [ "-" ] DIGITS
--   set   = int ".." int | "{" [ int { "," int } ] "}"
--
-- Blanks may stand before each token and after the last. Each function reads what its name says from the first bytes,
-- and gives it with the bytes after it; None where the bytes don't begin so.
use Rattle.std.specs.Prelude.{ℕ, zero, suc, ◌+◌, ◌-◌, ◌*◌, ◌^◌, ℤ, pos, neg_ℤ, List, [], ◌∷◌, ◌++◌, length, take, drop, Bool, true, false, ◌&&◌, ◌||◌, nat_eq, nat_le, int_lt, int_le, min, Option, Some, None, option_and_then, codes, slice_get, if◌then◌else◌}
use Rattle.std.specs.Ordering.{int_eq}
use Rattle.std.specs.List.{prefix_len, starts_with, list_all}
use Rattle.mz_value.specs.Ranges.{Range, least, greatest}
use Rattle.mz_value.specs.StepsWalks.{merged, joined, common, gaps}
use Rattle.mz_value.specs.Contents.{Content, bool, int, case, set}
use Rattle.mz_value.specs.declared.value.ShapeBase.{ShapeBase}
use Rattle.mz_value.specs.declared.value.ShapeBase.TheVariants as base
use Rattle.fz_items.specs.declared.outputs.Part.{Part}
use Rattle.fz_items.specs.declared.outputs.Part.TheVariants.{Occurs, Value}
use Rattle.fz_items.specs.declared.outputs.Slot.{Slot}
use Rattle.fz_items.specs.Bytes.{is_blank, is_digit, is_letter, is_name_byte, first_byte}
use Rattle.fz_items.specs.Forms.{Form, slot_of}

infixl 10 ◌>>=◌
abbrev pub ◌>>=◌ : {A B : Type 0} → Option A → (A → Option B) → Option B
o >>= f = option_and_then f o

abbrev pub Read : Type 0 → Type 0
Read A = Option (A × List ℕ)

-- a choice by whether something is there
abbrev pub choose : {A B : Type 0} → Option A → (A → B) → B → B
choose None some none = none
choose (Some x) some none = some x

-- the bytes from the first that is no blank
unfoldable pub after_blanks : List ℕ → List ℕ
after_blanks bs = drop (prefix_len is_blank bs) bs

abbrev pub without : List ℕ → List ℕ → Option (List ℕ)
without text bs = if starts_with nat_eq bs text then Some (drop (length text) bs) else None

-- the bytes after a token with this text
unfoldable pub after : List ℕ → List ℕ → Option (List ℕ)
after text bs = without text (after_blanks bs)

-- nothing but blanks
unfoldable pub is_empty : List ℕ → Bool
is_empty bs = nat_eq (prefix_len is_blank bs) (length bs)

-- the number that digits spell, after a number; what is past the limit counts as the first number past it
abbrev pub past : ℕ
past = 2 ^ 61 + 1

abbrev pub number_from : ℕ → List ℕ → ℕ
number_from n [] = n
number_from n (d ∷ ds) = number_from (min (n * 10 + (d - 48)) past) ds

abbrev pub digits_of : ℕ → List ℕ → Read ℕ
digits_of n bs = if nat_eq n 0 then None else Some (number_from 0 (take n bs), drop n bs)

unfoldable pub digits_at : List ℕ → Read ℕ
digits_at bs = digits_of (prefix_len is_digit bs) bs

-- int = [ "-" ] DIGITS
unfoldable pub minus_at : List ℕ → Read ℤ
minus_at bs = do
  n ← digits_at (after_blanks bs)
  Some (neg_ℤ (pos n.0), n.1)

unfoldable pub plain_at : List ℕ → Read ℤ
plain_at bs = do
  n ← digits_at (after_blanks bs)
  Some (pos n.0, n.1)

unfoldable pub int_at : List ℕ → Read ℤ
int_at bs = choose (after (codes "-") bs) minus_at (plain_at bs)

-- NAME, a letter and then letters, digits and `_`
abbrev pub name_of : ℕ → List ℕ → Read (List ℕ)
name_of n bs = if is_letter (first_byte bs) then Some (take n bs, drop n bs) else None

unfoldable pub name_at : List ℕ → Read (List ℕ)
name_at bs = name_of (prefix_len is_name_byte (after_blanks bs)) (after_blanks bs)

unfoldable pub truth_at : List ℕ → Read Bool
truth_at bs = choose (after (codes "true") bs) (λ rest. Some (true, rest)) (do
  rest ← after (codes "false") bs
  Some (false, rest))

-- sets: no set with an integer outside the limit is a domain's or an index set

abbrev pub is_in_limit : ℤ → Bool
is_in_limit x = int_le least x && int_le x greatest

abbrev pub interval : ℤ → ℤ → Option (List Range)
interval lo hi = if int_lt hi lo then Some [] else if is_in_limit lo && is_in_limit hi then Some ((lo, hi) ∷ []) else None

-- the set of some integers
unfoldable pub set_of : List ℤ → List Range
set_of [] = []
set_of (x ∷ xs) = joined (merged ((x, x) ∷ []) (set_of xs))

abbrev pub listed : List ℤ → Option (List Range)
listed xs = if list_all is_in_limit xs then Some (set_of xs) else None

unfoldable pub interval_at : List ℕ → Read (List Range)
interval_at bs = do
  lo ← int_at bs
  dots ← after (codes "..") lo.1
  hi ← int_at dots
  s ← interval lo.0 hi.0
  Some (s, hi.1)

abbrev pub with_first : ℤ → List ℤ × List ℕ → List ℤ × List ℕ
with_first x r = (x ∷ r.0, r.1)

-- int { "," int }, up to this many
unfoldable pub ints_at : ℕ → List ℕ → Read (List ℤ)
ints_at zero bs = None
ints_at (suc most) bs = do
  x ← int_at bs
  choose (after (codes ",") x.1) (λ rest. do
    xs ← ints_at most rest
    Some (with_first x.0 xs)) (Some (x.0 ∷ [], x.1))

unfoldable pub filled_at : List ℕ → Read (List Range)
filled_at bs = do
  xs ← ints_at (length bs) bs
  rest ← after (codes "}") xs.1
  s ← listed xs.0
  Some (s, rest)

unfoldable pub braces_at : List ℕ → Read (List Range)
braces_at bs = choose (after (codes "}") bs) (λ rest. Some ([], rest)) (filled_at bs)

unfoldable pub set_at : List ℕ → Read (List Range)
set_at bs = choose (after (codes "{") bs) braces_at (interval_at bs)

-- values of a form

-- the elements of a value, with an array's index ranges
pub record Elements : Type 0 where
  pub index : Option (List Range)
  pub items : List Content

-- a domain has a number
abbrev pub has : List Range → ℤ → Bool
has [] x = false
has (r ∷ rs) x = (int_le r.0 x && int_le x r.1) || has rs x

-- a truth value counts as 1 or 0
abbrev pub truth_number : Bool → ℤ
truth_number true = pos 1
truth_number false = pos 0

abbrev pub is_none : List Range → Bool
is_none [] = true
is_none (r ∷ rs) = false

-- a set has nothing that the domain lacks
unfoldable pub is_within : List Range → List Range → Bool
is_within s domain = is_none (common s (gaps least domain))

unfoldable pub truth_in : List Range → List ℕ → Read Bool
truth_in domain bs = do
  b ← truth_at bs
  if has domain (truth_number b.0) then Some b else None

unfoldable pub int_in : List Range → List ℕ → Read ℤ
int_in domain bs = do
  x ← int_at bs
  if has domain x.0 then Some x else None

unfoldable pub set_in : List Range → List ℕ → Read (List Range)
set_in domain bs = do
  s ← set_at bs
  if is_within s.0 domain then Some s else None

abbrev pub valued : {A : Type 0} → (A → Content) → Read A → Read Content
valued make r = r >>= λ x. Some (make x.0, x.1)

-- an element of a base within its domain
unfoldable pub based_at : ShapeBase → List Range → List ℕ → Read Content
based_at base.Bool domain bs = valued bool (truth_in domain bs)
based_at base.Int domain bs = valued int (int_in domain bs)
based_at (base.Enum e) domain bs = valued (case e) (int_in domain bs)
based_at base.SetInt domain bs = valued (set None) (set_in domain bs)
based_at (base.SetEnum e) domain bs = valued (set (Some e)) (set_in domain bs)

-- an element of what is written under a name: whether it occurs, or its value
unfoldable pub element_at : Part → ShapeBase → List Range → List ℕ → Read Content
element_at Occurs base domain bs = valued bool (truth_at bs)
element_at Value base domain bs = based_at base domain bs

-- a comma and an element
unfoldable pub next_at : Part → ShapeBase → List Range → List ℕ → Read Content
next_at part base domain bs = do
  rest ← after (codes ",") bs
  element_at part base domain rest

-- after some elements one more for each domain, each after a comma
unfoldable pub more_at : Part → ShapeBase → List Content → List (List Range) → List ℕ → Read (List Content)
more_at part base xs [] bs = Some (xs, bs)
more_at part base xs (d ∷ ds) bs = do
  x ← next_at part base d bs
  more_at part base (xs ++ x.0 ∷ []) ds x.1

-- [ value { "," value } ], an element for each domain
unfoldable pub elements_at : Part → ShapeBase → List (List Range) → List ℕ → Read (List Content)
elements_at part base [] bs = Some ([], bs)
elements_at part base (d ∷ ds) bs = do
  x ← element_at part base d bs
  more_at part base (x.0 ∷ []) ds x.1

-- an index set is this range; every empty one is an empty range
abbrev pub is_index : List Range → Range → Bool
is_index [] r = int_lt r.1 r.0
is_index (s ∷ []) r = int_eq s.0 r.0 && int_eq s.1 r.1
is_index (s ∷ t ∷ ss) r = false

-- set ",", a dimension's index set
unfoldable pub dimension_at : Range → List ℕ → Option (List ℕ)
dimension_at r bs = do
  s ← set_at bs
  if is_index s.0 r then after (codes ",") s.1 else None

-- the same for each dimension
unfoldable pub index_at : List Range → List ℕ → Option (List ℕ)
index_at [] bs = Some bs
index_at (r ∷ rs) bs = do
  rest ← dimension_at r bs
  index_at rs rest

-- "array" DIGIT "d" "(", of 1 to 6 dimensions
unfoldable pub array_at : ℕ → List ℕ → Option (List ℕ)
array_at n bs = do
  rest ← (if nat_le 1 n && nat_le n 6 then after (codes "array" ++ (48 + n) ∷ codes "d") bs else None)
  after (codes "(") rest

unfoldable pub filled_array_at : Part → ShapeBase → List Range → List (List Range) → List ℕ → Read Elements
filled_array_at part base index domains bs = do
  head ← array_at (length index) bs
  sets ← index_at index head
  bracket ← after (codes "[") sets
  xs ← elements_at part base domains bracket
  closed ← after (codes "]") xs.1
  rest ← after (codes ")") closed
  Some (record { index = Some index; items = xs.0 }, rest)

-- a value that is no array has the first domain
abbrev pub first_domain : List (List Range) → List Range
first_domain [] = []
first_domain (d ∷ ds) = d

unfoldable pub scalar_at : Part → ShapeBase → List (List Range) → List ℕ → Read Elements
scalar_at part base domains bs = do
  x ← element_at part base (first_domain domains) bs
  Some (record { index = None; items = x.0 ∷ [] }, x.1)

abbrev pub value_of : Part → ShapeBase → Option (List Range) → List (List Range) → List ℕ → Read Elements
value_of part base None domains bs = scalar_at part base domains bs
value_of part base (Some index) domains bs = filled_array_at part base index domains bs

unfoldable pub value_at : Part → Form → List ℕ → Read Elements
value_at part f bs = value_of part f.base f.index f.domains bs

-- item = NAME "=" value ";"

abbrev pub ended : {A : Type 0} → A → List ℕ → Option A
ended x bs = if is_empty bs then Some x else None

-- what is written under a name of a shape, up to the end of the line
unfoldable pub given_at : Part → Form → List ℕ → Option Elements
given_at part f bs = do
  v ← value_at part f bs
  rest ← after (codes ";") v.1
  ended v.0 rest

-- an item of the stream, by its line: under which name, and what
abbrev pub Item : Type 0
Item = Slot × Elements

unfoldable pub item_at : List Form → Slot → List ℕ → Option Item
item_at fs s bs = do
  f ← slice_get fs s.shape
  v ← given_at s.part f bs
  Some (s, v)

unfoldable pub item_of : List Form → List ℕ → Option Item
item_of fs line = do
  name ← name_at line
  rest ← after (codes "=") name.1
  s ← slot_of fs name.0
  item_at fs s rest
