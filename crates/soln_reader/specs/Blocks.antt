-- What stands in the open block, and what a whole block gives.
use Rattle.std.specs.Prelude.{ℤ, List, [], ◌∷◌, map, Bool, false, not, Option, Some, None, slice_get, slice_set, if◌then◌else◌}
use Rattle.std.specs.Ordering.{int_eq}
use Rattle.mz_value.specs.Ranges.{Range}
use Rattle.mz_value.specs.Contents.{Content, bool, int, case, set, absent, text, array, contents}
use Rattle.fz_items.specs.declared.outputs.Part.{Part}
use Rattle.fz_items.specs.declared.outputs.Part.TheVariants.{Occurs, Value}
use Rattle.fz_items.specs.declared.outputs.Slot.{Slot}
use Rattle.fz_items.specs.Forms.{Form}
use Rattle.fz_items.specs.Items.{Elements, truth_number, is_none, ◌>>=◌}

-- what the items of a block gave for a shape: its value, and for an option its occurrence
pub record Given : Type 0 where
  pub occurs : Option Elements
  pub value : Option Elements

abbrev pub nothing_given : Given
nothing_given = record { occurs = None; value = None }

-- an open block has one for each shape
abbrev pub Block : Type 0
Block = Option (List Given)

abbrev pub nothing_for : List Form → List Given
nothing_for fs = map (λ _. nothing_given) fs

abbrev pub given_in : List Form → Block → List Given
given_in fs None = nothing_for fs
given_in fs (Some gs) = gs

abbrev pub unless : {A B : Type 0} → Option A → B → Option B
unless (Some x) b = None
unless None b = Some b

-- an item is put where nothing stands under its name
unfoldable pub put_in : Part → Elements → Given → Option Given
put_in Occurs e g = unless g.occurs (record { occurs = Some e; value = g.value })
put_in Value e g = unless g.value (record { occurs = g.occurs; value = Some e })

unfoldable pub put : Slot → Elements → List Given → Option (List Given)
put s e gs = do
  g ← slice_get gs s.shape
  h ← put_in s.part e g
  Some (slice_set gs s.shape h)

-- whether an element is the least of its domain; a set's least is the empty one
abbrev pub is_first : ℤ → List Range → Bool
is_first x [] = false
is_first x (r ∷ rs) = int_eq x r.0

unfoldable pub is_least : Content → List Range → Bool
is_least (bool b) d = is_first (truth_number b) d
is_least (int x) d = is_first x d
is_least (case e x) d = is_first x d
is_least (set of s) d = is_none s
is_least absent d = false
is_least (text t) d = false
is_least (array index xs) d = false

unfoldable pub is_false : Content → Bool
is_false (bool b) = not b
is_false _ = false

-- an element of an option: absent where it doesn't occur, and then the value is its domain's least
abbrev pub optional : List Range → Content → Content → Option Content
optional d o x = if is_false o then (if is_least x d then Some absent else None) else Some x

-- the elements of an option, from their domains, occurrences and values
unfoldable pub optional_all : List (List Range) → List Content → List Content → Option (List Content)
optional_all (d ∷ ds) (o ∷ os) (x ∷ xs) = do
  y ← optional d o x
  ys ← optional_all ds os xs
  Some (y ∷ ys)
optional_all [] os xs = Some []
optional_all (d ∷ ds) [] xs = Some []
optional_all (d ∷ ds) (o ∷ os) [] = Some []

abbrev pub only : List Content → Option Content
only [] = None
only (x ∷ xs) = Some x

-- the value of some elements: an array, or the only element
abbrev pub whole : Option (List Range) → List Content → Option Content
whole None xs = only xs
whole (Some index) xs = Some (array index (contents xs))

abbrev pub elements_of : Form → Given → Elements → Option (List Content)
elements_of f g v = if f.opt then (g.occurs >>= λ o. optional_all f.domains o.items v.items) else Some v.items

-- a shape's value, where all that is written under its names is given
unfoldable pub solved : Form → Given → Option Content
solved f g = do
  v ← g.value
  xs ← elements_of f g v
  whole v.index xs

-- a value for each shape, in the shapes' order
unfoldable pub solution : List Form → List Given → Option (List Content)
solution [] gs = Some []
solution (f ∷ fs) [] = None
solution (f ∷ fs) (g ∷ gs) = do
  x ← solved f g
  xs ← solution fs gs
  Some (x ∷ xs)
