-- What is read of a solution by the names of its values.
use Rattle.std.specs.Prelude.{◌≡◌, ℕ, List, [], ◌∷◌, ◌++◌, map, Bool, true, false, Option, Some, None, codes, if◌then◌else◌}
use Rattle.mz_value.specs.Ranges.{Range}
use Rattle.mz_value.specs.Contents.{Content, absent}
use Rattle.mz_arena.specs.Instances.{ModelVar}
use Rattle.fz_items.specs.Forms.{Form}
use Rattle.fz_items.specs.Items.{Elements, ◌>>=◌}
use Rattle.soln_reader.specs.Blocks.{Given, is_false, is_least, whole, solved, solution}
use Rattle.mz_print_model.specs.Shapes.{forms_of}

-- what a solution has under each output name
abbrev pub Named : Type 0
Named = List ℕ → Elements

-- the output names of a shape
abbrev pub occurrence_name : Form → List ℕ
occurrence_name f = codes "X_OCC_" ++ f.label

abbrev pub value_name : Form → List ℕ
value_name f = if f.opt then codes "X_VAL_" ++ f.label else f.label

-- what the stream gives for a shape: all that the solution has under its names
abbrev pub told : Named → Form → Given
told r f = record { occurs = if f.opt then Some (r (occurrence_name f)) else None; value = Some (r (value_name f)) }

-- an element is absent where it doesn't occur
abbrev pub occurring : Content → Content → Content
occurring o x = if is_false o then absent else x

unfoldable pub all_occurring : List (List Range) → List Content → List Content → List Content
all_occurring (d ∷ ds) (o ∷ os) (x ∷ xs) = occurring o x ∷ all_occurring ds os xs
all_occurring [] os xs = []
all_occurring (d ∷ ds) [] xs = []
all_occurring (d ∷ ds) (o ∷ os) [] = []

abbrev pub elements_read : Named → Form → List Content
elements_read r f = if f.opt then all_occurring f.domains (r (occurrence_name f)).items (r (value_name f)).items else (r (value_name f)).items

-- THE VALUE OF A NAME: what the solution has under it, absent where it doesn't occur
abbrev pub value_read : Named → Form → Option Content
value_read r f = whole (r (value_name f)).index (elements_read r f)

abbrev pub values_read : Named → List Form → Option (List Content)
values_read r [] = Some []
values_read r (f ∷ fs) = do
  x ← value_read r f
  xs ← values_read r fs
  Some (x ∷ xs)

-- where an element doesn't occur, its value is the least of its domain
abbrev pub AreLeast : List (List Range) → List Content → List Content → Type 0
AreLeast (d ∷ ds) (o ∷ os) (x ∷ xs) = (is_false o ≡ true → is_least x d ≡ true) × AreLeast ds os xs
AreLeast [] os xs = Unit {0}
AreLeast (d ∷ ds) [] xs = Unit {0}
AreLeast (d ∷ ds) (o ∷ os) [] = Unit {0}

abbrev pub HasLeast : Named → Form → Type 0
HasLeast r f = f.opt ≡ true → AreLeast f.domains (r (occurrence_name f)).items (r (value_name f)).items

abbrev pub HaveLeast : Named → List Form → Type 0
HaveLeast r [] = Unit {0}
HaveLeast r (f ∷ fs) = HasLeast r f × HaveLeast r fs

-- the law: the solution that a block of these items is has the values of the names
abbrev pub AreReadOff : Type 0
AreReadOff = (table : List (List ℕ)) (ms : List ModelVar) (r : Named) → HaveLeast r (forms_of table ms) → solution (forms_of table ms) (map (told r) (forms_of table ms)) ≡ values_read r (forms_of table ms)
