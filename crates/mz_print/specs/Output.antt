-- The text that is printed for a solution of a model.
use Rattle.std.specs.Prelude.{◌≡◌, ℕ, ◌+◌, pos, not, ◌&&◌, map, nat_eq, Bool, true, List, [], ◌∷◌, ◌++◌, length, Option, Some, None, codes, if◌then◌else◌}
use Rattle.std.specs.List.{flat_map, AllByRecursion}
use Rattle.mz_base.specs.declared.fault.Fault.{Fault}
use Rattle.mz_base.specs.declared.fault.Span.{Span}
use Rattle.mz_base.specs.declared.kind.Kind.TheVariants.{OutputUndefined}
use Rattle.mz_base.specs.Names.{text_of}
use Rattle.mz_value.specs.Ranges.{Range, range_of}
use Rattle.mz_value.specs.Contents.{Content}
use Rattle.mz_value.specs.Contents as values
use Rattle.mz_value.specs.Shown.{Names, shown, shown_integers, bytes_of}
use Rattle.mz_core.specs.Program.{PlainProgram}
use Rattle.mz_core.specs.Tree.{Tree, Decl, place_of}
use Rattle.mz_operations.specs.Views.{items_in}
use Rattle.mz_meaning.specs.Runs.{Run, State, Answer, Out, Stopped, start, ◌>>=◌, give, stop, loop}
use Rattle.mz_meaning.specs.Cells.{Cell, Par, Env, Mode, Bare, Given, no_names, bind, value_of, is_par, is_there}
use Rattle.mz_meaning.specs.Contexts.{Untested}
use Rattle.mz_meaning.specs.Domains.{Domains, Fixed, Scalar, Places}
use Rattle.mz_meaning.specs.Forms.{World}
use Rattle.mz_meaning.specs.Evaluation.{eval}
use Rattle.mz_meaning.specs.Walk.{Limits, Assignment, Declared, world_at, levels}
use Rattle.mz_meaning_laws.specs.Independence.{IsParTree}

-- names

-- a top-level name, as printing sees it: the cell that the walk gave it, and None of a decision variable
pub record OutputName : Type 0 where
  pub slot : ℕ
  pub fixed : Option Cell

abbrev pub fixed_cell : Domains → Cell → Option Cell
fixed_cell Fixed c = Some c
fixed_cell (Scalar d) c = None
fixed_cell (Places index ds) c = None

abbrev pub output_name : Declared → OutputName
output_name x = record { slot = x.slot; fixed = fixed_cell x.domains x.cell }

-- the names of a model, as its walk declares them
abbrev pub output_names : List Declared → List OutputName
output_names xs = map output_name xs

-- a decision variable is par, with its value
abbrev pub output_cell : Option Cell → Option Content → Cell
output_cell (Some c) v = c
output_cell None v = Par v

unfoldable pub output_env : Assignment → List OutputName → Env
output_env a [] = no_names
output_env a (x ∷ xs) = bind x.slot (output_cell x.fixed (a x.slot)) (output_env a xs)

-- the slots of the decision variables
abbrev pub slot_if : ℕ → Option Cell → List ℕ
slot_if s None = s ∷ []
slot_if s (Some c) = []

abbrev pub variable_slot : OutputName → List ℕ
variable_slot x = slot_if x.slot x.fixed

abbrev pub variable_slots : List OutputName → List ℕ
variable_slots xs = flat_map variable_slot xs

-- THE ASSIGNMENT OF A SOLUTION: a value for each of these slots, in their order
unfoldable pub assigned : List ℕ → List Content → Assignment
assigned [] vs k = None
assigned (s ∷ ss) [] k = None
assigned (s ∷ ss) (v ∷ vs) k = if nat_eq s k then Some v else assigned ss vs k

-- output items

-- an item that was evaluated: its place, and its value, None where that is undefined
abbrev pub OutputItem : Type 0
OutputItem = Span × Option Content

-- one item more, in a place that tests no context
abbrev pub output_item : World → List OutputItem → Tree → Run (List OutputItem)
output_item w items e = do
  c ← eval w levels Untested e w.top
  give (items ++ (place_of e, value_of c) ∷ [])

-- all items in their order, whether they are defined or not
abbrev pub output_items : World → List Tree → Run (List OutputItem)
output_items w es = loop (output_item w) [] es

-- the elements of an array of texts, one after the other
abbrev pub joined_elements : Content → List ℕ
joined_elements (values.array index xs) = flat_map bytes_of (items_in xs)
joined_elements x = []

-- the items' texts; the first undefined item is refused with the block's number
abbrev pub joined_items : ℕ → List OutputItem → Run (List ℕ)
joined_items n [] = give []
joined_items n ((at, None) ∷ items) = stop OutputUndefined at (pos n)
joined_items n ((at, Some x) ∷ items) = joined_items n items >>= λ rest. give (joined_elements x ++ rest)

-- without an output item

abbrev pub index_text : List Range → List ℕ
index_text index = flat_map (λ r. shown_integers (range_of r.0 r.1) ++ codes ", ") index

-- as it is shown; an array stands in its dimension's call, with its index sets as sets of integers
abbrev pub default_value : Names → Content → List ℕ
default_value names (values.array index xs) = codes "array" ++ (48 + length index) ∷ codes "d(" ++ index_text index ++ shown names (values.array index xs) ++ codes ")"
default_value names x = shown names x

abbrev pub default_line : Names → List ℕ → Option Content → List ℕ
default_line names label None = []
default_line names label (Some x) = label ++ codes " = " ++ default_value names x ++ codes ";\n"

-- a declared variable that has no value in the model
abbrev pub is_shown : Decl → Bool
is_shown d = d.ty.ty.var && not (is_there d.value)

abbrev pub default_of : List (List ℕ) → Names → Assignment → Decl → List ℕ
default_of table names a d = if is_shown d then default_line names (text_of table d.name) (a d.slot) else []

-- a line for each such variable, in source order
abbrev pub default_text : List (List ℕ) → PlainProgram → Assignment → List ℕ
default_text table p a = flat_map (default_of table p.cases a) p.decls

-- the text

abbrev pub text_by : List (List ℕ) → Limits → Mode → PlainProgram → List OutputName → Assignment → ℕ → List Tree → Run (List ℕ)
text_by table l m p xs a n [] = give (default_text table p a)
text_by table l m p xs a n (e ∷ es) = output_items (world_at l m p (output_env a xs)) (e ∷ es) >>= joined_items n

-- THE TEXT OF A SOLUTION, which is the block with this number: of a program, of its top-level names, and of the value of
-- each decision variable. Its work begins at 0
unfoldable pub output_text : List (List ℕ) → Limits → Mode → PlainProgram → List OutputName → Assignment → ℕ → Run (List ℕ)
output_text table l m p xs a n = text_by table l m p xs a n p.outputs

-- laws

-- where some item stops at a fault, so does the text, whether an item is undefined or not
abbrev pub FaultsComeFirst : Type 0
FaultsComeFirst = (table : List (List ℕ)) (l : Limits) (m : Mode) (p : PlainProgram) (xs : List OutputName) (a : Assignment) (n : ℕ) (e : Tree) (es : List Tree) (s : State) (f : Fault) → output_items (world_at l m p (output_env a xs)) (e ∷ es) s ≡ Stopped f → text_by table l m p xs a n (e ∷ es) s ≡ Stopped f

-- a name that is no decision variable has a par cell, as the walk gives it
abbrev pub IsParIf : Option Cell → Type 0
IsParIf None = Unit {0}
IsParIf (Some c) = is_par c ≡ true

abbrev pub IsParName : OutputName → Type 0
IsParName x = IsParIf x.fixed

-- the same text by the same work, or the same fault
abbrev pub AreSameTexts : Answer (List ℕ) → Answer (List ℕ) → Type 0
AreSameTexts (Out t s) (Out u r) = (t ≡ u) × (s.work ≡ r.work)
AreSameTexts (Stopped f) (Stopped g) = f ≡ g
AreSameTexts (Out t s) (Stopped g) = ⊥
AreSameTexts (Stopped f) (Out u r) = ⊥

-- WHATEVER VALUES FREE LOCALS TAKE, the text is that of the run without values
abbrev pub IsFreeOfChoices : Type 0
IsFreeOfChoices = (table : List (List ℕ)) (l : Limits) (p : PlainProgram) (xs : List OutputName) (a : Assignment) (n : ℕ) (choices : ℕ → Content) → AllByRecursion IsParName xs → AllByRecursion IsParTree p.outputs → AreSameTexts (output_text table l Bare p xs a n start) (output_text table l (Given choices) p xs a n start)
