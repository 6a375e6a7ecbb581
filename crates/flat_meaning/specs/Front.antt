-- THE FRONT of a FlatZinc program: the variables and the arrays of the model, in the order of evaluation. The number of a part is the place of its variable.
use Rattle.std.specs.Prelude.{◌≡◌, ℕ, suc, pos, List, map, [], ◌∷◌, ◌++◌, Bool, true, false, Option, Some, None, is_none, codes, decimal, if◌then◌else◌}
use Rattle.mz_base.specs.Names.{text_of}
use Rattle.mz_base.specs.Words.{is_identifier}
use Rattle.mz_value.specs.Ranges.{Range}
use Rattle.mz_operations.specs.Sets.{is_empty_set}
use Rattle.mz_arena.specs.Instances.{VarCell, ModelVar}
use Rattle.mz_instance.specs.Parts.{Sort, Whole, Truth, Subset, Part, occurrence, value_part, next, after_cells}
use Rattle.fz_program.specs.Names.{Name, is_reserved}
use Rattle.fz_program.specs.declared.program.Domain.{Domain}
use Rattle.fz_program.specs.declared.program.Domain.TheVariants.{Bool as Truths, Ints, SetOf}
use Rattle.fz_program.specs.Flat.{Variable, ArrayItem, AreDistinct}

-- ---- names

abbrev pub occurrence_name : Name → Name
occurrence_name x = codes "X_OCC_" ++ x

abbrev pub value_name : Name → Name
value_name x = codes "X_VAL_" ++ x

-- the place k, from 1, of an array
abbrev pub place_name : ℕ → Name → Name
place_name k x = decimal k ++ codes "_" ++ x

abbrev pub element_name : ℕ → Name → Name
element_name k x = codes "X_ELT_" ++ place_name k x

-- the k-th variable, from 0, that the compiler makes
abbrev pub introduced_name : ℕ → Name
introduced_name k = codes "X_INTRODUCED_" ++ decimal k ++ codes "_"

-- of a scalar, or of a place of an array: an option's value, or another
abbrev pub value_label : Bool → Bool → ℕ → Name → Name
value_label true false k x = x
value_label true true k x = value_name x
value_label false false k x = element_name k x
value_label false true k x = value_name (place_name k x)

abbrev pub occurrence_label : Bool → ℕ → Name → Name
occurrence_label true k x = occurrence_name x
occurrence_label false k x = occurrence_name (place_name k x)

-- ---- variables

-- an empty domain is written as 0..0
abbrev pub written_set : List Range → List Range
written_set u = if is_empty_set u then (pos 0, pos 0) ∷ [] else u

abbrev pub domain_by : Sort → List Range → Domain
domain_by Whole u = Ints (written_set u)
domain_by Truth u = Truths
domain_by Subset u = SetOf u

-- a variable of the model: those of scalars are marked for output, since those of arrays are printed with their array
abbrev pub front_variable : Bool → Name → Part → Variable
front_variable scalar x p = record { label = x; domain = domain_by p.sort p.set; introduced = false; defined = false; output = scalar }

-- an option's occurrence comes before its value
abbrev pub cell_variables : Bool → Bool → ℕ → Name → Part → List Variable
cell_variables scalar true k x p = front_variable scalar (occurrence_label scalar k x) occurrence ∷ front_variable scalar (value_label scalar true k x) p ∷ []
cell_variables scalar false k x p = front_variable scalar (value_label scalar false k x) p ∷ []

-- of the cells from the place k on
abbrev pub variables_from : ModelVar → ℕ → Name → List VarCell → List Variable
variables_from m k x [] = []
variables_from m k x (c ∷ cs) = cell_variables (is_none m.index) m.opt k x (value_part m c) ++ variables_from m (suc k) x cs

abbrev pub front_variables : List Name → List ModelVar → List Variable
front_variables table [] = []
front_variables table (m ∷ ms) = variables_from m 1 (text_of table m.name) m.cells ++ front_variables table ms

-- ---- arrays

-- the place of the value of a cell whose first part has this number
abbrev pub value_place : Bool → ℕ → ℕ
value_place true k = suc k
value_place false k = k

abbrev pub value_places : Bool → ℕ → List VarCell → List ℕ
value_places opt k [] = []
value_places opt k (c ∷ cs) = value_place opt k ∷ value_places opt (next opt k) cs

-- of options
abbrev pub occurrence_places : ℕ → List VarCell → List ℕ
occurrence_places k [] = []
occurrence_places k (c ∷ cs) = k ∷ occurrence_places (suc (suc k)) cs

abbrev pub array_item : Name → List Range → List ℕ → ArrayItem
array_item x ix places = record { label = x; index = ix; items = places }

-- an array of options has one for the occurrences, and one for the values
abbrev pub var_arrays : Option (List Range) → Bool → Name → ℕ → List VarCell → List ArrayItem
var_arrays None opt x k cs = []
var_arrays (Some ix) false x k cs = array_item x ix (value_places false k cs) ∷ []
var_arrays (Some ix) true x k cs = array_item (occurrence_name x) ix (occurrence_places k cs) ∷ array_item (value_name x) ix (value_places true k cs) ∷ []

-- of variables whose first part has the number k
abbrev pub front_arrays : List Name → ℕ → List ModelVar → List ArrayItem
front_arrays table k [] = []
front_arrays table k (m ∷ ms) = var_arrays m.index m.opt (text_of table m.name) k m.cells ++ front_arrays table (after_cells m.opt m.cells k) ms

-- ---- WHAT IS ASKED OF THE NAMES of an instance's variables: they are identifiers, differ, and don't begin as those do that the compiler makes

pub record HasName (table : List Name) (m : ModelVar) : Type 0 where
  pub name : is_identifier (text_of table m.name) ≡ true
  pub own : is_reserved (text_of table m.name) ≡ false

abbrev pub HaveNames : List Name → List ModelVar → Type 0
HaveNames table [] = Unit {0}
HaveNames table (m ∷ ms) = HasName table m × HaveNames table ms

pub record AreNamed (table : List Name) (ms : List ModelVar) : Type 0 where
  pub names : HaveNames table ms
  pub distinct : AreDistinct (map (λ (m : ModelVar). text_of table m.name) ms)
