-- Arrays of sets and of Booleans as arguments.
use Rattle.std.specs.Prelude.{◌≡◌, refl, ℕ, List, [], ◌∷◌, map, Bool, true, false, Option, Some, None, IsSome}
use Rattle.std.specs.Option.{option_map}
use Rattle.mz_value.specs.Ranges.{Range}
use Rattle.mz_value.specs.Contents.{Content, contents}
use Rattle.mz_value.specs.Contents as values
use Rattle.mz_instance.specs.Contents.{is_one}
use Rattle.mz_core.specs.declared.types.Base.{Base}
use Rattle.mz_arena.specs.Values.{Term, as_number, as_set, is_true}
use Rattle.mz_arena.specs.Values as terms
use Rattle.mz_symbol.specs.declared.types.Symbol.{Symbol}
use Rattle.mz_symbol.specs.Lines.{only_if}
use Rattle.mz_symbol.specs.Runs.{Run}
use Rattle.mz_symbol.specs.Readings.{Reading, Reads}
use Rattle.glob_nodes.specs.declared.arguments.Numbers.{Numbers}

-- the elements, where each is there
abbrev pub all_some : {A : Type 0} → List (Option A) → Option (List A)
all_some [] = Some []
all_some (None ∷ os) = None
all_some (Some x ∷ os) = option_map (λ xs. x ∷ xs) (all_some os)

-- what a term is as a truth value
abbrev pub truth_of : Term → Option Bool
truth_of t = option_map is_one (as_number t)

-- what the elements of an array are, as terms are seen
abbrev pub elements_by : {A : Type 0} → (Term → Option A) → Reading → Numbers → List (Option A)
elements_by see r a = map (λ id. see (r.term id)) a.items.items

-- the elements, none where the array is undefined
abbrev pub elements_in : {A : Type 0} → (Term → Option A) → Reading → Numbers → Option (List A)
elements_in see r a = only_if (is_true (r.term a.defined)) (all_some (elements_by see r a))

abbrev pub array_by : {A : Type 0} → (A → Content) → Range → Option (List A) → Option Content
array_by make x o = option_map (λ vs. values.array (x ∷ []) (contents (map make vs))) o

-- an array of sets, and one of Booleans, as an argument
abbrev pub sets_value : Reading → Numbers → Option Content
sets_value r a = array_by (values.set None) (a.first, a.last) (elements_in as_set r a)

abbrev pub truths_value : Reading → Numbers → Option Content
truths_value r a = array_by values.bool (a.first, a.last) (elements_in truth_of r a)

-- where an array is defined, each element is there
abbrev pub AreThere : {A : Type 0} → (Term → Option A) → Run → Numbers → Type 0
AreThere see s a = (r : Reading) → Reads r s → is_true (r.term a.defined) ≡ true → IsSome (all_some (elements_by see r a))

abbrev pub AreSets : Run → Numbers → Type 0
AreSets s a = AreThere as_set s a

abbrev pub AreTruths : Run → Numbers → Type 0
AreTruths s a = AreThere truth_of s a

-- a node that is this set under each reading
abbrev pub IsSet : Run → ℕ → List Range → Type 0
IsSet s id u = (r : Reading) → Reads r s → r.term id ≡ Some (terms.set u)

-- ---- worked examples

both_are_there : all_some (Some true ∷ Some false ∷ []) ≡ Some (true ∷ false ∷ [])
both_are_there = refl

one_is_missing : all_some (Some true ∷ None ∷ []) ≡ None
one_is_missing = refl

one_is_true : truth_of (terms.bit true) ≡ Some true
one_is_true = refl

an_undefined_truth : truth_of None ≡ None
an_undefined_truth = refl

-- a symbol that is no option
abbrev pub plain_symbol : Base → ℕ → Symbol
plain_symbol b id = record { base = b; occurs = None; term = id }
