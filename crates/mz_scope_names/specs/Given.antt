-- The occurrences of names in data. An identifier in a value isn't one, but where it is a case of an enum.
use Rattle.std.specs.Prelude.{◌≡◌, List, [], ◌∷◌, ◌++◌, Bool, true, false, Option, Some, None, refl}
use Rattle.std.specs.List.{flat_map}
use Rattle.mz_base.specs.declared.fault.Span.{Span}
use Rattle.mz_tree.specs.Tree.{Name}
use Rattle.mz_tree.specs.Data as pure
use Rattle.mz_tree.specs.Data.{Value, Values, Given}
use Rattle.mz_tree.specs.Items.{ItemTree, enum}
use Rattle.mz_scope_names.specs.declared.occurrence.Occurrence.{Occurrence}
use Rattle.mz_scope_names.specs.declared.occurrence.Role.TheVariants.{Declared, Valued, Listed, Misfit}
use Rattle.mz_scope_names.specs.Roles.{occurs}
use Rattle.mz_scope_names.specs.Occurrences.{of_case, in_item}
use Rattle.mz_scope_names.specs.Sets.{holds}

abbrev pub identifier : Value → Option Name
identifier (pure.ident n) = Some n
identifier v = None

abbrev pub with_identifier : Option Name → Option (List Name) → Option (List Name)
with_identifier (Some n) (Some ns) = Some (n ∷ ns)
with_identifier (Some n) None = None
with_identifier None ns = None

-- a list of identifiers
unfoldable pub identifiers : Values → Option (List Name)
identifiers pure.no_values = Some []
identifiers (pure.a_value v vs) = with_identifier (identifier v) (identifiers vs)

-- the cases that a value gives an enum: those of a set or of a list of identifiers
unfoldable pub cases_in : Value → Option (List Name)
cases_in (pure.set vs) = identifiers vs
cases_in (pure.array vs) = identifiers vs
cases_in v = None

-- the names of enums, in the order of their items
abbrev pub enum_of : ItemTree → List Name
enum_of (enum n s cs) = n ∷ []
enum_of i = []

-- cases from data have the place of the value
abbrev pub listed : Name → Span → Option (List Name) → List Occurrence
listed n at None = occurs Misfit n at ∷ []
listed n at (Some ns) = occurs Listed n at ∷ flat_map (λ c. of_case (c, at)) ns

-- an item of the data, for an enum and for another name
abbrev pub in_given : Bool → Given → List Occurrence
in_given true d = occurs Valued d.name d.span ∷ listed d.name d.at (cases_in d.value)
in_given false d = occurs Valued d.name d.span ∷ []

-- all occurrences: those of the model's files, then those of the data
abbrev pub occurrences : List ItemTree → List Given → List Occurrence
occurrences is ds = flat_map in_item is ++ flat_map (λ d. in_given (holds d.name (flat_map enum_of is)) d) ds

-- a list of identifiers, and one with something else in it
pub of_two_cases : cases_in (pure.set (pure.values (pure.ident 3 ∷ pure.ident 4 ∷ []))) ≡ Some (3 ∷ 4 ∷ [])
unfolding cases_in identifiers
of_two_cases = refl

pub of_a_number : cases_in (pure.array (pure.values (pure.ident 3 ∷ pure.bool true ∷ []))) ≡ None
unfolding cases_in identifiers
of_a_number = refl

pub of_no_cases : cases_in (pure.set pure.no_values) ≡ Some []
unfolding cases_in identifiers
of_no_cases = refl

pub of_a_name : cases_in (pure.ident 3) ≡ None
unfolding cases_in identifiers
of_a_name = refl

-- a value for an enum, and for another name
pub of_an_enum : (s t : Span) → in_given true (record { name = 0; span = s; at = t; value = pure.set (pure.values (pure.ident 1 ∷ [])) }) ≡ occurs Valued 0 s ∷ occurs Listed 0 t ∷ occurs Declared 1 t ∷ occurs Valued 1 t ∷ []
unfolding cases_in identifiers
of_an_enum s t = refl

pub of_a_misfit : (s t : Span) → in_given true (record { name = 0; span = s; at = t; value = pure.ident 1 }) ≡ occurs Valued 0 s ∷ occurs Misfit 0 t ∷ []
unfolding cases_in identifiers
of_a_misfit s t = refl
