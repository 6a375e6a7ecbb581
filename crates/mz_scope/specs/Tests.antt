-- The tests of names, each over all occurrences in the order of the text, and the order of the tests.
use Rattle.std.specs.Prelude.{ℕ, ◌<◌, List, [], ◌∷◌, ◌++◌, Bool, true, false, ◌&&◌, ◌||◌, not, if◌then◌else◌, Option, Some, None, take, codes, length, map}
use Rattle.std.specs.List.{flat_map, All}
use Rattle.std.specs.Str.{bytes_eq}
use Rattle.mz_base.specs.declared.fault.Span.{Span}
use Rattle.mz_base.specs.declared.fault.Fault.{Fault}
use Rattle.mz_base.specs.declared.kind.Kind.{Kind}
use Rattle.mz_base.specs.declared.kind.Kind.TheVariants.{ReservedName, DuplicateName, SolveItems, UnknownName, DataForm, MissingData}
use Rattle.mz_base.specs.Faults.{fault_at, start_of}
use Rattle.mz_base.specs.Names.{text_of}
use Rattle.mz_builtin.specs.Signatures.{is_known}
use Rattle.mz_tree.specs.declared.source.SourceFile.{SourceFile}
use Rattle.mz_tree.specs.declared.data.DataItem.{DataItem}
use Rattle.mz_tree.specs.Data.{given}
use Rattle.mz_tree.specs.Items.{ItemTree, solve}
use Rattle.mz_scope_names.specs.declared.occurrence.Occurrence.{Occurrence}
use Rattle.mz_scope_names.specs.declared.occurrence.Role.{Role}
use Rattle.mz_scope_names.specs.declared.occurrence.Role.TheVariants.{Valued, Used, Lacking, Wanting, Caseless, Misfit}
use Rattle.mz_scope_names.specs.Given.{occurrences}
use Rattle.mz_scope_names.specs.StepsWalk.{items_of}
use Rattle.mz_scope_names.specs.Sets.{holds}
use Rattle.mz_scope.specs.Spaces.{declares, introduces, binds, gives, lists, names_with}

-- names of the compiler's own
abbrev pub begins_reserved : List ℕ → Bool
begins_reserved text = bytes_eq (take 2 text) (codes "X_")

-- a top-level name that is kept for the compiler
abbrev pub is_reserved : List (List ℕ) → Occurrence → Bool
is_reserved texts o = introduces o.role && begins_reserved (text_of texts o.name)

-- a name that is declared, or given a value, a second time
abbrev pub is_repeated : List Occurrence → Occurrence → Bool
is_repeated before o = (declares o.role && holds o.name (names_with declares before)) || (gives o.role && holds o.name (names_with gives before))

-- an operator, a built-in or a global has this name
abbrev pub known_in : List (List ℕ) → ℕ → Bool
known_in texts n = is_known (text_of texts n)

-- A name is used that nothing declares, and that isn't known; or one is given a value that
-- isn't a declaration or an enum.
abbrev pub unknown_as : Role → (ℕ → Bool) → List ℕ → List ℕ → ℕ → Bool
unknown_as Used known bound declared n = not (holds n bound) && not (known n)
unknown_as Valued known bound declared n = not (holds n declared)
unknown_as r known bound declared n = false

abbrev pub is_unknown : (ℕ → Bool) → List ℕ → List ℕ → Occurrence → Bool
is_unknown known bound declared o = unknown_as o.role known bound declared o.name

-- data for an enum that is no set or list of identifiers
abbrev pub misfits : Role → Bool
misfits Misfit = true
misfits r = false

abbrev pub is_misfit : Occurrence → Bool
is_misfit o = misfits o.role

-- a par declaration without a value, or an enum without cases
abbrev pub missing_as : Role → List ℕ → List ℕ → ℕ → Bool
missing_as Lacking valued listed n = true
missing_as Wanting valued listed n = not (holds n valued)
missing_as Caseless valued listed n = not (holds n listed)
missing_as r valued listed n = false

abbrev pub is_missing : List ℕ → List ℕ → Occurrence → Bool
is_missing valued listed o = missing_as o.role valued listed o.name

-- the place of the first occurrence that a test finds
unfoldable pub first : (Occurrence → Bool) → List Occurrence → Option Span
first test [] = None
first test (o ∷ os) = if test o then Some o.span else first test os

-- the same, of a test that looks at what comes before
unfoldable pub first_after : (List Occurrence → Occurrence → Bool) → List Occurrence → List Occurrence → Option Span
first_after test before [] = None
first_after test before (o ∷ os) = if test before o then Some o.span else first_after test (before ++ o ∷ []) os

-- the places of solve items
abbrev pub solve_in : ItemTree → List Span
solve_in (solve s g) = s ∷ []
solve_in i = []

-- there is none, which shows at the end of the model's file, or a second one
abbrev pub solve_fault : Span → List Span → Option Span
solve_fault end [] = Some end
solve_fault end (s ∷ []) = None
solve_fault end (s ∷ t ∷ ss) = Some t

-- the end of the model's file
abbrev pub end_of : List SourceFile → Span
end_of [] = start_of 0
end_of (f ∷ fs) = f.end

abbrev pub or_refused : Kind → Option Span → Option Fault → Option Fault
or_refused kind (Some s) later = Some (fault_at kind s)
or_refused kind None later = later

abbrev pub first_unknown_of : (ℕ → Bool) → List Occurrence → Option Span
first_unknown_of known os = first (is_unknown known (names_with binds os) (names_with declares os)) os

abbrev pub first_missing_of : List Occurrence → Option Span
first_missing_of os = first (is_missing (names_with gives os) (names_with lists os)) os

-- what the tests after the one of solve items refuse
abbrev pub refusal_after_solves : (ℕ → Bool) → List Occurrence → Option Fault
refusal_after_solves known os =
    or_refused UnknownName (first_unknown_of known os)
    (or_refused DataForm (first is_misfit os)
    (or_refused MissingData (first_missing_of os)
    None))

-- What is refused: the first test, in this order, that finds something.
abbrev pub refusal : List (List ℕ) → (ℕ → Bool) → Span → List Span → List Occurrence → Option Fault
refusal texts known end solves os =
    or_refused ReservedName (first (is_reserved texts) os)
    (or_refused DuplicateName (first_after is_repeated [] os)
    (or_refused SolveItems (solve_fault end solves)
    (refusal_after_solves known os)))

-- each name is one of the table
abbrev pub AreNamed : List (List ℕ) → List Occurrence → Type 0
AreNamed texts os = All (λ o. o.name < length texts) os

-- what is refused of a model with its data
abbrev pub refusal_of : List (List ℕ) → List SourceFile → List DataItem → Option Fault
refusal_of texts fs ds = refusal texts (known_in texts) (end_of fs) (flat_map solve_in (items_of fs)) (occurrences (items_of fs) (map given ds))
