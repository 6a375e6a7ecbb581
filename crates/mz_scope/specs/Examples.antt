-- Worked examples: small models with each fault, and with two of them.
use Rattle.std.specs.Prelude.{◌≡◌, ℕ, ◌+◌, List, [], ◌∷◌, true, false, Option, Some, None, codes, nat_eq, refl, pos}
use Rattle.std.specs.List.{flat_map}
use Rattle.mz_base.specs.declared.fault.Span.{Span}
use Rattle.mz_base.specs.declared.fault.Fault.{Fault}
use Rattle.mz_base.specs.declared.kind.Kind.TheVariants.{ReservedName, DuplicateName, SolveItems, UnknownName, DataForm, MissingData}
use Rattle.mz_base.specs.Faults.{fault_at}
use Rattle.mz_tree.specs.Tree as pure
use Rattle.mz_tree.specs.Tree.{Tree}
use Rattle.mz_tree.specs.Data as data_tree
use Rattle.mz_tree.specs.Data.{Given, Value}
use Rattle.mz_tree.specs.Items.{ItemTree, satisfy, declare, assign, constraint, solve, enum}
use Rattle.mz_scope_names.specs.Occurrences.{in_tree, in_parameter, in_top}
use Rattle.mz_scope_names.specs.Given.{identifiers, cases_in, occurrences}
use Rattle.mz_scope.specs.Tests.{first, first_after, refusal, solve_in}

-- a, b, X_a, E, A, f, z, max; max alone is known
abbrev texts : List (List ℕ)
texts = codes "a" ∷ codes "b" ∷ codes "X_a" ∷ codes "E" ∷ codes "A" ∷ codes "f" ∷ codes "z" ∷ codes "max" ∷ []

abbrev at : ℕ → Span
at k = record { file = 0; line = 1; col = k; byte = k }

abbrev number : Tree
number = pure.node (at 99) (pure.int (pos 1))

abbrev name : ℕ → ℕ → Tree
name n k = pure.node (at k) (pure.ident n)

-- `int: n`, `int: n = 1` and `var int: n`, with the name at k
abbrev wanting : ℕ → ℕ → ItemTree
wanting n k = declare (pure.declaration (pure.written (at k) pure.no_array false false false pure.base_int) n (at k) pure.nothing)

abbrev valued : ℕ → ℕ → ItemTree
valued n k = declare (pure.declaration (pure.written (at k) pure.no_array false false false pure.base_int) n (at k) (pure.just number))

abbrev variable : ℕ → ℕ → ItemTree
variable n k = declare (pure.declaration (pure.written (at k) pure.no_array true false false pure.base_int) n (at k) pure.nothing)

-- data for n, with the name at k and the value after it
abbrev datum : ℕ → ℕ → Value → Given
datum n k v = record { name = n; span = at k; at = at (k + 1); value = v }

abbrev solved : ItemTree
solved = solve (at 90) satisfy

-- what is refused of these items and these data, where the model ends at 100
abbrev refused : List ItemTree → List Given → Option Fault
refused is ds = refusal texts (nat_eq 7) (at 100) (flat_map solve_in is) (occurrences is ds)

abbrev no_data : List Given
no_data = []

pub nothing_wrong : refused (variable 0 1 ∷ constraint (name 0 2) ∷ solved ∷ []) no_data ≡ None
unfolding in_tree in_top in_parameter identifiers cases_in first first_after
nothing_wrong = refl

pub reserved : refused (variable 2 1 ∷ solved ∷ []) no_data ≡ Some (fault_at ReservedName (at 1))
unfolding in_tree in_top in_parameter identifiers cases_in first first_after
reserved = refl

pub declared_twice : refused (valued 0 1 ∷ valued 0 2 ∷ solved ∷ []) no_data ≡ Some (fault_at DuplicateName (at 2))
unfolding in_tree in_top in_parameter identifiers cases_in first first_after
declared_twice = refl

-- `a = 1; int: a = 1`: the declaration is the second name
pub declared_after_its_value : refused (assign 0 (at 1) number ∷ valued 0 2 ∷ solved ∷ []) no_data ≡ Some (fault_at DuplicateName (at 2))
unfolding in_tree in_top in_parameter identifiers cases_in first first_after
declared_after_its_value = refl

pub given_twice : refused (wanting 0 1 ∷ assign 0 (at 2) number ∷ solved ∷ []) (datum 0 3 (data_tree.int (pos 1)) ∷ []) ≡ Some (fault_at DuplicateName (at 3))
unfolding in_tree in_top in_parameter identifiers cases_in first first_after
given_twice = refl

-- data for an enum whose item lists its cases
pub cases_given_twice : refused (enum 3 (at 1) (Some ((4, at 2) ∷ [])) ∷ solved ∷ []) (datum 3 3 (data_tree.set data_tree.no_values) ∷ []) ≡ Some (fault_at DuplicateName (at 3))
unfolding in_tree in_top in_parameter identifiers cases_in first first_after
cases_given_twice = refl

-- an assignment to a case
pub case_given : refused (enum 3 (at 1) (Some ((4, at 2) ∷ [])) ∷ assign 4 (at 3) number ∷ solved ∷ []) no_data ≡ Some (fault_at DuplicateName (at 3))
unfolding in_tree in_top in_parameter identifiers cases_in first first_after
case_given = refl

pub no_solve_item : refused (variable 0 1 ∷ []) no_data ≡ Some (fault_at SolveItems (at 100))
unfolding in_tree in_top in_parameter identifiers cases_in first first_after
no_solve_item = refl

pub second_solve_item : refused (solved ∷ solve (at 91) satisfy ∷ solve (at 92) satisfy ∷ []) no_data ≡ Some (fault_at SolveItems (at 91))
unfolding in_tree in_top in_parameter identifiers cases_in first first_after
second_solve_item = refl

pub unknown : refused (constraint (name 6 1) ∷ solved ∷ []) no_data ≡ Some (fault_at UnknownName (at 1))
unfolding in_tree in_top in_parameter identifiers cases_in first first_after
unknown = refl

-- a known name
pub known_name : refused (constraint (name 7 1) ∷ solved ∷ []) no_data ≡ None
unfolding in_tree in_top in_parameter identifiers cases_in first first_after
known_name = refl

-- data for a name that nothing declares
pub data_for_nothing : refused (solved ∷ []) (datum 0 1 (data_tree.int (pos 1)) ∷ []) ≡ Some (fault_at UnknownName (at 1))
unfolding in_tree in_top in_parameter identifiers cases_in first first_after
data_for_nothing = refl

pub enum_with_a_name : refused (enum 3 (at 1) None ∷ solved ∷ []) (datum 3 2 (data_tree.ident 4) ∷ []) ≡ Some (fault_at DataForm (at 3))
unfolding in_tree in_top in_parameter identifiers cases_in first first_after
enum_with_a_name = refl

pub without_a_value : refused (wanting 0 1 ∷ solved ∷ []) no_data ≡ Some (fault_at MissingData (at 1))
unfolding in_tree in_top in_parameter identifiers cases_in first first_after
without_a_value = refl

pub value_from_data : refused (wanting 0 1 ∷ solved ∷ []) (datum 0 2 (data_tree.int (pos 1)) ∷ []) ≡ None
unfolding in_tree in_top in_parameter identifiers cases_in first first_after
value_from_data = refl

pub without_cases : refused (enum 3 (at 1) None ∷ solved ∷ []) no_data ≡ Some (fault_at MissingData (at 1))
unfolding in_tree in_top in_parameter identifiers cases_in first first_after
without_cases = refl

-- an assignment gives an enum no cases
pub assigned_cases : refused (enum 3 (at 1) None ∷ assign 3 (at 2) (pure.node (at 3) (pure.set pure.no_trees)) ∷ solved ∷ []) no_data ≡ Some (fault_at MissingData (at 1))
unfolding in_tree in_top in_parameter identifiers cases_in first first_after
assigned_cases = refl

pub no_cases_from_data : refused (enum 3 (at 1) None ∷ solved ∷ []) (datum 3 2 (data_tree.set data_tree.no_values) ∷ []) ≡ None
unfolding in_tree in_top in_parameter identifiers cases_in first first_after
no_cases_from_data = refl

-- with two faults the test that comes first answers, wherever they stand
pub reserved_before_twice : refused (valued 0 1 ∷ valued 0 2 ∷ variable 2 3 ∷ solved ∷ []) no_data ≡ Some (fault_at ReservedName (at 3))
unfolding in_tree in_top in_parameter identifiers cases_in first first_after
reserved_before_twice = refl

pub twice_before_solve : refused (valued 0 1 ∷ valued 0 2 ∷ []) no_data ≡ Some (fault_at DuplicateName (at 2))
unfolding in_tree in_top in_parameter identifiers cases_in first first_after
twice_before_solve = refl

pub solve_before_unknown : refused (constraint (name 6 1) ∷ []) no_data ≡ Some (fault_at SolveItems (at 100))
unfolding in_tree in_top in_parameter identifiers cases_in first first_after
solve_before_unknown = refl

pub unknown_before_data : refused (enum 3 (at 1) None ∷ constraint (name 6 2) ∷ solved ∷ []) (datum 3 3 (data_tree.ident 4) ∷ []) ≡ Some (fault_at UnknownName (at 2))
unfolding in_tree in_top in_parameter identifiers cases_in first first_after
unknown_before_data = refl

pub data_before_missing : refused (wanting 0 1 ∷ enum 3 (at 2) None ∷ solved ∷ []) (datum 3 3 (data_tree.ident 4) ∷ []) ≡ Some (fault_at DataForm (at 4))
unfolding in_tree in_top in_parameter identifiers cases_in first first_after
data_before_missing = refl
