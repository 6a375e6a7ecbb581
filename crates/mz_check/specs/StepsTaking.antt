-- Declarations and functions with their types, which are taken from tables. Mirror of src/assemble.rt; private clauses only.
use Rattle.std.specs.Prelude.{ℕ, ◌+◌, List, [], ◌∷◌, ◌++◌, Option, Some, None, Ok}
use Rattle.mz_core.specs.Tree.{Tree, Decl, DeclaredType}
use Rattle.mz_core.specs.Program.{Function}
use Rattle.mz_tree.specs.Tree as source
use Rattle.mz_tree.specs.Tree.{Declaration}
use Rattle.mz_tree.specs.Items.{FunctionTree}
use Rattle.mz_check_meaning.specs.Tests.{Test}
use Rattle.mz_check_meaning.specs.Models.{Heading, entry_of}

abbrev pub taken : {A : Type 0} → Option (Test A) → Option A
taken (Some (Ok x)) = Some x
taken o = None

abbrev pub decl_with : ℕ → Declaration → DeclaredType → Option Tree → Decl
decl_with k (source.declaration t n at e) u v = record { slot = k; name = n; span = at; ty = u; value = v }

abbrev pub function_with : FunctionTree → Heading → Tree → Function
function_with f h b = record { name = f.name; span = f.span; params = h.params; result = h.result; body = b }

-- one, where it is typed

abbrev pub decl_by : Option (Test DeclaredType) → ℕ → Declaration → Option Tree → List Decl
decl_by (Some (Ok u)) k d v = decl_with k d u v ∷ []
decl_by o k d v = []

abbrev pub function_by : Option (Test Heading) → ℕ → FunctionTree → Tree → List Function
function_by (Some (Ok h)) k f b = function_with f h b ∷ []
function_by o k f b = []

-- one by its number, where there is one; and all from a number on
module _ {T D V R : Type 0} (by : Option (Test T) → ℕ → D → V → List R) where
  abbrev pub at_number : List (ℕ × Test T) → ℕ → Option D → V → List R
  at_number ts k None v = []
  at_number ts k (Some d) v = by (entry_of k ts) k d v

  unfoldable pub from_number : List (ℕ × Test T) → ℕ → List D → List V → List R
  from_number ts k [] vs = []
  from_number ts k (d ∷ ds) [] = []
  from_number ts k (d ∷ ds) (v ∷ vs) = by (entry_of k ts) k d v ++ from_number ts (k + 1) ds vs
