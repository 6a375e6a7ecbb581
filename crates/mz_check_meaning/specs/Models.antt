-- What is known of a model while it is typed: what its names stand for, and the types that were typed so far.
use Rattle.std.specs.Prelude.{ℕ, ◌+◌, Bool, true, false, not, List, [], ◌∷◌, Option, Some, None, nat_eq, nat_lt, map, if◌then◌else◌}
use Rattle.mz_base.specs.declared.fault.Span.{Span}
use Rattle.mz_base.specs.declared.kind.Kind.TheVariants as kind
use Rattle.mz_core.specs.Types.{PlainType, PlainSignature}
use Rattle.mz_core.specs.Tree.{Decl, DeclaredType}
use Rattle.mz_tree.specs.Tree.{Name}
use Rattle.mz_check_meaning.specs.declared.meaning.Meaning.{Meaning}
use Rattle.mz_check_meaning.specs.Tests.{Test, found}

-- a function's typed parameters, and its typed result
pub record Heading : Type 0 where
  pub params : List Decl
  pub result : DeclaredType

abbrev pub signature_of : Heading → PlainSignature
signature_of h = record { params = map (λ d. d.ty.ty) h.params; result = h.result.ty }

-- Numbers go with what they are the numbers of, each once; so what a name or a number stands for is found by an index.
pub record Model : Type 0 where
  -- the texts of names
  pub texts : List (List ℕ)
  -- the space of enums, cases, declarations and functions without parameters
  pub names : List (Name × Meaning)
  -- the functions with parameters, in source order, each by its name and its number among all functions
  pub functions : List (Name × ℕ)
  -- the names of all functions
  pub function_names : List Name
  -- how many declarations there are; their slots are the numbers below
  pub count : ℕ
  -- what the types of declarations and of functions are typed to, or the fault at which that stops
  pub types : List (ℕ × Test DeclaredType)
  pub headings : List (ℕ × Test Heading)

-- the first entry of a name or number
unfoldable pub entry_of : {A : Type 0} → ℕ → List (ℕ × A) → Option A
entry_of n [] = None
entry_of n (x ∷ xs) = if nat_eq x.0 n then Some x.1 else entry_of n xs

-- all entries of a name, in order
unfoldable pub entries_of : {A : Type 0} → ℕ → List (ℕ × A) → List A
entries_of n [] = []
entries_of n (x ∷ xs) = if nat_eq x.0 n then x.1 ∷ entries_of n xs else entries_of n xs

-- what stands in a table of types. A type that isn't typed yet is never asked for, since types are typed after those that they need
abbrev pub typed_so_far : {A : Type 0} → Span → Option (Test A) → Test A
typed_so_far at None = found kind.UnknownName at None
typed_so_far at (Some t) = t

abbrev pub type_of_decl : Model → Span → ℕ → Test DeclaredType
type_of_decl m at d = typed_so_far at (entry_of d m.types)

abbrev pub heading_of : Model → Span → ℕ → Test Heading
heading_of m at f = typed_so_far at (entry_of f m.headings)

-- LOCAL NAMES

pub record Local : Type 0 where
  pub name : Name
  pub slot : ℕ
  pub ty : PlainType

-- The local names at a place, the newest first, and the next free slot: a local name's slot is the number of declarations and local
-- names that are there before it. In output items the values of declarations are known.
pub record Env : Type 0 where
  pub locals : List Local
  pub next : ℕ
  pub output : Bool

abbrev pub outermost : Model → Env
outermost m = record { locals = []; next = m.count; output = false }

abbrev pub in_output : Model → Env
in_output m = record { locals = []; next = m.count; output = true }

abbrev pub bind : Name → PlainType → Env → Env
bind n t env = record { locals = record { name = n; slot = env.next; ty = t } ∷ env.locals; next = env.next + 1; output = env.output }

unfoldable pub local_in : Name → List Local → Option Local
local_in n [] = None
local_in n (l ∷ ls) = if nat_eq l.name n then Some l else local_in n ls

abbrev pub is_newer : ℕ → Option Local → Bool
is_newer start None = false
is_newer start (Some l) = not (nat_lt l.slot start)

-- the name was bound since this slot was the next: a second time in one let, one list of parameters or one comprehension
abbrev pub is_bound_since : ℕ → Name → Env → Bool
is_bound_since start n env = is_newer start (local_in n env.locals)
