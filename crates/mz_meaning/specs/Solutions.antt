-- WHAT SOLVES A MODEL.
use Rattle.std.specs.Prelude.{◌≡◌, ℕ, suc, ℤ, true, List, [], ◌∷◌, Option, Some, None}
use Rattle.mz_value.specs.Contents.{Content}
use Rattle.mz_value.specs.Contents as values
use Rattle.mz_core.specs.Program.{PlainProgram}
use Rattle.mz_meaning.specs.Runs.{State, Out, start}
use Rattle.mz_meaning.specs.Cells.{Cell, Given, value_of, is_true}
use Rattle.mz_meaning.specs.Domains.{Domain, Domains, Fixed, Scalar, Places, lies_in, holds}
use Rattle.mz_meaning.specs.Contexts.{Positive}
use Rattle.mz_meaning.specs.Walk.{Limits, Assignment, Declared, Walked, walk}

abbrev pub Each : {A : Type 0} → (A → Type 0) → List A → Type 0
Each P [] = Unit {0}
Each P (x ∷ xs) = P x × Each P xs

-- a decision value lies in its domain
abbrev pub IsInside : Assignment → Declared → Type 0
IsInside a x = holds x.domains (a x.slot) ≡ true

-- a declared value is defined, and is its variable's value
pub record IsValue (v : Option Content) (c : Cell) : Type 0 where
  pub content : Content
  pub assigned : v ≡ Some content
  pub declared : value_of c ≡ Some content

abbrev pub HasValue : Option Content → Option Cell → Type 0
HasValue v None = Unit {0}
HasValue v (Some c) = IsValue v c

-- nothing is asked of a par name
abbrev pub Matches : Assignment → Domains → Declared → Type 0
Matches a Fixed x = Unit {0}
Matches a (Scalar d) x = HasValue (a x.slot) x.value
Matches a (Places ix ds) x = HasValue (a x.slot) x.value

abbrev pub MatchesValue : Assignment → Declared → Type 0
MatchesValue a x = Matches a x.domains x

abbrev pub IsMet : Cell → Type 0
IsMet c = is_true (value_of c) ≡ true

-- choices from the k-th on lie in these domains
abbrev pub AreLegalFrom : ℕ → (ℕ → Content) → List Domain → Type 0
AreLegalFrom k f [] = Unit {0}
AreLegalFrom k f (d ∷ ds) = (lies_in d (f k) ≡ true) × AreLegalFrom (suc k) f ds

-- the objective is defined and has this value; a model without one has none
abbrev pub Aims : Option Cell → Option ℤ → Type 0
Aims None n = n ≡ None
Aims (Some c) None = ⊥
Aims (Some c) (Some n) = value_of c ≡ Some (values.int n)

-- AN ASSIGNMENT SOLVES A MODEL, WITH THIS OBJECTIVE: its values lie in their domains, and there are legal choices, one for each that the walk takes, under which the walk goes through, each declared value is its variable's, every constraint is true, and the objective is this number
pub record SolvesWith (l : Limits) (p : PlainProgram) (a : Assignment) (n : Option ℤ) : Type 0 where
  pub choices : ℕ → Content
  pub out : Walked
  pub end : State
  pub runs : walk Positive l (Given choices) a p start ≡ Out out end
  pub inside : Each (IsInside a) out.names
  pub legal : AreLegalFrom 0 choices end.taken
  pub declared : Each (MatchesValue a) out.names
  pub constraints : Each IsMet out.constraints
  pub objective : Aims out.objective n

abbrev pub Solves : Limits → PlainProgram → Assignment → Type 0
Solves l p a = (n : Option ℤ) × SolvesWith l p a n
