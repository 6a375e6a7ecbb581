-- What a row gives, and a variable that stands for a node.
use Rattle.std.specs.Prelude.{◌≡◌, ℕ, List, [], ◌∷◌, ◌++◌, length, map, true, Some, IsSome as IsThere}
use Rattle.mz_arena.specs.declared.node.NodeKind.{NodeKind}
use Rattle.mz_arena.specs.Values as terms
use Rattle.mz_arena.specs.Extents.{Known}
use Rattle.fz_program.specs.declared.program.Domain.{Domain}
use Rattle.fz_program.specs.declared.row_name.RowName.{RowName}
use Rattle.fz_program.specs.Arguments.{Plain, Argument}
use Rattle.fz_program.specs.Values.{Value, Values}
use Rattle.fz_program.specs.Flat.{Variable, Program, FlatSolves, IsSome as HasSome, argument_value, plain_value, is_within}
use Rattle.fz_build.specs.Results.{result_given}
use Rattle.fz_build.specs.Bounds.{AreInputs, result_domain}
use Rattle.fz_build.specs.Build.{IsOver, args_with, defined_variable}
use Rattle.fz_build.specs.Asked.{is_linear_row}
use Rattle.fz_build.specs.Growth.{Grows, HasDomain}
use Rattle.fz_build.specs.History.{Made}
use Rattle.flat_reif_rows.specs.Standing.{seen, Suits, AllSuit, extent_over, term_over}

-- ---- one row

-- Inputs of the row's kinds, whose result has a domain. A linear row stays within 64 bits with the variable.
pub record MayGive (p : Program) (name : RowName) (inputs : List Argument) : Type 0 where
  pub are : AreInputs p.vars name inputs
  pub domain : Domain
  pub is : result_domain p.vars name inputs ≡ Some domain
  pub within : is_linear_row name ≡ true → is_within (p.vars ++ defined_variable p domain ∷ []) (args_with name inputs (length p.vars)) ≡ true

pub record GivesSome (name : RowName) (inputs : List Argument) (f : Values) : Type 0 where
  pub result : Value
  pub is : result_given name (map (argument_value f) inputs) ≡ Some result

-- the program was made step by step, and so is the new one
abbrev pub GoesOnMade : Program → Program → Type 0
GoesOnMade old new = (front : Program) (n : ℕ) → Made front old n → Made front new n

-- `out` is what the row gives of the inputs, in the domain of its result
pub record Gives (old new : Program) (name : RowName) (inputs : List Argument) (out : Plain) : Type 0 where
  pub domain : Domain
  pub is : result_domain old.vars name inputs ≡ Some domain
  pub some : HasSome domain
  pub typed : HasDomain new.vars out domain
  pub grows : Grows old new (GivesSome name inputs)
  pub place : IsOver (length new.vars) out
  pub value : (f : Values) → FlatSolves new f → result_given name (map (argument_value f) inputs) ≡ Some (plain_value f out)
  pub made : GoesOnMade old new

-- ---- one node

-- arguments that suit the bounds of the children of a node of this kind
pub record AreOperands (vs : List Variable) (k : NodeKind) (ps : List Plain) : Type 0 where
  pub bounds : List Known
  pub suit : AllSuit vs ps bounds
  pub known : IsThere (extent_over k bounds)

-- the node has a value
pub record HasValue (v : terms.Values) (k : NodeKind) (ps : List Plain) (f : Values) : Type 0 where
  pub result : terms.Val
  pub is : term_over v k ps f ≡ Some result

-- `out` stands for a node of this kind over the arguments of its children: it equals the node's term in each solution, and lies within the node's bounds.
pub record Makes (old new : Program) (k : NodeKind) (ps : List Plain) (out : Plain) : Type 0 where
  pub grows : (v : terms.Values) → Grows old new (HasValue v k ps)
  pub place : IsOver (length new.vars) out
  pub suits : (bounds : List Known) → AllSuit old.vars ps bounds → IsThere (extent_over k bounds) → Suits new.vars out (extent_over k bounds)
  pub value : (v : terms.Values) (f : Values) → FlatSolves new f → term_over v k ps f ≡ Some (seen (plain_value f out))
  pub made : GoesOnMade old new
