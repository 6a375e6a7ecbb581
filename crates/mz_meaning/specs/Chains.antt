-- Chains of binary operators of one level. A chain of k operators is k nodes with one nesting, whose operands have one more; parentheses and coercions don't end it. So the operators of a chain that stands as the first operand belong to it: here they come first. For `++` it is the last operand that decides.
use Rattle.std.specs.Prelude.{ℕ, Bool, false, ◌||◌, List, [], ◌∷◌, ◌++◌, map, nat_eq, Option, Some, None, if◌then◌else◌}
use Rattle.std.specs.Option.{option_map}
use Rattle.mz_base.specs.declared.fault.Span.{Span}
use Rattle.mz_core.specs.declared.types.Base.{Base}
use Rattle.mz_core.specs.Types.{PlainType}
use Rattle.mz_core.specs.Coercions.{PathLink}
use Rattle.mz_core.specs.Tree.{Tree, Shape, Step, Steps, all_steps, steps, node, chain, coerce, no_steps, a_step, type_of}
use Rattle.mz_meaning.specs.Coerced.{coerced_type}
use Rattle.mz_operations.specs.Lines.{level_of}
use Rattle.mz_meaning.specs.Operations.{row_at}
use Rattle.mz_operations.specs.declared.row.Row.{Row}
use Rattle.mz_meaning.specs.Contexts.{Context, Untested, Positive, Other, closes_left, closes_right, elsewhere_if, links_close}

abbrev pub chain_level : List Step → ℕ
chain_level [] = 0
chain_level (s ∷ ss) = level_of s.row

abbrev pub same_level : ℕ → List Step → Bool
same_level l [] = false
same_level l (s ∷ ss) = nat_eq l (level_of s.row)

-- an operator with the place of its node
pub record Operator : Type 0 where
  pub at : Span
  pub step : Step

abbrev pub operators_at : Span → List Step → List Operator
operators_at at ss = map (λ s. record { at = at; step = s }) ss

-- ---- a first operand that is a chain of the level: its own first operand, its operators, and the coercions round it
pub record Innermost : Type 0 where
  pub first : Tree
  pub operators : List Operator
  pub links : List PathLink

-- the coercions round the first operand come before those of its operator
abbrev pub with_left : List PathLink → List Step → List Step
with_left ls [] = []
with_left ls (s ∷ ss) = record { start = s.start; row = s.row; ty = s.ty; left = ls ++ s.left; right = s.right; operand = s.operand } ∷ ss

abbrev pub with_innermost : Span → List Step → Tree → Option Innermost → Innermost
with_innermost at ss e None = record { first = e; operators = operators_at at ss; links = [] }
with_innermost at ss e (Some f) = record { first = f.first; operators = f.operators ++ operators_at at (with_left f.links ss); links = [] }

abbrev pub coerced_innermost : PathLink → Innermost → Innermost
coerced_innermost l f = record { first = f.first; operators = f.operators; links = f.links ++ l ∷ [] }

unfoldable mutual
  pub innermost_of : ℕ → Tree → Option Innermost
  innermost_of l (node at t form) = innermost_in l at t form

  pub innermost_in : ℕ → Span → PlainType → Shape → Option Innermost
  innermost_in l at t (chain e ss) = if same_level l (all_steps ss) then Some (with_innermost at (all_steps ss) e (innermost_of l e)) else None
  innermost_in l at t (coerce c e) = option_map (coerced_innermost (c, t)) (innermost_of l e)
  innermost_in l at t form = None

-- ---- for `++`: a last operand that is such a chain: its own first operand, its operators, and the coercions round it

abbrev pub with_right : List PathLink → Tree → Step → Step
with_right ls e s = record { start = s.start; row = s.row; ty = s.ty; left = s.left; right = ls ++ s.right; operand = e }

abbrev pub last_backed : Span → Step → Option Innermost → List Operator
last_backed at s None = record { at = at; step = s } ∷ []
last_backed at s (Some f) = record { at = at; step = with_right f.links f.first s } ∷ f.operators

abbrev pub a_step_of : Span → ℕ → PlainType → List PathLink → List PathLink → Tree → Step
a_step_of sp r t l m e = record { start = sp; row = r; ty = t; left = l; right = m; operand = e }

unfoldable mutual
  pub back_of : Tree → Option Innermost
  back_of (node at t form) = back_in at t form

  pub back_in : Span → PlainType → Shape → Option Innermost
  back_in at t (chain e ss) = if same_level 12 (all_steps ss) then Some (record { first = e; operators = backed at ss; links = [] }) else None
  back_in at t (coerce c e) = option_map (coerced_innermost (c, t)) (back_of e)
  back_in at t form = None

  -- the operators of a chain at a place, with those of a chain that is its last operand; the node of each operator after the first begins where its own first operand does
  pub backed : Span → Steps → List Operator
  backed at no_steps = []
  backed at (a_step sp r t l m e no_steps) = last_backed at (a_step_of sp r t l m e) (back_of e)
  backed at (a_step sp r t l m e (a_step sp2 r2 t2 l2 m2 e2 ss)) = record { at = at; step = a_step_of sp r t l m e } ∷ backed sp (a_step sp2 r2 t2 l2 m2 e2 ss)

-- ---- all operators of a chain, with the innermost first operand

abbrev pub chained : Span → Tree → List Step → Innermost
chained at e ss =
    if same_level 12 ss
    then record { first = e; operators = backed at (steps ss); links = [] }
    else with_innermost at ss e (innermost_of (chain_level ss) e)

-- ---- the operators' contexts

-- of operands with this base after their coercions
abbrev pub operand_base : Step → Base
operand_base s = (coerced_type (type_of s.operand) s.right).base

abbrev pub closed_by : (Row → Base → Bool) → Base → Option Row → Bool
closed_by test b None = false
closed_by test b (Some r) = test r b

abbrev pub row_closes : (Row → Base → Bool) → Step → Bool
row_closes test s = closed_by test (operand_base s) (row_at s.row (operand_base s))

-- the place of an operator's left operand, and of its right one, where the operator stands in a positive place
abbrev pub left_place : Step → Context
left_place s = elsewhere_if (row_closes closes_left s || links_close s.left) Positive

abbrev pub right_place : Step → Context
right_place s = elsewhere_if (row_closes closes_right s || links_close s.right) Positive

abbrev pub left_in : Context → Step → Context
left_in Untested s = Untested
left_in Positive s = left_place s
left_in Other s = Other

abbrev pub right_in : Context → Step → Context
right_in Untested s = Untested
right_in Positive s = right_place s
right_in Other s = Other

-- each operator's node is the left operand of the next one; here the place of the node before these operators
abbrev pub before_all : List Operator → Context
before_all [] = Positive
before_all (o ∷ os) = left_in (before_all os) o.step

abbrev pub before : Context → List Operator → Context
before Untested os = Untested
before Positive os = before_all os
before Other os = Other

-- of `++` each operator's node is the right operand of the one before; here the place of the operand before these operators, whose node has this place
abbrev pub first_in : Context → List Operator → Context
first_in Untested os = Untested
first_in Positive [] = Positive
first_in Positive (o ∷ os) = left_place o.step
first_in Other os = Other
