-- The operators of chains.
use Rattle.std.specs.Prelude.{ℕ, List, [], ◌∷◌, ◌++◌, map, Option, Some, None, if◌then◌else◌}
use Rattle.std.specs.Option.{option_map}
use Rattle.mz_base.specs.declared.fault.Span.{Span}
use Rattle.mz_core.specs.declared.tree.Core.{Core}
use Rattle.mz_core.specs.declared.tree.CoreStep.{CoreStep}
use Rattle.mz_core.specs.Types.{PlainType, plain_type}
use Rattle.mz_core.specs.Coercions.{PathLink}
use Rattle.mz_core.specs.Paths.{path_links}
use Rattle.mz_core.specs.Tree.{Layer, chain_form, coerce_form, root_coercions, steps}
use Rattle.mz_core.specs.Tree as trees
use Rattle.mz_core.specs.TreeViews.{step, tree}
use Rattle.mz_meaning.specs.Chains as chains
use Rattle.mz_meaning.specs.Chains.{with_right}
use Rattle.mz_eval_chains.specs.Links.{links_round}
use Rattle.mz_eval_chains.specs.declared.types.Operator.{Operator}
use Rattle.mz_eval_chains.specs.declared.types.Innermost.{Innermost}

abbrev pub operator_of : Operator → chains.Operator
operator_of o = record {
  at = o.at;
  step = record {
    start = o.step.now.start;
    row = o.step.now.row;
    ty = plain_type o.step.now.ty;
    left = links_round o.before ++ path_links o.step.now.left.items;
    right = links_round o.after ++ path_links o.step.now.right.items;
    operand = tree o.operand.now;
  };
}

abbrev pub innermost_of : Innermost → chains.Innermost
innermost_of f = record { first = tree f.first.now; operators = map operator_of f.operators.items; links = [] }

-- a step with further coercions of its left operand
abbrev pub left_of_step : List PathLink → trees.Step → trees.Step
left_of_step ls s = record { start = s.start; row = s.row; ty = s.ty; left = ls ++ s.left; right = s.right; operand = s.operand }

-- with these coercions round it
abbrev pub with_links : List PathLink → chains.Innermost → chains.Innermost
with_links ls f = record { first = f.first; operators = f.operators; links = ls }

-- an operand's chain with these coercions round it, if it is one
abbrev pub part_innermost : List PathLink → Option Innermost → Option chains.Innermost
part_innermost ls o = option_map (λ f. with_links ls (innermost_of f)) o

-- an operand that is a chain of this level, by the operand's layer
abbrev pub innermost_by : ℕ → Span → PlainType → Layer → Option chains.Innermost
innermost_by l at t (chain_form e ss) = if chains.same_level l ss then Some (chains.with_innermost at ss e (chains.innermost_of l e)) else None
innermost_by l at t (coerce_form c e) = option_map (chains.coerced_innermost (c, t)) (chains.innermost_of l e)
innermost_by l at t _ = None

-- and one of `++`
abbrev pub back_by : Span → PlainType → Layer → Option chains.Innermost
back_by at t (chain_form e ss) = if chains.same_level 12 ss then Some (record { first = e; operators = chains.backed at (steps ss); links = [] }) else None
back_by at t (coerce_form c e) = option_map (chains.coerced_innermost (c, t)) (chains.back_of e)
back_by at t _ = None

-- operators of `++`: the first one's node has this place, and each one's after it begins where its own first operand does
abbrev pub appends_at : Span → List trees.Step → List chains.Operator
appends_at at [] = []
appends_at at (s ∷ ss) = record { at = at; step = s } ∷ appends_at s.start ss

-- the place of the operator's node after them
abbrev pub place_after : Span → List trees.Step → Span
place_after at [] = at
place_after at (s ∷ ss) = place_after s.start ss

-- the last operator, whose operand may be a chain of `++` below these coercions
abbrev pub last_with : Span → trees.Step → List PathLink → Option chains.Innermost → List chains.Operator
last_with at s ls None = record { at = at; step = s } ∷ []
last_with at s ls (Some f) = record { at = at; step = with_right ls f.first s } ∷ f.operators

-- the operator of a step with this operand, which stands below the coercions of the step's
abbrev pub operator_with : Span → CoreStep → Core → chains.Operator
operator_with at s e = record { at = at; step = with_right (root_coercions (tree s.operand)) (tree e) (step s) }
