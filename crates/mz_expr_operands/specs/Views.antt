-- What the code's operands and arguments stand for.
use Rattle.std.specs.Prelude.{List, [], ◌∷◌, Bool, true, false, Option}
use Rattle.std.specs.Option.{option_map}
use Rattle.mz_tree.specs.Tree.{Tree, Maybe, maybe}
use Rattle.mz_tree.specs.declared.expr.BinOp.{BinOp}
use Rattle.mz_tree.specs.declared.expr.BinOp.TheVariants as op
use Rattle.mz_tree.specs.declared.expr.PlacedOp.{PlacedOp}
use Rattle.mz_grammar.specs.Arguments as pure_role
use Rattle.mz_tree.specs.declared.expr.Expr.{Expr}
use Rattle.mz_base.specs.declared.one_drop.OneDrop.{OneDrop}
use Rattle.mz_expr_operands.specs.declared.argument.Role.{Role}
use Rattle.mz_expr_operands.specs.declared.argument.Role.TheVariants as role_of
use Rattle.mz_tree.specs.Views.{tree, generator}
use Rattle.mz_grammar.specs.Parts as pure
use Rattle.mz_expr_operands.specs.declared.operand.Operand.{Operand}
use Rattle.mz_expr_operands.specs.declared.operand.Operand.TheVariants as of_code
use Rattle.mz_expr_operands.specs.declared.argument.Argument.{Argument}
use Rattle.mz_expr_operands.specs.declared.argument.Argument.TheVariants as argument_of

abbrev pub operand : Operand → pure.Operand
operand (of_code.Name n s) = pure.name n s
operand (of_code.Member n s p e) = pure.member n s p (tree e.value)
operand (of_code.Other s e) = pure.other s (tree e.value)

abbrev pub argument : Argument → pure.Argument
argument (argument_of.Unguarded x) = pure.unguarded (operand x)
argument (argument_of.Guarded x c) = pure.guarded (operand x) (tree c.value)
argument (argument_of.Strict g) = pure.strict (generator g.value)

-- a condition, if there is one
abbrev pub condition : Option (OneDrop Expr) → Maybe
condition c = maybe (option_map (λ h. tree h.value) c)

abbrev pub role : Role → pure_role.Role
role (role_of.Waiting n s) = pure_role.waiting n s
role (role_of.Bound ns e c) = pure_role.bound ns.items (tree e.value) (condition c)
role role_of.Unfit = pure_role.unfit

abbrev pub is_member : BinOp → Bool
is_member op.Member = true
is_member _ = false

-- one `in` with its operand
abbrev pub is_one_member : List (PlacedOp × Tree) → Bool
is_one_member [] = false
is_one_member (l ∷ []) = is_member l.0.op
is_one_member (l ∷ m ∷ ls) = false
