-- A name with one `in` after it.
use Rattle.std.proofs.Common.{◌≡◌, refl, map, true, List, [], ◌∷◌, ◌++◌}
use Rattle.mz_base.specs.declared.fault.Span.{Span}
use Rattle.mz_tree.specs.Tree.{Name, Tree}
use Rattle.mz_tree.specs.declared.expr.Expr.{Expr}
use Rattle.mz_tree.specs.declared.expr.BinOp.{BinOp}
use Rattle.mz_tree.specs.declared.expr.BinOp.TheVariants as op
use Rattle.mz_tree.specs.declared.expr.PlacedOp.{PlacedOp}
use Rattle.mz_tree.specs.Views.{tree, link}
use Rattle.mz_grammar.specs.Parts.{name, member, chained, related_by}
use Rattle.mz_expr_operands.specs.Views.{is_member, is_one_member}

-- a pair that is one operator with its operand
related-member : (n : Name) (s : Span) (o : BinOp) (p : Span) (e : Tree) → is_member o ≡ true → member n s p e ≡ related_by n s o p e
related-member n s op.Member p e h = refl
related-member n s o p e h = absurd (cc)

-- the operand of the only operator is its last one
pub chained-member : (n : Name) (s : Span) (ls prefix : List (PlacedOp × Expr)) (l : PlacedOp × Expr) → is_one_member (map link ls) ≡ true → ls ≡ prefix ++ (l ∷ []) → member n s l.0.start (tree l.1) ≡ chained (name n s) (map link ls)
chained-member n s [] prefix l h e = absurd (cc)
chained-member n s (k ∷ []) [] l h e = let f : k ≡ l = cc in rw (← f) (related-member n s k.0.op k.0.start (tree k.1) h)
chained-member n s (k ∷ []) (f ∷ []) l h e = absurd (cc)
chained-member n s (k ∷ []) (f ∷ g ∷ prefix) l h e = absurd (cc)
chained-member n s (k ∷ m ∷ ls) prefix l h e = absurd (cc)
