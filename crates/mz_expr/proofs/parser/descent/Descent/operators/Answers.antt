use Rattle.std.proofs.Common.{◌≡◌, ◌++◌, ◌∷◌, [], map, sym, ap, ◌∙◌, arith}
use Rattle.std.specs.Prelude.{Some}
use Rattle.std.proofs.lemmas.List.{map_push}
use Rattle.mz_tree.specs.Tree.{op_before}
use Rattle.mz_tree.specs.Views.{tree, link}
use Rattle.mz_grammar.specs.Tokens.{tok_at}
use Rattle.mz_grammar.specs.Operators.{binary_of}
use Rattle.mz_expr.proofs.Loops.{operators_more}
use Rattle.mz_expr.proofs.parser.descent.Descent.operators.Goals as goal

pub loop-op-preserved : goal.loop-op-preserved
loop-op-preserved g c =
    let pushed : map link c.push.new.self.items ≡ map link c.loop-op.all.items ++ (op_before c.in-Some.op c.at-start.result, tree c.in_ok-into_expr.field-0) ∷ [] = rw c.in_ok-push.ensures.items (map_push _ c.loop-op.all.items _) in
    let is : binary_of c.args.l (tok_at c.loop-op.cur.rest.now) ≡ Some c.in-Some.op = ap (binary_of c.args.l) (sym c.tok.ensures) ∙ sym c.binary_of.ensures ∙ c.in-Some.is in
    record {
      reads = rw pushed (operators_more c.args.l _ c.in-Some.op _ _ _ c.loop-op.cur.room c.skip.new.self.room c.operand.new.cur.room c.loop-op.cur.rest.now c.skip.new.self.rest.now c.operand.new.cur.rest.now _ c.loop-op.invariant.reads is c.skip.ensures.rest c.skip.ensures.room c.in_ok-x.ensures.room c.in_ok-x.ensures.reads c.in_ok-into_expr.ensures c.at-start.ensures (sym c.is_nonassociative.ensures ∙ c.if-is_nonassociative.false));
      room = c.in_ok-x.ensures.room ∙ c.skip.ensures.room ∙ c.loop-op.invariant.room;
      end = c.operand.ensures.end ∙ c.skip.ensures.end ∙ c.loop-op.invariant.end;
      shorter = omega (arith, c.in_ok-x.ensures.shorter, c.skip.ensures.shorter, c.loop-op.invariant.shorter);
    }
