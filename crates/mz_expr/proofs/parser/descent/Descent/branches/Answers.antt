use Rattle.std.proofs.Common.{◌≡◌, ◌++◌, ◌∷◌, [], map, sym, ap, ◌∙◌, arith, true}
use Rattle.std.proofs.lemmas.List.{map_push}
use Rattle.mz_base.specs.declared.keyword.Keyword.TheVariants.{KElseif}
use Rattle.mz_tree.specs.Views.{branch}
use Rattle.mz_grammar.specs.Tokens.{tok_at}
use Rattle.mz_grammar.specs.Look.{is_word}
use Rattle.mz_expr.proofs.Loops.{branches_more}
use Rattle.mz_expr.proofs.parser.descent.Descent.branches.Goals as goal

pub loop-cur-preserved : goal.loop-cur-preserved
loop-cur-preserved g c =
    let pushed : map branch c.push.new.self.items ≡ map branch c.loop-cur.all.items ++ branch c.in_ok-next.next ∷ [] = rw c.in_ok-push.ensures.items (map_push _ c.loop-cur.all.items _) in
    let is : is_word KElseif (tok_at c.loop-cur.cur.rest.now) ≡ true = ap (is_word KElseif) (sym c.tok.ensures) ∙ sym c.is_word.ensures ∙ c.loop-cur-test.true in
    record {
      reads = rw pushed (branches_more _ _ c.loop-cur.cur.room c.skip.new.self.room c.branch-self.new.cur.room c.loop-cur.cur.rest.now c.skip.new.self.rest.now c.branch-self.new.cur.rest.now _ c.loop-cur.invariant.reads is c.skip.ensures.rest c.skip.ensures.room c.in_ok-next.ensures.room c.in_ok-next.ensures.reads);
      room = c.in_ok-next.ensures.room ∙ c.skip.ensures.room ∙ c.loop-cur.invariant.room;
      end = c.branch-self.ensures.end ∙ c.skip.ensures.end ∙ c.loop-cur.invariant.end;
      shorter = omega (arith, c.in_ok-next.ensures.shorter, c.skip.ensures.shorter, c.loop-cur.invariant.shorter);
    }
