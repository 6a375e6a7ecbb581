use Rattle.std.proofs.Common.{◌≡◌, ◌++◌, ◌∷◌, [], map, sym, ap, ◌∙◌, arith, rules, List, Vec, Global}
use Rattle.std.specs.Prelude.{Some, None, Ok}
use Rattle.std.proofs.lemmas.List.{map_push}
use Rattle.mz_tree.specs.declared.expr.TextPart.{TextPart}
use Rattle.mz_tree.specs.Tree.{Part}
use Rattle.mz_tree.specs.Tree as pure
use Rattle.mz_tree.specs.Views.{tree, part}
use Rattle.mz_grammar.specs.Tokens.{tok_at, behind}
use Rattle.mz_grammar.specs.Rules.{syntax}
use Rattle.mz_grammar.specs.RulesReading.{on, stuck}
use Rattle.mz_grammar.specs.Tests.{middle_of, tail_of}
use Rattle.mz_expr.proofs.Loops.{gives_same, text_last, text_more}
use Rattle.mz_expr.proofs.parser.descent.Descent.text_rest.Goals as goal

abbrev pieces : Vec TextPart Global → List Part
pieces v = map part v.items

pub returns-in-None : goal.returns-in-None
returns-in-None g c =
    let all : List Part = map part c.loop-all.all.items in
    let pushed : map part c.push.new.self.items ≡ all ++ pure.shown (tree c.in_ok-e.e) ∷ [] = rw c.in_ok-push.ensures.items (map_push part c.loop-all.all.items c.make_shown.result ∙ ap (λ x. all ++ x ∷ []) c.make_shown.ensures) in
    let is : middle_of (tok_at c.expr.new.cur.rest.now) ≡ None = sym c.middle_of.ensures ∙ c.in-None.is in
    record {
      reads = gives_same pieces _ _ c.last_piece.result _ _
          (sym c.loop-all.invariant.reads ∙ text_last all (tree c.in_ok-e.e) c.loop-all.cur.room c.loop-all.cur.rest.now c.expr.new.cur.rest.now c.in_ok-e.ensures.reads is
          ∙ ap (λ done. on (tail_of (tok_at c.expr.new.cur.rest.now)) (stuck {A = List Part} syntax c.expr.new.cur.rest.now) (λ n. Ok (done ++ (pure.plain n ∷ []), behind c.expr.new.cur.rest.now))) (sym pushed))
          c.last_piece.ensures.reads;
      room = search rules;
      end = search rules;
      shorter = search rules;
    }

pub loop-all-preserved : goal.loop-all-preserved
loop-all-preserved g c =
    let all : List Part = map part c.loop-all.all.items in
    let first : map part c.push.new.self.items ≡ all ++ pure.shown (tree c.in_ok-e.e) ∷ [] = rw c.in_ok-push.ensures.items (map_push part c.loop-all.all.items c.make_shown.result ∙ ap (λ x. all ++ x ∷ []) c.make_shown.ensures) in
    let pushed : map part c.push-in-Some.new.self.items ≡ (all ++ pure.shown (tree c.in_ok-e.e) ∷ []) ++ pure.plain c.in-Some.piece ∷ [] = rw c.in_ok-push-in-Some.ensures.items (map_push part c.push.new.self.items c.make_plain.result ∙ ap (λ x. map part c.push.new.self.items ++ x ∷ []) c.make_plain.ensures ∙ ap (λ l. l ++ pure.plain c.in-Some.piece ∷ []) first) in
    let is : middle_of (tok_at c.expr.new.cur.rest.now) ≡ Some c.in-Some.piece = sym c.middle_of.ensures ∙ c.in-Some.is in
    record {
      reads = rw pushed (text_more all (tree c.in_ok-e.e) c.in-Some.piece c.loop-all.cur.room c.expr.new.cur.room c.skip.new.self.room c.loop-all.cur.rest.now c.expr.new.cur.rest.now c.skip.new.self.rest.now _ c.loop-all.invariant.reads c.in_ok-e.ensures.reads is c.skip.ensures.rest c.in_ok-e.ensures.room c.skip.ensures.room);
      room = c.skip.ensures.room ∙ c.in_ok-e.ensures.room ∙ c.loop-all.invariant.room;
      end = c.skip.ensures.end ∙ c.expr.ensures.end ∙ c.loop-all.invariant.end;
      shorter = omega (arith, c.skip.ensures.shorter, c.in_ok-e.ensures.shorter, c.loop-all.invariant.shorter);
    }
