-- Steps of the loops that read in a row.
use Rattle.std.proofs.Common.{◌≡◌, ℕ, List, [], ◌∷◌, ◌++◌, map, refl, sym, ap, ◌∙◌, append_assoc, true, false, Bool, Option, Result}
use Rattle.std.proofs.lemmas.List.{map-append}
use Rattle.std.specs.Prelude.{Ok, Err, Some, None}
use Rattle.mz_lexer.specs.declared.token.Token.{Token}
use Rattle.mz_base.specs.declared.keyword.Keyword.TheVariants.{KElseif}
use Rattle.mz_tree.specs.declared.expr.BinOp.{BinOp}
use Rattle.mz_tree.specs.declared.expr.PlacedOp.{PlacedOp}
use Rattle.mz_tree.specs.Tree.{Tree, Maybe, Part, op_before}
use Rattle.mz_tree.specs.Tree as pure
use Rattle.mz_grammar.specs.Tokens.{tok_at, behind}
use Rattle.mz_grammar.specs.Look.{is_word}
use Rattle.mz_base.specs.declared.fault.Span.{Span}
use Rattle.mz_base.specs.declared.stop.Stop.{Stop}
use Rattle.mz_base.specs.declared.stop.Stop.TheVariants.{Refused, Memory}
use Rattle.mz_grammar.specs.RulesPromise.{Gives}
use Rattle.mz_grammar.specs.Rules.{syntax}
use Rattle.mz_grammar.specs.RulesReading.{Read, mapped, with_prefix, on, stuck}
use Rattle.mz_grammar.proofs.Steps.{prefix_prefix, prefix_more}
use Rattle.mz_grammar.specs.Parts as parts
use Rattle.mz_grammar.specs.Parts.{Operand, at_of, tree_of, link_of}
use Rattle.mz_grammar.specs.Tests.{middle_of, tail_of}
use Rattle.mz_grammar.proofs.Equations.{operators_reads}
use Rattle.mz_grammar.proofs.ListEquations.{branches_reads, text_rest_reads}
use Rattle.mz_grammar.specs.declared.level.Level.{Level}
use Rattle.mz_grammar.specs.Operators.{binary_of, is_nonassociative}
use Rattle.mz_grammar.specs.Reading.{reads}
use Rattle.mz_grammar.specs.Steps.{with_branches}
use Rattle.mz_expr.specs.Descent.{annotated}

pub annotated_step : (b : Bool) (o : Read Bool) → annotated true o ≡ annotated b (mapped (λ x. true) o)
annotated_step false o = refl
annotated_step true (Ok x) = refl
annotated_step true (Err e) = refl

pub branches_push : {X : Type 0} (f : X → Tree × Tree) (xs : List X) (x : X) (o : Read (List (Tree × Tree) × Maybe)) → with_branches (map f (xs ++ (x ∷ []))) o ≡ with_branches (map f xs) (with_branches (f x ∷ []) o)
branches_push f xs x (Ok y) = ap (λ l. Ok ((l, y.0.1), y.1)) (ap (λ l. l ++ y.0.0) (map-append f xs (x ∷ [])) ∙ append_assoc (map f xs) (f x ∷ []) y.0.0)
branches_push f xs x (Err e) = refl

branches_prefix : (xs : List (Tree × Tree)) (x : Tree × Tree) (o : Read (List (Tree × Tree) × Maybe)) → with_branches (xs ++ (x ∷ [])) o ≡ with_branches xs (with_branches (x ∷ []) o)
branches_prefix xs x (Ok y) = ap (λ l. Ok ((l, y.0.1), y.1)) (append_assoc xs (x ∷ []) y.0.0)
branches_prefix xs x (Err e) = refl

-- a branch more
pub branches_more : (done : List (Tree × Tree)) (x : Tree × Tree) (room behind_skip after : ℕ) (rest mid next : List Token) (all : Read (List (Tree × Tree) × Maybe)) →
    with_branches done (reads parts.branches room rest) ≡ all → is_word KElseif (tok_at rest) ≡ true → mid ≡ behind rest → behind_skip ≡ room → after ≡ behind_skip →
    reads parts.branch behind_skip mid ≡ Ok (x, next) → with_branches (done ++ (x ∷ [])) (reads parts.branches after next) ≡ all
branches_more done x room behind_skip after rest mid next all so_far is skipped same_room same_after sub =
    rw (same_after, same_room) (branches_prefix done x (reads parts.branches room next)
    ∙ ap (λ o. with_branches done o) (sym (branches_reads room rest ∙ rw (is, rw (skipped, same_room) at sub) refl)) ∙ so_far)

-- an operator more
pub operators_more : (l : Level) (done : List (PlacedOp × Tree)) (op : BinOp) (start : Span) (x : Operand) (e : Tree) (room behind_skip after : ℕ) (rest mid next : List Token) (all : Read (List (PlacedOp × Tree))) →
    with_prefix done (reads (parts.operators l) room rest) ≡ all → binary_of l (tok_at rest) ≡ Some op → mid ≡ behind rest → behind_skip ≡ room → after ≡ behind_skip →
    reads (parts.operand l) behind_skip mid ≡ Ok (x, next) → e ≡ tree_of x → start ≡ at_of x → is_nonassociative l ≡ false → with_prefix (done ++ ((op_before op start, e) ∷ [])) (reads (parts.operators l) after next) ≡ all
operators_more l done op start x e room behind_skip after rest mid next all so_far is skipped same_room same_after sub same_tree same_start many =
    rw (same_after, same_room, same_tree, same_start) (prefix_more done (link_of op x) (reads (parts.operators l) room next)
    ∙ ap (λ o. with_prefix done o) (sym (operators_reads l room rest ∙ rw (is, rw (skipped, same_room) at sub, many) refl)) ∙ so_far)

-- the same reading, written another way
pub gives_same : {X Y : Type 0} (view : X → Y) (end : Span) (rest : List Token) (result : Result X Stop) (r q : Read Y) → r ≡ q → Gives view end rest result q → Gives view end rest result r
gives_same view end rest (Ok x) r q e h = e ∙ h
gives_same view end rest (Err Memory) r q e h = tt
gives_same view end rest (Err (Refused f)) r q e h = (e ∙ h.0, h.1)

-- the last piece of a text
pub text_last : (done : List Part) (e : Tree) (room : ℕ) (rest mid : List Token) → reads parts.expr room rest ≡ Ok (e, mid) → middle_of (tok_at mid) ≡ None →
    with_prefix done (reads parts.text_rest room rest) ≡ on (tail_of (tok_at mid)) (stuck syntax mid) (λ n. Ok ((done ++ (pure.shown e ∷ [])) ++ (pure.plain n ∷ []), behind mid))
text_last done e room rest mid sub is = ap (λ o. with_prefix done o) (text_rest_reads room rest ∙ rw (sub, is) refl) ∙ go (tail_of (tok_at mid))
  where
    go : (o : Option ℕ) → with_prefix done (on o (stuck syntax mid) (λ n. Ok (pure.shown e ∷ (pure.plain n ∷ []), behind mid))) ≡ on o (stuck {A = List Part} syntax mid) (λ n. Ok ((done ++ (pure.shown e ∷ [])) ++ (pure.plain n ∷ []), behind mid))
    go None = refl
    go (Some n) = ap (λ l. Ok (l, behind mid)) (sym (append_assoc done (pure.shown e ∷ []) (pure.plain n ∷ [])))

-- an expression and a piece more
pub text_more : (done : List Part) (e : Tree) (n room behind_expr after : ℕ) (rest mid next : List Token) (all : Read (List Part)) →
    with_prefix done (reads parts.text_rest room rest) ≡ all → reads parts.expr room rest ≡ Ok (e, mid) → middle_of (tok_at mid) ≡ Some n → next ≡ behind mid → behind_expr ≡ room → after ≡ behind_expr →
    with_prefix ((done ++ (pure.shown e ∷ [])) ++ (pure.plain n ∷ [])) (reads parts.text_rest after next) ≡ all
text_more done e n room behind_expr after rest mid next all so_far sub is skipped same_room same_after =
    rw (same_after, same_room, skipped, append_assoc) (sym (prefix_prefix done (pure.shown e ∷ (pure.plain n ∷ [])) (reads parts.text_rest room (behind mid)))
    ∙ ap (λ o. with_prefix done o) (sym (text_rest_reads room rest ∙ rw (sub, is) refl)) ∙ so_far)
