-- The rules of calls keep to what makes each prefix of tokens viable: the arguments that are read are expressions, or generators.
use Rattle.std.proofs.Common.{arith, ◌≡◌, List, [], ◌∷◌, ◌++◌, refl, true, false, Bool, Option, inl, inr, ◌⊎◌}
use Rattle.std.specs.Prelude.{Some, None, ◌&&◌}
use Rattle.mz_base.specs.declared.fault.Span.{Span}
use Rattle.mz_base.specs.declared.keyword.Keyword.TheVariants.{KIn, KWhere}
use Rattle.mz_lexer.specs.declared.token.Symbol.TheVariants.{SLParen, SRParen}
use Rattle.mz_grammar.specs.Rules.{keeps, give, when, leave, part}
use Rattle.mz_grammar.specs.Look.{is_keyword, symbol_number, keyword_number}
use Rattle.mz_grammar.specs.RulesReading.{step, read_by}
use Rattle.mz_grammar.proofs.Viable.{never, before_end, last, tokens, maybe}
use Rattle.mz_tree.specs.Tree.{Name, Tree}
use Rattle.mz_grammar.specs.declared.list.Generators.{Generators}
use Rattle.mz_grammar.specs.declared.list.Generators.TheVariants.{Possible, AwaitingIn, Impossible}
use Rattle.mz_grammar.specs.declared.list.Closing.TheVariants.{Paren}
use Rattle.mz_grammar.specs.Parts
use Rattle.mz_grammar.specs.Parts.{Operand, tree_of}
use Rattle.mz_tree.specs.Tree.{Generator, generator, Maybe}
use Rattle.mz_grammar.specs.Parts.{Argument, name, member, other, unguarded, guarded, strict}
use Rattle.mz_grammar.specs.Arguments.{possible_after, awaits_in, takes_where, trees_of, generators_of, generators_behind}
use Rattle.std.specs.Option.{option_map}
use Rattle.std.specs.Prelude.{map}
use Rattle.mz_grammar.specs.Model.{Ruled, rule, behind, plain_call, called, guarded_rest}
use Rattle.mz_grammar.specs.Reading.{rank, operand_rank}
use Rattle.mz_grammar.proofs.PartEnds.{Facts, sign, no_way, Found, Fit, CanComplete, Completion, Done, a_number, ends_item_closing}

-- What the arguments are fit for

found_map : {A B : Type 0} (f : A → B) (o : Option A) → Found o → Found (option_map f o)
found_map f None h = h
found_map f (Some a) h = tt

-- generators after a generator
strict_found : (gs : List Generator) → Found (generators_behind [] (map strict gs))
strict_found [] = tt
strict_found (generator ms e c ∷ gs) = found_map _ (generators_behind [] (map strict gs)) (strict_found gs)

strict_behind : (ns : List (Name × Span)) (n : Name × Span) (ms : List (Name × Span)) (e : Tree) (w : Maybe) (xs : List Argument) → Found (generators_behind [] xs) → Found (generators_behind (ns ++ (n ∷ [])) (strict (generator ms e w) ∷ xs))
strict_behind [] n ms e w xs h = found_map _ (generators_behind [] xs) h
strict_behind (m ∷ ns) n ms e w xs h = found_map _ (generators_behind [] xs) h

member_behind : (ns : List (Name × Span)) (n : Name × Span) (x : Name) (s p : Span) (e : Tree) (xs : List Argument) → Found (generators_behind [] xs) → Found (generators_behind (ns ++ (n ∷ [])) (unguarded (member x s p e) ∷ xs))
member_behind [] n x s p e xs h = found_map _ (generators_behind [] xs) h
member_behind (m ∷ ns) n x s p e xs h = found_map _ (generators_behind [] xs) h

guarded_behind : (ns : List (Name × Span)) (n : Name × Span) (x : Name) (s p : Span) (e w : Tree) (xs : List Argument) → Found (generators_behind [] xs) → Found (generators_behind (ns ++ (n ∷ [])) (guarded (member x s p e) w ∷ xs))
guarded_behind [] n x s p e w xs h = found_map _ (generators_behind [] xs) h
guarded_behind (m ∷ ns) n x s p e w xs h = found_map _ (generators_behind [] xs) h

name_behind : (ns : List (Name × Span)) (n : Name × Span) (x : Name) (s : Span) (xs : List Argument) → Found (generators_behind ((ns ++ (n ∷ [])) ++ ((x, s) ∷ [])) xs) → Found (generators_behind (ns ++ (n ∷ [])) (unguarded (name x s) ∷ xs))
name_behind [] n x s xs h = h
name_behind (m ∷ ns) n x s xs h = h

-- one argument more
fit_unguarded : (t : Generators) (x : Operand) (xs : List Argument) → Fit (possible_after t x) xs → Fit t (unguarded x ∷ xs)
fit_unguarded Impossible x xs h = found_map _ (trees_of xs) h
fit_unguarded Possible (name n s) xs (inl h) = inl (found_map _ (trees_of xs) h)
fit_unguarded Possible (name n s) xs (inr h) = inr (h [] (n, s))
fit_unguarded Possible (member n s p e) xs (inl h) = inl (found_map _ (trees_of xs) h)
fit_unguarded Possible (member n s p e) xs (inr h) = inr (found_map _ (generators_behind [] xs) h)
fit_unguarded Possible (other s e) xs h = inl (found_map _ (trees_of xs) h)
fit_unguarded AwaitingIn (name n s) xs (inl h) = inl (found_map _ (trees_of xs) h)
fit_unguarded AwaitingIn (name n s) xs (inr h) = inr (λ ns m. name_behind ns m n s xs (h (ns ++ (m ∷ [])) (n, s)))
fit_unguarded AwaitingIn (member n s p e) xs (inl h) = inl (found_map _ (trees_of xs) h)
fit_unguarded AwaitingIn (member n s p e) xs (inr h) = inr (λ ns m. member_behind ns m n s p e xs h)
fit_unguarded AwaitingIn (other s e) xs h = inl (found_map _ (trees_of xs) h)

fit_one : (t : Generators) (x : Operand) → Fit t (unguarded x ∷ [])
fit_one Impossible x = tt
fit_one Possible x = inl tt
fit_one AwaitingIn x = inl tt

fit_guarded : (t : Generators) (x : Operand) (w : Tree) (gs : List Generator) → takes_where t x ≡ true → Fit t (guarded x w ∷ map strict gs)
fit_guarded Impossible x w gs e = absurd (cc)
fit_guarded Possible (name n s) w gs e = absurd (cc)
fit_guarded Possible (member n s p v) w gs e = inr (found_map _ (generators_behind [] (map strict gs)) (strict_found gs))
fit_guarded Possible (other s v) w gs e = absurd (cc)
fit_guarded AwaitingIn (name n s) w gs e = absurd (cc)
fit_guarded AwaitingIn (member n s p v) w gs e = inr (λ ns m. guarded_behind ns m n s p v w (map strict gs) (strict_found gs))
fit_guarded AwaitingIn (other s v) w gs e = absurd (cc)

fit_strict : (t : Generators) (ms : List (Name × Span)) (e : Tree) (w : Maybe) (gs : List Generator) → awaits_in t ≡ true → Fit t (strict (generator ms e w) ∷ map strict gs)
fit_strict Impossible ms e w gs h = absurd (cc)
fit_strict Possible ms e w gs h = absurd (cc)
fit_strict AwaitingIn ms e w gs h = inr (λ ns m. strict_behind ns m ms e w (map strict gs) (strict_found gs))

-- Arguments

both_true : (a b : Bool) → (a && b) ≡ true → a ≡ true
both_true true b e = refl
both_true false b e = absurd (cc)

can_complete_guarded_rest : (t : Generators) (x : Argument) → ((gs : List Generator) → Fit t (x ∷ map strict gs)) → CanComplete (guarded_rest {t = t} x)
unfolding step read_by rule symbol_number keyword_number
can_complete_guarded_rest t x h = (λ k e' s. ((sign SRParen ∷ [], tt), (λ gs a. (last (λ o h. h), h gs))), never (tt, tt), (λ k e' s. (([], tt), (h [])), never (tt, tt), no_way))

-- a `where`, or what else follows an argument
abbrev rest_of_arguments : (t : Generators) (x : Operand) → Bool → Ruled (Parts.arguments t)
rest_of_arguments t x may = when keeps (λ k. may && is_keyword KWhere k)
    (λ s. part Parts.expr λ w. guarded_rest (guarded x w))
    (behind Paren (part (Parts.arguments (possible_after t x)) λ xs. give (unguarded x ∷ xs)) (give (unguarded x ∷ [])))

done_rest : (t : Generators) (x : Operand) (may : Bool) → Done (rest_of_arguments t x may) (sign SRParen ∷ [])
unfolding step read_by rule symbol_number keyword_number
done_rest t x true = tt
done_rest t x false = tt

pub arguments_facts : (t : Generators) → Facts (Parts.arguments t)
unfolding step read_by rule rank operand_rank symbol_number keyword_number
arguments_facts t = record {
  falls = (omega arith, λ x. (tt, tt));
  takes = tt;
  complete = (sign SRParen ∷ [], tt);
  can_complete = (
    λ k e s. (([], tt), fit_none t),
    never tt,
    (
      λ k e s. (
        (a_number ∷ sign SRParen ∷ [], tt),
        λ x a. (
          tokens (sign SRParen ∷ []) tt (ends_item_closing Paren) (λ w. (tt, tt)),
          λ w b. (tokens (sign SRParen ∷ []) tt (ends_item_closing Paren) (tt, tt), can_complete_guarded_rest t _ (λ gs. fit_strict t [] (tree_of x) w gs (both_true (awaits_in t) (is_keyword KIn k) e))),
        ),
      ),
      never tt,
      λ x a. (
        tokens (sign SRParen ∷ []) (done_rest t x (takes_where t x)) (ends_item_closing Paren) (tt, tt),
        (
          λ k e s. (
            (a_number ∷ sign SRParen ∷ [], tt),
            λ w b. (tokens (sign SRParen ∷ []) tt (ends_item_closing Paren) (tt, tt), can_complete_guarded_rest t _ (λ gs. fit_guarded t x w gs (both_true (takes_where t x) (is_keyword KWhere k) e))),
          ),
          never (tt, tt),
          (λ k e' s. ((sign SRParen ∷ [], tt), (λ xs b. (last (λ o h. h), fit_unguarded t x xs b))), never (tt, tt), (λ k e' s. (([], tt), (fit_one t x)), never (tt, tt), no_way)),
        ),
      ),
    ),
  );
}
  where
    fit_none : (t : Generators) → Fit t []
    fit_none Impossible = tt
    fit_none Possible = inl tt
    fit_none AwaitingIn = inl tt

-- Calls

can_complete_plain_call : (n : Name) (s : Span) (es : Option (List Tree)) → CanComplete (plain_call n s es)
can_complete_plain_call n s None = tt
can_complete_plain_call n s (Some es) = tt

-- A call ends after its arguments, or goes on where they are generators.
can_complete_called : (n : Name) (s : Span) (es : Option (List Tree)) (gs : Option (List Generator)) → CanComplete (called n s es gs)
unfolding step read_by rule symbol_number keyword_number
can_complete_called n s es None = (never tt, tt, before_end (λ o h. h.0), can_complete_plain_call n s es)
can_complete_called n s es (Some gs) = (
  λ t e p. (
    (a_number ∷ sign SRParen ∷ [], tt),
    λ x a. (tokens (sign SRParen ∷ []) tt (ends_item_closing Paren) tt, (λ k e' c. (([], tt), tt), never tt, tt)),
  ),
  before_end (λ o h. h.0),
  can_complete_plain_call n s es,
)

call_completion : (n : Name) (s : Span) (es : Option (List Tree)) (gs : Option (List Generator)) → Found es ⊎ Found gs → Completion (leave (called n s es gs))
unfolding step read_by rule symbol_number keyword_number
call_completion n s (Some es) None h = ([], tt)
call_completion n s (Some es) (Some gs) h = ([], tt)
call_completion n s None (Some gs) h = (sign SLParen ∷ a_number ∷ sign SRParen ∷ [], tt)
call_completion n s None None (inl h) = absurd h
call_completion n s None None (inr h) = absurd h

found_either : (xs : List Argument) → Fit Possible xs → Found (trees_of xs) ⊎ Found (generators_of xs)
found_either [] h = inl tt
found_either (a ∷ xs) h = h

pub named_facts : (n : Name) (s : Span) → Facts (Parts.named n s)
unfolding step read_by rule rank symbol_number keyword_number
named_facts n s = record {
  falls = tt;
  takes = tt;
  complete = ([], tt);
  can_complete = (
    λ t e p. (
      (sign SRParen ∷ [], tt),
      λ xs a.
          let c = call_completion n s (trees_of xs) (generators_of xs) (found_either xs a) in
          (maybe c.0 c.1 tt (λ o h. tt), can_complete_called n s (trees_of xs) (generators_of xs)),
    ),
    before_end (λ o h. h.0),
    tt,
  );
}
