-- How each part of a model is read, by its rule: expressions.
use Rattle.std.proofs.Common.{◌≡◌, ℕ, suc, List, [], ◌∷◌, map, refl, ap, ◌∙◌, true, false, Bool, Option}
use Rattle.std.specs.Prelude.{Ok, Some, None, if◌then◌else◌, ◌&&◌}
use Rattle.mz_base.specs.declared.fault.Span.{Span}
use Rattle.mz_lexer.specs.declared.token.Token.{Token}
use Rattle.mz_lexer.specs.declared.token.Tok.{Tok}
use Rattle.mz_lexer.specs.declared.token.Tok.TheVariants.{Word, Sym, Ident, TextHead}
use Rattle.mz_base.specs.declared.keyword.Keyword.{Keyword}
use Rattle.mz_base.specs.declared.keyword.Keyword.TheVariants.{KIn, KWhere, KIf, KLet}
use Rattle.mz_lexer.specs.declared.token.Symbol.{Symbol}
use Rattle.mz_lexer.specs.declared.token.Symbol.TheVariants.{SLParen, SRParen, SLBrack, SRBrack, SLBrace, SComma, SColons, SDots, SAbsent}
use Rattle.mz_tree.specs.Tree.{Name, Tree, Generator, node, gen_call, unary, call, plain, generator, trees, gens}
use Rattle.mz_tree.specs.declared.expr.PlacedOp.{PlacedOp}
use Rattle.mz_grammar.specs.Tokens.{tok_at, behind, place, passes, told}
use Rattle.mz_grammar.specs.Look.{is_sym, is_word, is_keyword}
use Rattle.mz_grammar.specs.Rules.{syntax, left_out}
use Rattle.mz_grammar.specs.RulesReading.{Read, Reader, stuck, on, open_at, symbol_at, word_at, mapped, with_prefix, listed, step, ◌>>=◌}
use Rattle.mz_grammar.proofs.Laws
use Rattle.mz_grammar.proofs.Steps.{itself, grouped, then_prefix, same_then, same_if, same_on, same_open}
use Rattle.mz_grammar.specs.declared.level.Level.{Level}
use Rattle.mz_grammar.specs.declared.level.Level.TheVariants as level_is
use Rattle.mz_grammar.specs.declared.list.Closing.{Closing}
use Rattle.mz_grammar.specs.declared.list.Closing.TheVariants.{Paren, Bracket}
use Rattle.mz_grammar.specs.declared.list.Generators.{Generators}
use Rattle.mz_grammar.specs.declared.list.Generators.TheVariants.{Possible}
use Rattle.mz_grammar.specs.Operators.{prefix_of, binary_of, is_nonassociative, tighter_level}
use Rattle.mz_grammar.specs.Parts
use Rattle.mz_grammar.specs.Parts.{Place, Operand, tree_of, link_of, chained, Argument, unguarded, guarded, strict}
use Rattle.mz_grammar.specs.Arguments.{possible_after, awaits_in, takes_where, trees_of, generators_of}
use Rattle.mz_grammar.specs.Tests.{closes, is_left_out, ident_of, leaf_in, opener_in}
use Rattle.mz_grammar.specs.Model.{rule, operand_by, accessed, unless_annotated, plain_call, called, guarded_rest, leaf_head, opened_head}
use Rattle.mz_grammar.specs.Reading.{rank, width, reads}
use Rattle.mz_grammar.specs.Steps.{ident_at, separator_at, generators_at, guarded_at, waited_at, called_at, head_at, head_symbol_at, head_word_at}
use Rattle.mz_grammar.proofs.Facts.{low, falls}

pub by_rule : (n : Place) (room : ℕ) (ts : List Token) → reads n room ts ≡ step reads (rule n) room ts
by_rule n room ts = Laws.by_rule rule rank width low falls n room ts

-- Pieces of rules

-- the same continuation after both ways of a test
pub if_then : {A B : Type 0} (b : Bool) (p q : Read A) (f : A × List Token → Read B) → (if b then p >>= f else (q >>= f)) ≡ ((if b then p else q) >>= f)
if_then true p q f = refl
if_then false p q f = refl

pub symbol_then : {A : Type 0} (s : Symbol) (ts : List Token) (f : Span × List Token → Read A) → (if is_sym s (tok_at ts) then f (place ts, behind ts) else stuck syntax ts) ≡ (symbol_at s ts >>= f)
symbol_then s ts f = if_then (is_sym s (tok_at ts)) (Ok (place ts, behind ts)) (stuck syntax ts) f

pub word_then : {A : Type 0} (k : Keyword) (ts : List Token) (f : Span × List Token → Read A) → (if is_word k (tok_at ts) then f (place ts, behind ts) else stuck syntax ts) ≡ (word_at k ts >>= f)
word_then k ts f = if_then (is_word k (tok_at ts)) (Ok (place ts, behind ts)) (stuck syntax ts) f

pub ident_then : {A : Type 0} (ts : List Token) (f : (Name × Span) × List Token → Read A) → on (ident_of (tok_at ts)) (stuck syntax ts) (λ n. f ((n, place ts), behind ts)) ≡ (ident_at ts >>= f)
ident_then ts f = go (ident_of (tok_at ts))
  where
    go : (o : Option Name) → on o (stuck syntax ts) (λ n. f ((n, place ts), behind ts)) ≡ (on o (stuck {A = Name × Span} syntax ts) (λ n. Ok ((n, place ts), behind ts)) >>= f)
    go None = refl
    go (Some n) = refl

-- what follows an element of a list, where it goes on and where it is closed
pub separated : {A : Type 0} (c : Closing) (more done : Reader A) (ts : List Token) →
    (if is_sym SComma (tok_at ts) then more (behind ts) else (if closes c (tok_at ts) then done (behind ts) else (if is_left_out c (tok_at ts) then stuck left_out ts else stuck syntax ts)))
    ≡ (separator_at c ts >>= λ b. if b.0 then more b.1 else done b.1)
separated {A = A} c more done ts = same_if (is_sym SComma (tok_at ts)) refl (same_if (closes c (tok_at ts)) refl (if_then (is_left_out c (tok_at ts)) (stuck left_out ts) (stuck syntax ts) by_flag)
    ∙ if_then (closes c (tok_at ts)) (Ok (false, behind ts)) _ by_flag) ∙ if_then (is_sym SComma (tok_at ts)) (Ok (true, behind ts)) _ by_flag
  where
    by_flag : Bool × List Token → Read A
    by_flag b = if b.0 then more b.1 else done b.1

pub listed_by : {A : Type 0} (c : Closing) (next : Reader (List A)) (x : A) (ts : List Token) →
    (if is_sym SComma (tok_at ts) then with_prefix (x ∷ []) (next (behind ts)) else (if closes c (tok_at ts) then Ok (x ∷ [], behind ts) else (if is_left_out c (tok_at ts) then stuck left_out ts else stuck syntax ts)))
    ≡ listed (separator_at c) next x ts
listed_by c next x ts = separated c (λ us. with_prefix (x ∷ []) (next us)) (λ us. Ok (x ∷ [], us)) ts

-- Operators

pub expr_reads : (room : ℕ) (ts : List Token) → reads Parts.expr room ts ≡ (reads (Parts.level level_is.Iff) room ts >>= λ x. Ok (tree_of x.0, x.1))
unfolding step rule
expr_reads room ts = by_rule Parts.expr room ts

pub level_reads : (l : Level) (room : ℕ) (ts : List Token) → reads (Parts.level l) room ts ≡ (reads (Parts.operand l) room ts >>= λ x. reads (Parts.operators l) room x.1 >>= λ ls. Ok (chained x.0 ls.0, ls.1))
unfolding step rule
level_reads l room ts = by_rule (Parts.level l) room ts

pub operand_reads : (l : Level) (room : ℕ) (ts : List Token) → reads (Parts.operand l) room ts ≡ on (tighter_level l) (reads Parts.unit room ts) (λ k. reads (Parts.level k) room ts)
unfolding step rule
operand_reads l room ts = by_rule (Parts.operand l) room ts ∙ go (tighter_level l)
  where
    go : (o : Option Level) → step reads {n = Parts.operand l} (operand_by o) room ts ≡ on o (reads Parts.unit room ts) (λ k. reads (Parts.level k) room ts)
    go None = itself (reads Parts.unit room ts)
    go (Some k) = itself (reads (Parts.level k) room ts)

pub operators_reads : (l : Level) (room : ℕ) (ts : List Token) → reads (Parts.operators l) room ts ≡ on (binary_of l (tok_at ts)) (Ok ([], ts)) (λ op. reads (Parts.operand l) room (behind ts) >>= λ x.
    if is_nonassociative l then Ok (link_of op x.0 ∷ [], x.1) else with_prefix (link_of op x.0 ∷ []) (reads (Parts.operators l) room x.1))
unfolding step rule
operators_reads l room ts = by_rule (Parts.operators l) room ts
    ∙ same_on (binary_of l (tok_at ts)) _ _ refl (λ op. same_then (reads (Parts.operand l) room (behind ts)) _ _ (λ x. more (link_of op x.0) (is_nonassociative l) x.1))
  where
    more : (x : PlacedOp × Tree) (done : Bool) (us : List Token) → mapped (λ ls. x ∷ ls) (reads (Parts.more_operators l done) room us) ≡ (if done then Ok (x ∷ [], us) else with_prefix (x ∷ []) (reads (Parts.operators l) room us))
    more x true us = ap (λ o. mapped (λ ls. x ∷ ls) o) (by_rule (Parts.more_operators l true) room us)
    more x false us = ap (λ o. mapped (λ ls. x ∷ ls) o) (by_rule (Parts.more_operators l false) room us ∙ itself (reads (Parts.operators l) room us))

pub unit_reads : (room : ℕ) (ts : List Token) → reads Parts.unit room ts ≡ on (prefix_of (tok_at ts)) (reads Parts.atom room ts) (λ op. open_at room ts (λ r. reads Parts.unit r (behind ts) >>= λ x. Ok (Parts.other (place ts) (node (place ts) (unary op (tree_of x.0))), x.1)))
unfolding step rule
unit_reads room ts = by_rule Parts.unit room ts ∙ same_on (prefix_of (tok_at ts)) _ _ (itself (reads Parts.atom room ts)) (λ op. refl)

-- Atoms

pub atom_reads : (room : ℕ) (ts : List Token) → reads Parts.atom room ts ≡ (reads Parts.head room ts >>= λ h. reads (Parts.accesses h.0) room h.1 >>= λ x. reads Parts.annotations room x.1 >>= λ a. Ok (unless_annotated a.0 x.0, a.1))
unfolding step rule
atom_reads room ts = by_rule Parts.atom room ts

pub accesses_reads : (x : Operand) (room : ℕ) (ts : List Token) → reads (Parts.accesses x) room ts ≡ (if is_sym SLBrack (tok_at ts)
    then open_at room ts (λ r. reads Parts.indices r (behind ts) >>= λ es. reads (Parts.accesses (accessed x es.0)) r es.1)
    else Ok (x, ts))
unfolding step rule
accesses_reads x room ts = by_rule (Parts.accesses x) room ts
    ∙ same_if (is_sym SLBrack (tok_at ts)) (same_open room ts _ _ (λ r. same_then (reads Parts.indices r (behind ts)) _ _ (λ es. itself (reads (Parts.accesses (accessed x es.0)) r es.1)))) refl

pub indices_reads : (room : ℕ) (ts : List Token) → reads Parts.indices room ts ≡ (if is_sym SDots (tok_at ts)
    then stuck left_out ts
    else (reads Parts.expr room ts >>= λ e. listed (separator_at Bracket) (reads Parts.more_indices room) e.0 e.1))
unfolding step rule
indices_reads room ts = by_rule Parts.indices room ts
    ∙ same_if (is_sym SDots (tok_at ts)) refl (same_then (reads Parts.expr room ts) _ _ (λ e. listed_by Bracket (reads Parts.more_indices room) e.0 e.1))

pub more_indices_reads : (room : ℕ) (ts : List Token) → reads Parts.more_indices room ts ≡ (if is_sym SRBrack (tok_at ts) then Ok ([], behind ts) else reads Parts.indices room ts)
unfolding step rule
more_indices_reads room ts = by_rule Parts.more_indices room ts ∙ same_if (is_sym SRBrack (tok_at ts)) refl (itself (reads Parts.indices room ts))

pub annotations_reads : (room : ℕ) (ts : List Token) → reads Parts.annotations room ts ≡ (if is_sym SColons (tok_at ts)
    then (reads Parts.head room (behind ts) >>= λ h. reads (Parts.accesses h.0) room h.1 >>= λ x. reads Parts.annotations room x.1 >>= λ more. Ok (true, more.1))
    else Ok (false, ts))
unfolding step rule
annotations_reads room ts = by_rule Parts.annotations room ts

pub marks_reads : (room : ℕ) (ts : List Token) → reads Parts.marks room ts ≡ (if is_sym SColons (tok_at ts)
    then (reads Parts.head room (behind ts) >>= λ h. reads Parts.marks room h.1)
    else Ok (tt, ts))
unfolding step rule
marks_reads room ts = by_rule Parts.marks room ts
    ∙ same_if (is_sym SColons (tok_at ts)) (same_then (reads Parts.head room (behind ts)) _ _ (λ h. itself (reads Parts.marks room h.1))) refl

-- Lists

pub elements_reads : (c : Closing) (room : ℕ) (ts : List Token) → reads (Parts.elements c) room ts ≡ (if closes c (tok_at ts)
    then Ok ([], behind ts)
    else (reads Parts.expr room ts >>= λ e. listed (separator_at c) (reads (Parts.elements c) room) e.0 e.1))
unfolding step rule
elements_reads c room ts = by_rule (Parts.elements c) room ts
    ∙ same_if (closes c (tok_at ts)) refl (same_then (reads Parts.expr room ts) _ _ (λ e. listed_by c (reads (Parts.elements c) room) e.0 e.1))

pub generators_reads : (c : Closing) (room : ℕ) (ts : List Token) → reads (Parts.generators c) room ts ≡ (if closes c (tok_at ts)
    then Ok ([], behind ts)
    else generators_at c room ts)
unfolding step rule
generators_reads c room ts = by_rule (Parts.generators c) room ts
    ∙ same_if (closes c (tok_at ts)) refl (same_then (reads Parts.generator room ts) _ _ (λ g. listed_by c (reads (Parts.generators c) room) g.0 g.1))

-- Heads

abbrev by_head : Option Tok → ℕ → Reader Operand
by_head o room ts = on (told leaf_in o) (on (told opener_in o) (stuck syntax ts) (λ a. open_at room ts (λ r. step reads (opened_head a (place ts)) r (behind ts)))) (λ a. step reads (leaf_head a (place ts)) room (behind ts))

head_symbol_reads : (s : Symbol) (room : ℕ) (ts : List Token) → by_head (Some (Sym s)) room ts ≡ head_symbol_at s room ts
unfolding step
head_symbol_reads SAbsent room ts = refl
head_symbol_reads _ room ts = refl

head_word_reads : (k : Keyword) (room : ℕ) (ts : List Token) → by_head (Some (Word k)) room ts ≡ head_word_at k room ts
unfolding step
head_word_reads KIf room ts = same_open room ts _ _ (λ r. same_then (reads Parts.branch r (behind ts)) _ _ (λ b. grouped (reads Parts.branches r b.1) _ _))
head_word_reads KLet room ts = same_open room ts _ _ (λ r. same_if (is_sym SLBrace (tok_at (behind ts)))
    (same_open r (behind ts) _ _ (λ q. same_then (reads Parts.let_items q (behind (behind ts))) _ _ (λ ls. word_then KIn ls.1 _))) refl)
head_word_reads _ room ts = refl

head_token_reads : (o : Option Tok) (room : ℕ) (ts : List Token) → by_head o room ts ≡ head_at o room ts
unfolding step
head_token_reads (Some (TextHead n)) room ts = same_open room ts _ _ (λ r. then_prefix (plain n) (reads Parts.text_rest r (behind ts)) _)
head_token_reads (Some (Ident n)) room ts = itself (reads (Parts.named n (place ts)) room (behind ts))
head_token_reads (Some (Word k)) room ts = head_word_reads k room ts
head_token_reads (Some (Sym s)) room ts = head_symbol_reads s room ts
head_token_reads _ room ts = refl

pub head_reads : (room : ℕ) (ts : List Token) → reads Parts.head room ts ≡ head_at (tok_at ts) room ts
unfolding step rule
head_reads room ts = by_rule Parts.head room ts ∙ head_token_reads (tok_at ts) room ts

-- Calls

called_reads : (n : Name) (s : Span) (xs : List Argument) (room : ℕ) (ts : List Token) → step reads (called n s (trees_of xs) (generators_of xs)) room ts ≡ called_at n s xs room ts
unfolding step
called_reads n s xs room ts = go (generators_of xs)
  where
    plain_call_reads : (es : Option (List Tree)) → step reads (plain_call n s es) room ts ≡ on es (stuck syntax ts) (λ es. Ok (Parts.other s (node s (call n (trees es))), ts))
    plain_call_reads None = refl
    plain_call_reads (Some es) = refl

    go : (gs : Option (List Generator)) → step reads (called n s (trees_of xs) gs) room ts ≡ (if is_sym SLParen (tok_at ts)
        then on gs (stuck syntax ts) (λ gs. open_at room ts (λ r. reads Parts.expr r (behind ts) >>= λ e. symbol_at SRParen e.1 >>= λ c. Ok (Parts.other s (node s (gen_call n (gens gs) e.0)), c.1)))
        else on (trees_of xs) (stuck syntax ts) (λ es. Ok (Parts.other s (node s (call n (trees es))), ts)))
    go None = same_if (is_sym SLParen (tok_at ts)) refl (plain_call_reads (trees_of xs))
    go (Some gs) = same_if (is_sym SLParen (tok_at ts))
        (same_open room ts _ _ (λ r. same_then (reads Parts.expr r (behind ts)) _ _ (λ e. symbol_then SRParen e.1 _))) (plain_call_reads (trees_of xs))

pub named_reads : (n : Name) (s : Span) (room : ℕ) (ts : List Token) → reads (Parts.named n s) room ts ≡ (if is_sym SLParen (tok_at ts)
    then open_at room ts (λ r. reads (Parts.arguments Possible) r (behind ts) >>= λ xs. called_at n s xs.0 (suc r) xs.1)
    else Ok (Parts.name n s, ts))
unfolding step rule
named_reads n s room ts = by_rule (Parts.named n s) room ts
    ∙ same_if (is_sym SLParen (tok_at ts)) (same_open room ts _ _ (λ r. same_then (reads (Parts.arguments Possible) r (behind ts)) _ _ (λ xs. called_reads n s xs.0 (suc r) xs.1))) refl

guarded_reads : (t : Generators) (x : Argument) (room : ℕ) (ts : List Token) → step reads (guarded_rest {t = t} x) room ts ≡ guarded_at x room ts
unfolding step
guarded_reads t x room ts = separated Paren (λ us. mapped (λ gs. x ∷ map strict gs) (reads (Parts.generators Paren) room us)) (λ us. Ok (x ∷ [], us)) ts

-- a test of the next token, where something else is asked first
passes_and : (b : Bool) (k : Keyword) (o : Option Tok) → passes (λ t. b && is_keyword k t) o ≡ b && is_word k o
passes_and true k None = refl
passes_and false k None = refl
passes_and b k (Some t) = refl

-- the same ways after equal tests
pub by_test : {A : Type 0} {a b : Bool} {p q r s : A} → a ≡ b → p ≡ r → q ≡ s → (if a then p else q) ≡ (if b then r else s)
by_test {b = b} {p = p} {q = q} e h g = ap (λ c. if c then p else q) e ∙ same_if b h g

-- the set of names that wait, and then the rest
regrouped : (room : ℕ) (ts : List Token) → (reads (Parts.level level_is.Union) room (behind ts) >>= λ x. reads Parts.filter room x.1 >>= λ w. guarded_at (strict (generator [] (tree_of x.0) w.0)) room w.1) ≡ (waited_at room ts >>= λ g. guarded_at g.0 room g.1)
regrouped room ts = same_then (reads (Parts.level level_is.Union) room (behind ts)) _ _ (λ x. grouped (reads Parts.filter room x.1) (λ w. Ok (strict (generator [] (tree_of x.0) w.0), w.1)) (λ g. guarded_at g.0 room g.1))
    ∙ grouped (reads (Parts.level level_is.Union) room (behind ts)) (λ x. reads Parts.filter room x.1 >>= λ w. Ok (strict (generator [] (tree_of x.0) w.0), w.1)) (λ g. guarded_at g.0 room g.1)

pub arguments_reads : (t : Generators) (room : ℕ) (ts : List Token) → reads (Parts.arguments t) room ts ≡ (if is_sym SRParen (tok_at ts)
    then Ok ([], behind ts)
    else (if awaits_in t && is_word KIn (tok_at ts)
    then (waited_at room ts >>= λ g. guarded_at g.0 room g.1)
    else (reads (Parts.level level_is.Iff) room ts >>= λ x. if takes_where t x.0 && is_word KWhere (tok_at x.1)
    then (reads Parts.expr room (behind x.1) >>= λ w. guarded_at (guarded x.0 w.0) room w.1)
    else listed (separator_at Paren) (reads (Parts.arguments (possible_after t x.0)) room) (unguarded x.0) x.1)))
unfolding step rule
arguments_reads t room ts = by_rule (Parts.arguments t) room ts
    ∙ same_if (is_sym SRParen (tok_at ts)) refl (by_test (passes_and (awaits_in t) KIn (tok_at ts))
    (same_then (reads (Parts.level level_is.Union) room (behind ts)) _ _ (λ x. same_then (reads Parts.filter room x.1) _ _ (λ w. guarded_reads t (strict (generator [] (tree_of x.0) w.0)) room w.1)) ∙ regrouped room ts)
    (same_then (reads (Parts.level level_is.Iff) room ts) _ _ (λ x. by_test (passes_and (takes_where t x.0) KWhere (tok_at x.1))
    (same_then (reads Parts.expr room (behind x.1)) _ _ (λ w. guarded_reads t (guarded x.0 w.0) room w.1))
    (listed_by Paren (reads (Parts.arguments (possible_after t x.0)) room) (unguarded x.0) x.1))))
