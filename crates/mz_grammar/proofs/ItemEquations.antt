-- How each part of a model is read, by its rule: types, declarations and items.
use Rattle.std.proofs.Common.{◌≡◌, ℕ, zero, suc, List, [], ◌∷◌, refl, ap, ◌∙◌, arith, ◌<◌, ◌-◌, true, false, Option}
use Rattle.std.specs.Prelude.{Ok, Some, None, if◌then◌else◌}
use Rattle.mz_base.specs.declared.fault.Span.{Span}
use Rattle.mz_lexer.specs.declared.token.Token.{Token}
use Rattle.mz_lexer.specs.declared.token.Tok.{Tok}
use Rattle.mz_lexer.specs.declared.token.Tok.TheVariants.{Ident}
use Rattle.mz_base.specs.declared.keyword.Keyword.TheVariants.{KArray, KList, KOf, KVar, KPar, KOpt, KSet, KBool, KInt, KSatisfy, KMinimize, KMaximize}
use Rattle.mz_lexer.specs.declared.token.Symbol.TheVariants.{SLParen, SRParen, SLBrack, SRBrack, SLBrace, SRBrace, SSemi, SColon, SEq}
use Rattle.mz_tree.specs.Tree.{Written, Based, array_type, marked, declaration, written, base_bool, base_int, base_of, no_array, just, nothing}
use Rattle.mz_tree.specs.Items.{satisfy, minimize, maximize}
use Rattle.mz_grammar.specs.Tokens.{tok_at, behind, place}
use Rattle.mz_grammar.specs.Look.{is_sym, is_word}
use Rattle.mz_grammar.specs.Rules.{syntax, left_out}
use Rattle.mz_grammar.specs.RulesReading.{Read, stuck, on, open_at, symbol_at, word_at, mapped, with_prefix, listed, step, ◌>>=◌}
use Rattle.mz_grammar.proofs.Steps.{itself, grouped, same_then, same_if, same_on, same_open}
use Rattle.mz_grammar.specs.declared.level.Level.TheVariants as level_is
use Rattle.mz_grammar.specs.declared.list.Closing.TheVariants.{Paren, Bracket, Brace}
use Rattle.mz_grammar.specs.Parts
use Rattle.mz_grammar.specs.Parts.{Operand, at_of, tree_of}
use Rattle.mz_grammar.specs.Tests.{is_end, is_identifier, ident_of, begins_base, begins_type, ItemKind, a_predicate, a_test, a_function, an_annotation, an_enum, item_of}
use Rattle.mz_grammar.specs.Model.{rule, function_rule, by_expression, other_item, item_by}
use Rattle.mz_grammar.specs.Reading.{reads}
use Rattle.mz_grammar.specs.Steps.{ident_at, separator_at, dimensions_at, braced_at, function_at, by_expression_at, other_item_at, item_at}
use Rattle.mz_grammar.proofs.Equations.{by_rule, if_then, symbol_then, word_then, ident_then, listed_by}

-- Types

pub base_reads : (room : ℕ) (ts : List Token) → reads Parts.base room ts ≡ (if is_word KBool (tok_at ts)
    then Ok ((place ts, base_bool), behind ts)
    else (if is_word KInt (tok_at ts)
    then Ok ((place ts, base_int), behind ts)
    else (reads (Parts.level level_is.Union) room ts >>= λ x. Ok ((at_of x.0, base_of (tree_of x.0)), x.1))))
unfolding step rule
base_reads room ts = by_rule Parts.base room ts

pub unmarked_reads : (room : ℕ) (ts : List Token) → reads Parts.unmarked room ts ≡ (if is_word KOpt (tok_at ts)
    then (if is_word KSet (tok_at (behind ts)) then stuck left_out (behind ts) else (reads Parts.base room (behind ts) >>= λ b. Ok (written (place ts) no_array false true false b.0.1, b.1)))
    else (if is_word KSet (tok_at ts)
    then (word_at KOf (behind ts) >>= λ p. reads Parts.base room p.1 >>= λ b. Ok (written (place ts) no_array false false true b.0.1, b.1))
    else (reads Parts.base room ts >>= λ b. Ok (written b.0.0 no_array false false false b.0.1, b.1))))
unfolding step rule
unmarked_reads room ts = by_rule Parts.unmarked room ts ∙ same_if (is_word KOpt (tok_at ts)) refl (same_if (is_word KSet (tok_at ts)) (word_then KOf (behind ts) _) refl)

pub element_reads : (room : ℕ) (ts : List Token) → reads Parts.element room ts ≡ (if is_word KVar (tok_at ts)
    then (reads Parts.unmarked room (behind ts) >>= λ t. Ok (marked (place ts) true t.0, t.1))
    else (if is_word KPar (tok_at ts)
    then (reads Parts.unmarked room (behind ts) >>= λ t. Ok (marked (place ts) false t.0, t.1))
    else reads Parts.unmarked room ts))
unfolding step rule
element_reads room ts = by_rule Parts.element room ts ∙ same_if (is_word KVar (tok_at ts)) refl (same_if (is_word KPar (tok_at ts)) refl (itself (reads Parts.unmarked room ts)))

-- by how many may still follow
pub index_types_none : (m room : ℕ) (ts : List Token) → m ≡ 0 → reads (Parts.index_types m) room ts ≡ (if is_sym SRBrack (tok_at ts)
    then Ok ([], behind ts)
    else (if begins_base (tok_at ts) then stuck left_out ts else stuck syntax ts))
unfolding step rule
index_types_none m room ts e = ap (λ k. reads (Parts.index_types k) room ts) e ∙ by_rule (Parts.index_types zero) room ts

pub index_types_more : (m room : ℕ) (ts : List Token) → 0 < m → reads (Parts.index_types m) room ts ≡ (if is_sym SRBrack (tok_at ts)
    then Ok ([], behind ts)
    else (reads Parts.base room ts >>= λ b. listed (separator_at Bracket) (reads (Parts.index_types (m - 1)) room) b.0.1 b.1))
unfolding step rule
index_types_more m room ts l = let e : m ≡ suc (m - 1) = omega arith in ap (λ k. reads (Parts.index_types k) room ts) e ∙ by_rule (Parts.index_types (suc (m - 1))) room ts
    ∙ same_if (is_sym SRBrack (tok_at ts)) refl (same_then (reads Parts.base room ts) _ _ (λ b. listed_by Bracket (reads (Parts.index_types (m - 1)) room) b.0.1 b.1))

-- The room after a closed one is that before it.
open_then : {A B : Type 0} (room : ℕ) (ts : List Token) (g : ℕ → Read A) (f : ℕ → A × List Token → Read B) → open_at room ts (λ r. g r >>= f (suc r)) ≡ (open_at room ts g >>= f room)
open_then zero ts g f = refl
open_then (suc r) ts g f = refl

dimensions_then : {A : Type 0} (room : ℕ) (ts : List Token) (f : ℕ → List Based × List Token → Read A) → (if is_sym SLBrack (tok_at ts)
    then open_at room ts (λ r. if is_sym SRBrack (tok_at (behind ts))
    then stuck syntax (behind ts)
    else (reads (Parts.index_types 6) r (behind ts) >>= λ bs. if is_word KOf (tok_at bs.1) then f (suc r) (bs.0, behind bs.1) else stuck syntax bs.1))
    else stuck syntax ts) ≡ (dimensions_at room ts >>= f room)
dimensions_then room ts f = same_if (is_sym SLBrack (tok_at ts)) (same_open room ts _ _ (λ r. same_if (is_sym SRBrack (tok_at (behind ts))) refl
    (same_then (reads (Parts.index_types 6) r (behind ts)) _ _ (λ bs. word_then KOf bs.1 (λ p. f (suc r) (bs.0, p.1)) ∙ grouped (word_at KOf bs.1) _ (f (suc r))) ∙ grouped (reads (Parts.index_types 6) r (behind ts)) _ (f (suc r)))
    ∙ if_then (is_sym SRBrack (tok_at (behind ts))) _ _ (f (suc r))) ∙ open_then room ts _ f) refl ∙ if_then (is_sym SLBrack (tok_at ts)) _ _ (f room)

pub type_reads : (room : ℕ) (ts : List Token) → reads Parts.type room ts ≡ (if is_word KArray (tok_at ts)
    then (dimensions_at room (behind ts) >>= λ bs. reads Parts.element room bs.1 >>= λ t. Ok (array_type (place ts) bs.0 t.0, t.1))
    else (if is_word KList (tok_at ts)
    then (word_at KOf (behind ts) >>= λ p. reads Parts.element room p.1 >>= λ t. Ok (array_type (place ts) (base_int ∷ []) t.0, t.1))
    else reads Parts.element room ts))
unfolding step rule
type_reads room ts = by_rule Parts.type room ts ∙ same_if (is_word KArray (tok_at ts)) (dimensions_then room (behind ts) (λ r bs. mapped (λ t. array_type (place ts) bs.0 t) (reads Parts.element r bs.1)))
    (same_if (is_word KList (tok_at ts)) (word_then KOf (behind ts) _) (itself (reads Parts.element room ts)))

-- Declarations

pub value_reads : (room : ℕ) (ts : List Token) → reads Parts.value room ts ≡ (if is_sym SEq (tok_at ts) then (reads Parts.expr room (behind ts) >>= λ e. Ok (just e.0, e.1)) else Ok (nothing, ts))
unfolding step rule
value_reads room ts = by_rule Parts.value room ts

pub declared_reads : (t : Written) (room : ℕ) (ts : List Token) → reads (Parts.declared t) room ts ≡ (symbol_at SColon ts >>= λ c. ident_at c.1 >>= λ i. reads Parts.annotations room i.1 >>= λ m. reads Parts.value room m.1 >>= λ v. Ok (declaration t i.0.0 i.0.1 v.0, v.1))
unfolding step rule
declared_reads t room ts = by_rule (Parts.declared t) room ts ∙ symbol_then SColon ts _ ∙ same_then (symbol_at SColon ts) _ _ (λ c. ident_then c.1 _)

pub declaration_reads : (room : ℕ) (ts : List Token) → reads Parts.declaration room ts ≡ (reads Parts.type room ts >>= λ t. reads (Parts.declared t.0) room t.1)
unfolding step rule
declaration_reads room ts = by_rule Parts.declaration room ts ∙ same_then (reads Parts.type room ts) _ _ (λ t. itself (reads (Parts.declared t.0) room t.1))

pub param_reads : (room : ℕ) (ts : List Token) → reads Parts.param room ts ≡ (reads Parts.type room ts >>= λ t. symbol_at SColon t.1 >>= λ c. ident_at c.1 >>= λ i. reads Parts.annotations room i.1 >>= λ m. Ok (declaration t.0 i.0.0 i.0.1 nothing, m.1))
unfolding step rule
param_reads room ts = by_rule Parts.param room ts
    ∙ same_then (reads Parts.type room ts) _ _ (λ t. symbol_then SColon t.1 _ ∙ same_then (symbol_at SColon t.1) _ _ (λ c. ident_then c.1 _))

pub param_list_reads : (room : ℕ) (ts : List Token) → reads Parts.param_list room ts ≡ (if is_sym SRParen (tok_at ts)
    then Ok ([], behind ts)
    else (reads Parts.param room ts >>= λ d. listed (separator_at Paren) (reads Parts.param_list room) d.0 d.1))
unfolding step rule
param_list_reads room ts = by_rule Parts.param_list room ts
    ∙ same_if (is_sym SRParen (tok_at ts)) refl (same_then (reads Parts.param room ts) _ _ (λ d. listed_by Paren (reads Parts.param_list room) d.0 d.1))

pub params_reads : (room : ℕ) (ts : List Token) → reads Parts.params room ts ≡ (if is_sym SLParen (tok_at ts) then open_at room ts (λ r. reads Parts.param_list r (behind ts)) else Ok ([], ts))
unfolding step rule
params_reads room ts = by_rule Parts.params room ts
    ∙ same_if (is_sym SLParen (tok_at ts)) (same_open room ts _ _ (λ r. itself (reads Parts.param_list r (behind ts)))) refl

-- Items

function_reads : (t : Written) (room : ℕ) (ts : List Token) → step reads (function_rule t) room ts ≡ function_at t room ts
unfolding step
function_reads t room ts = ident_then ts _
    ∙ same_then (ident_at ts) _ _ (λ i. same_then (reads Parts.params room i.1) _ _ (λ ds. same_then (reads Parts.annotations room ds.1) _ _ (λ m. symbol_then SEq m.1 _)))

by_expression_reads : (x : Operand) (room : ℕ) (ts : List Token) → step reads (by_expression x) room ts ≡ by_expression_at x room ts
unfolding step
by_expression_reads (Parts.name n s) room ts = refl
by_expression_reads _ room ts = refl

other_item_reads : (room : ℕ) (ts : List Token) → step reads other_item room ts ≡ other_item_at room ts
unfolding step
other_item_reads room ts = same_if (begins_type (tok_at ts)) refl (same_then (reads (Parts.level level_is.Union) room ts) _ _ (λ x. by_expression_reads x.0 room x.1))

item_by_reads : (k : ItemKind) (s : Span) (room : ℕ) (ts : List Token) → step reads (item_by k s) room ts ≡ item_at k s room ts
unfolding step
item_by_reads a_predicate s room ts = function_reads (written s no_array true false false base_bool) room ts
item_by_reads a_test s room ts = function_reads (written s no_array false false false base_bool) room ts
item_by_reads a_function s room ts = same_then (reads Parts.type room ts) _ _ (λ t. symbol_then SColon t.1 _ ∙ same_then (symbol_at SColon t.1) _ _ (λ c. function_reads t.0 room c.1))
item_by_reads an_annotation s room ts = ident_then ts _
item_by_reads an_enum s room ts = ident_then ts _
item_by_reads _ s room ts = refl

pub item_reads : (room : ℕ) (ts : List Token) → reads Parts.item room ts ≡ on (item_of (tok_at ts)) (other_item_at room ts) (λ k. item_at k (place ts) room (behind ts))
unfolding step rule
item_reads room ts = by_rule Parts.item room ts ∙ same_on (item_of (tok_at ts)) _ _ (other_item_reads room ts) (λ k. item_by_reads k (place ts) room (behind ts))

pub goal_reads : (room : ℕ) (ts : List Token) → reads Parts.goal room ts ≡ (if is_word KSatisfy (tok_at ts)
    then Ok (satisfy, behind ts)
    else (if is_word KMinimize (tok_at ts)
    then (reads Parts.expr room (behind ts) >>= λ e. Ok (minimize e.0, e.1))
    else (if is_word KMaximize (tok_at ts) then (reads Parts.expr room (behind ts) >>= λ e. Ok (maximize e.0, e.1)) else stuck syntax ts)))
unfolding step rule
goal_reads room ts = by_rule Parts.goal room ts

-- the same ways by a test and by what the token tells
by_identifier : {A : Type 0} (o : Option Tok) (p q : A) → (if is_identifier o then p else q) ≡ on (ident_of o) q (λ n. p)
by_identifier (Some (Ident n)) p q = refl
by_identifier _ p q = refl

by_end : {A : Type 0} (o : Option Tok) (p q : A) → (if is_end o then p else q) ≡ on o p (λ t. q)
by_end None p q = refl
by_end (Some t) p q = refl

pub cases_reads : (room : ℕ) (ts : List Token) → reads Parts.cases room ts ≡ (if is_sym SEq (tok_at ts) then braced_at room (behind ts) else Ok (None, ts))
unfolding step rule
cases_reads room ts = by_rule Parts.cases room ts ∙ same_if (is_sym SEq (tok_at ts)) (same_if (is_sym SLBrace (tok_at (behind ts))) refl (by_identifier (tok_at (behind ts)) _ _)) refl

pub case_names_reads : (room : ℕ) (ts : List Token) → reads Parts.case_names room ts ≡ (if is_sym SRBrace (tok_at ts)
    then Ok ([], behind ts)
    else (ident_at ts >>= λ i. listed (separator_at Brace) (reads Parts.case_names room) i.0 i.1))
unfolding step rule
case_names_reads room ts = by_rule Parts.case_names room ts
    ∙ same_if (is_sym SRBrace (tok_at ts)) refl (ident_then ts _ ∙ same_then (ident_at ts) _ _ (λ i. listed_by Brace (reads Parts.case_names room) i.0 i.1))

pub file_reads : (room : ℕ) (ts : List Token) → reads Parts.file room ts ≡ on (tok_at ts) (Ok ([], ts)) (λ t. reads Parts.item room ts >>= λ i. with_prefix (i.0 ∷ []) (reads Parts.more_items room i.1))
unfolding step rule
file_reads room ts = by_rule Parts.file room ts ∙ by_end (tok_at ts) _ _

pub more_items_reads : (room : ℕ) (ts : List Token) → reads Parts.more_items room ts ≡ on (tok_at ts) (Ok ([], ts)) (λ t. if is_sym SSemi (tok_at ts) then reads Parts.file room (behind ts) else stuck syntax ts)
unfolding step rule
more_items_reads room ts = by_rule Parts.more_items room ts ∙ same_if (is_end (tok_at ts)) refl (same_if (is_sym SSemi (tok_at ts)) (itself (reads Parts.file room (behind ts))) refl) ∙ by_end (tok_at ts) _ _
