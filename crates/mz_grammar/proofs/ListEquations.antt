-- How each part of a model is read, by its rule: lists, generators, `if` and `let`.
use Rattle.std.proofs.Common.{◌≡◌, ℕ, List, [], ◌∷◌, refl, ◌∙◌, true, false, Bool, Option}
use Rattle.std.specs.Prelude.{Ok, Some, None, if◌then◌else◌, ◌||◌}
use Rattle.mz_lexer.specs.declared.token.Token.{Token}
use Rattle.mz_lexer.specs.declared.token.Tok.{Tok}
use Rattle.mz_base.specs.declared.keyword.Keyword.TheVariants.{KIn, KWhere, KThen, KElse, KElseif, KEndif, KConstraint}
use Rattle.mz_lexer.specs.declared.token.Symbol.TheVariants.{SRBrack, SRBrace, SRRows, SBar, SComma, SSemi}
use Rattle.mz_tree.specs.Tree.{Generator, Let, array, set, array_comp, set_comp, just, nothing, plain, shown, generator, constrained, trees, gens}
use Rattle.mz_tree.specs.Tree as pure
use Rattle.mz_grammar.specs.Tokens.{tok_at, behind, place, passes}
use Rattle.mz_grammar.specs.Look.{is_sym, is_word, is_symbol}
use Rattle.mz_grammar.specs.Rules.{give, part, syntax, left_out}
use Rattle.mz_grammar.specs.RulesReading.{Read, Reader, stuck, on, word_at, mapped, with_prefix, listed, step, ◌>>=◌}
use Rattle.mz_grammar.proofs.Steps.{grouped, then_prefix, listed_mapped, same_then, same_if}
use Rattle.mz_grammar.specs.declared.level.Level.TheVariants as level_is
use Rattle.mz_grammar.specs.declared.list.Closing.{Closing}
use Rattle.mz_grammar.specs.declared.list.Closing.TheVariants.{Bracket, Elements, Brace}
use Rattle.mz_grammar.specs.Parts
use Rattle.mz_grammar.specs.Parts.{Place, Value, tree_of}
use Rattle.mz_grammar.specs.Tests.{closes, is_left_out, ident_of, middle_of, tail_of, ends_row}
use Rattle.mz_grammar.specs.Model.{rule, behind as behind_element}
use Rattle.mz_grammar.specs.Reading.{reads}
use Rattle.mz_grammar.specs.Steps.{ident_at, separator_at, let_separator_at, with_branches, generators_at}
use Rattle.mz_grammar.proofs.Equations.{by_rule, if_then, by_test, word_then, ident_then, separated}

pub text_rest_reads : (room : ℕ) (ts : List Token) → reads Parts.text_rest room ts ≡ (reads Parts.expr room ts >>= λ e. on (middle_of (tok_at e.1))
    (on (tail_of (tok_at e.1)) (stuck syntax e.1) (λ n. Ok (shown e.0 ∷ (plain n ∷ []), behind e.1)))
    (λ n. with_prefix (shown e.0 ∷ (plain n ∷ [])) (reads Parts.text_rest room (behind e.1))))
unfolding step rule
text_rest_reads room ts = by_rule Parts.text_rest room ts

-- a list of elements, and a comprehension after its `|`
elements_of : {A B : Type 0} (c : Closing) (f : List A → B) (next : Reader (List A)) (x : A) (ts : List Token) →
    (if is_sym SComma (tok_at ts) then mapped (λ xs. f (x ∷ xs)) (next (behind ts)) else (if closes c (tok_at ts) then Ok (f (x ∷ []), behind ts) else (if is_left_out c (tok_at ts) then stuck left_out ts else stuck syntax ts)))
    ≡ mapped f (listed (separator_at c) next x ts)
elements_of c f next x ts = separated c (λ us. mapped (λ xs. f (x ∷ xs)) (next us)) (λ us. Ok (f (x ∷ []), us)) ts ∙ listed_mapped f (separator_at c) next x ts

comprehension : (n : Place) (c : Closing) (f : List Generator → Value n) (room : ℕ) (ts : List Token) →
    step reads (part Parts.generator λ g. behind_element {n = n} c (part (Parts.generators c) λ gs. give (f (g ∷ gs))) (give (f (g ∷ [])))) room ts
    ≡ mapped f (generators_at c room ts)
unfolding step
comprehension n c f room ts = same_then (reads Parts.generator room ts) _ _ (λ g. elements_of c f (reads (Parts.generators c) room) g.0 g.1)
    ∙ grouped (reads Parts.generator room ts) (λ g. listed (separator_at c) (reads (Parts.generators c) room) g.0 g.1) (λ gs. Ok (f gs.0, gs.1))

pub array_body_reads : (room : ℕ) (ts : List Token) → reads Parts.array_body room ts ≡ (if is_sym SRBrack (tok_at ts)
    then Ok (array (trees []), behind ts)
    else (reads Parts.expr room ts >>= λ e. if is_sym SBar (tok_at e.1)
    then mapped (λ gs. array_comp e.0 (gens gs)) (generators_at Bracket room (behind e.1))
    else mapped (λ es. array (trees es)) (listed (separator_at Elements) (reads (Parts.elements Elements) room) e.0 e.1)))
unfolding step rule
array_body_reads room ts = by_rule Parts.array_body room ts ∙ same_if (is_sym SRBrack (tok_at ts)) refl (same_then (reads Parts.expr room ts) _ _ (λ e. same_if (is_sym SBar (tok_at e.1))
    (comprehension Parts.array_body Bracket (λ gs. array_comp e.0 (gens gs)) room (behind e.1))
    (elements_of Elements (λ es. array (trees es)) (reads (Parts.elements Elements) room) e.0 e.1)))

pub set_body_reads : (room : ℕ) (ts : List Token) → reads Parts.set_body room ts ≡ (if is_sym SRBrace (tok_at ts)
    then Ok (set (trees []), behind ts)
    else (reads Parts.expr room ts >>= λ e. if is_sym SBar (tok_at e.1)
    then mapped (λ gs. set_comp e.0 (gens gs)) (generators_at Brace room (behind e.1))
    else mapped (λ es. set (trees es)) (listed (separator_at Brace) (reads (Parts.elements Brace) room) e.0 e.1)))
unfolding step rule
set_body_reads room ts = by_rule Parts.set_body room ts ∙ same_if (is_sym SRBrace (tok_at ts)) refl (same_then (reads Parts.expr room ts) _ _ (λ e. same_if (is_sym SBar (tok_at e.1))
    (comprehension Parts.set_body Brace (λ gs. set_comp e.0 (gens gs)) room (behind e.1))
    (elements_of Brace (λ es. set (trees es)) (reads (Parts.elements Brace) room) e.0 e.1)))

pub rows_body_reads : (room : ℕ) (ts : List Token) → reads Parts.rows_body room ts ≡ (if is_sym SRRows (tok_at ts)
    then Ok ([], behind ts)
    else (if is_sym SBar (tok_at ts)
    then stuck left_out ts
    else (reads Parts.row room ts >>= λ r. with_prefix (r.0 ∷ []) (reads Parts.more_rows room r.1))))
unfolding step rule
rows_body_reads room ts = by_rule Parts.rows_body room ts

pub more_rows_reads : (room : ℕ) (ts : List Token) → reads Parts.more_rows room ts ≡ (if is_sym SRRows (tok_at ts)
    then Ok ([], behind ts)
    else (if is_sym SBar (tok_at ts)
    then (if is_sym SRRows (tok_at (behind ts))
    then Ok ([], behind (behind ts))
    else (reads Parts.row room (behind ts) >>= λ r. with_prefix (r.0 ∷ []) (reads Parts.more_rows room r.1)))
    else stuck syntax ts))
unfolding step rule
more_rows_reads room ts = by_rule Parts.more_rows room ts

pub row_reads : (room : ℕ) (ts : List Token) → reads Parts.row room ts ≡ (reads Parts.expr room ts >>= λ e. with_prefix (e.0 ∷ []) (reads Parts.cells room e.1))
unfolding step rule
row_reads room ts = by_rule Parts.row room ts

pub cells_reads : (room : ℕ) (ts : List Token) → reads Parts.cells room ts ≡ (if is_sym SComma (tok_at ts)
    then (if ends_row (tok_at (behind ts)) then Ok ([], behind ts) else (reads Parts.expr room (behind ts) >>= λ e. with_prefix (e.0 ∷ []) (reads Parts.cells room e.1)))
    else Ok ([], ts))
unfolding step rule
cells_reads room ts = by_rule Parts.cells room ts

pub more_names_reads : (room : ℕ) (ts : List Token) → reads Parts.more_names room ts ≡ (if is_sym SComma (tok_at ts)
    then on (ident_of (tok_at (behind ts))) (Ok ([], behind ts)) (λ n. with_prefix ((n, place (behind ts)) ∷ []) (reads Parts.more_names room (behind (behind ts))))
    else Ok ([], ts))
unfolding step rule
more_names_reads room ts = by_rule Parts.more_names room ts

pub generator_reads : (room : ℕ) (ts : List Token) → reads Parts.generator room ts ≡ (ident_at ts >>= λ i. with_prefix (i.0 ∷ []) (reads Parts.more_names room i.1) >>= λ ns. word_at KIn ns.1 >>= λ p.
    reads (Parts.level level_is.Union) room p.1 >>= λ x. reads Parts.filter room x.1 >>= λ w. Ok (generator ns.0 (tree_of x.0) w.0, w.1))
unfolding step rule
generator_reads room ts = by_rule Parts.generator room ts ∙ ident_then ts _
    ∙ same_then (ident_at ts) _ _ (λ i. same_then (reads Parts.more_names room i.1) _ _ (λ ns. word_then KIn ns.1 _) ∙ then_prefix i.0 (reads Parts.more_names room i.1) _)

pub filter_reads : (room : ℕ) (ts : List Token) → reads Parts.filter room ts ≡ (if is_word KWhere (tok_at ts) then (reads Parts.expr room (behind ts) >>= λ e. Ok (just e.0, e.1)) else Ok (nothing, ts))
unfolding step rule
filter_reads room ts = by_rule Parts.filter room ts

pub branch_reads : (room : ℕ) (ts : List Token) → reads Parts.branch room ts ≡ (reads Parts.expr room ts >>= λ c. word_at KThen c.1 >>= λ p. reads Parts.expr room p.1 >>= λ e. Ok ((c.0, e.0), e.1))
unfolding step rule
branch_reads room ts = by_rule Parts.branch room ts ∙ same_then (reads Parts.expr room ts) _ _ (λ c. word_then KThen c.1 _)

pub branches_reads : (room : ℕ) (ts : List Token) → reads Parts.branches room ts ≡ (if is_word KElseif (tok_at ts)
    then (reads Parts.branch room (behind ts) >>= λ b. with_branches (b.0 ∷ []) (reads Parts.branches room b.1))
    else (if is_word KElse (tok_at ts)
    then (reads Parts.expr room (behind ts) >>= λ e. word_at KEndif e.1 >>= λ p. Ok (([], just e.0), p.1))
    else (if is_word KEndif (tok_at ts) then Ok (([], nothing), behind ts) else stuck syntax ts)))
unfolding step rule
branches_reads room ts = by_rule Parts.branches room ts ∙ same_if (is_word KElseif (tok_at ts)) refl (same_if (is_word KElse (tok_at ts))
    (same_then (reads Parts.expr room (behind ts)) _ _ (λ e. word_then KEndif e.1 _)) refl)

passes_or : (o : Option Tok) → passes (λ k. is_symbol SComma k || is_symbol SSemi k) o ≡ is_sym SComma o || is_sym SSemi o
passes_or None = refl
passes_or (Some t) = refl

let_separated : (l : Let) (room : ℕ) (ts : List Token) → (if passes (λ k. is_symbol SComma k || is_symbol SSemi k) (tok_at ts)
    then with_prefix (l ∷ []) (reads Parts.let_items room (behind ts))
    else (if is_sym SRBrace (tok_at ts) then Ok (l ∷ [], behind ts) else stuck syntax ts)) ≡ listed let_separator_at (reads Parts.let_items room) l ts
let_separated l room ts = by_test (passes_or (tok_at ts)) refl (if_then (is_sym SRBrace (tok_at ts)) (Ok (false, behind ts)) (stuck syntax ts) by_flag)
    ∙ if_then (is_sym SComma (tok_at ts) || is_sym SSemi (tok_at ts)) (Ok (true, behind ts)) _ by_flag
  where
    by_flag : Bool × List Token → Read (List Let)
    by_flag b = if b.0 then with_prefix (l ∷ []) (reads Parts.let_items room b.1) else Ok (l ∷ [], b.1)

pub let_items_reads : (room : ℕ) (ts : List Token) → reads Parts.let_items room ts ≡ (if is_sym SRBrace (tok_at ts)
    then Ok ([], behind ts)
    else (reads Parts.let_item room ts >>= λ l. listed let_separator_at (reads Parts.let_items room) l.0 l.1))
unfolding step rule
let_items_reads room ts = by_rule Parts.let_items room ts ∙ same_if (is_sym SRBrace (tok_at ts)) refl (same_then (reads Parts.let_item room ts) _ _ (λ l. let_separated l.0 room l.1))

pub let_item_reads : (room : ℕ) (ts : List Token) → reads Parts.let_item room ts ≡ (if is_word KConstraint (tok_at ts)
    then (reads Parts.marks room (behind ts) >>= λ m. reads Parts.expr room m.1 >>= λ e. Ok (constrained e.0, e.1))
    else (reads Parts.declaration room ts >>= λ d. Ok (pure.declared d.0, d.1)))
unfolding step rule
let_item_reads room ts = by_rule Parts.let_item room ts
