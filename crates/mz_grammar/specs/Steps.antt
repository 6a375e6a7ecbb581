-- Mirror of mz_expr/src and mz_parser/src; private clauses only. The steps in which the readers read the parts of the grammar.
use Rattle.std.specs.Prelude.{ℕ, suc, Bool, true, false, List, [], ◌∷◌, ◌++◌, map, Option, Some, Ok, if◌then◌else◌, ◌||◌}
use Rattle.mz_base.specs.declared.fault.Span.{Span}
use Rattle.mz_lexer.specs.declared.token.Tok.{Tok}
use Rattle.mz_lexer.specs.declared.token.Tok.TheVariants.{Word, Sym, Ident, Int, Text, TextHead}
use Rattle.mz_base.specs.declared.keyword.Keyword.{Keyword}
use Rattle.mz_base.specs.declared.keyword.Keyword.TheVariants.{KTrue, KFalse, KIf, KLet, KIn, KOf}
use Rattle.mz_lexer.specs.declared.token.Symbol.{Symbol}
use Rattle.mz_lexer.specs.declared.token.Symbol.TheVariants.{SLParen, SRParen, SLBrack, SRBrack, SLBrace, SRBrace, SLRows, SComma, SSemi, SColon, SEq, SAbsent, SConcat}
use Rattle.mz_tree.specs.Tree.{Name, Tree, Maybe, Generator, Written, Based, node, int, bool, absent, text, interp, call, gen_call, rows, choice, let_in, plain, generator, written, base_bool, base_of, no_array, trees, rows_of, branches, parts, gens, lets}
use Rattle.mz_tree.specs.Items.{ItemTree, include, declare, assign, constraint, solve, output, function, enum, annotation}
use Rattle.mz_grammar.specs.Tokens.{tok_at, behind, place}
use Rattle.mz_grammar.specs.Look.{is_sym}
use Rattle.mz_grammar.specs.Rules.{syntax, left_out}
use Rattle.mz_grammar.specs.RulesReading.{Read, Reader, stuck, on, open_at, symbol_at, word_at, mapped, with_prefix, listed, ◌>>=◌}
use Rattle.mz_grammar.specs.declared.level.Level.TheVariants as level_is
use Rattle.mz_grammar.specs.declared.list.Closing.{Closing}
use Rattle.mz_grammar.specs.declared.list.Closing.TheVariants.{Paren}
use Rattle.mz_grammar.specs.Parts
use Rattle.mz_grammar.specs.Parts.{Operand, other, at_of, tree_of, Argument, strict}
use Rattle.mz_grammar.specs.Arguments.{trees_of, generators_of}
use Rattle.mz_grammar.specs.Tests.{closes, is_left_out, ident_of, text_of, begins_type, ItemKind, an_include, a_constraint, a_solve, an_output, a_predicate, a_test, a_function, an_annotation, an_enum}
use Rattle.mz_grammar.specs.Reading.{reads}

-- an identifier, with its place
abbrev pub ident_at : Reader (Name × Span)
ident_at ts = on (ident_of (tok_at ts)) (stuck syntax ts) (λ n. Ok ((n, place ts), behind ts))

-- after an element of a list: whether another may follow, or the list is closed
abbrev pub separator_at : Closing → Reader Bool
separator_at c ts = if is_sym SComma (tok_at ts)
    then Ok (true, behind ts)
    else (if closes c (tok_at ts) then Ok (false, behind ts) else (if is_left_out c (tok_at ts) then stuck left_out ts else stuck syntax ts))

-- after an item of a let
abbrev pub let_separator_at : Reader Bool
let_separator_at ts = if is_sym SComma (tok_at ts) || is_sym SSemi (tok_at ts)
    then Ok (true, behind ts)
    else (if is_sym SRBrace (tok_at ts) then Ok (false, behind ts) else stuck syntax ts)

-- the branches that were read before, and the others
abbrev pub with_branches : List (Tree × Tree) → Read (List (Tree × Tree) × Maybe) → Read (List (Tree × Tree) × Maybe)
with_branches all o = mapped (λ bs. (all ++ bs.0, bs.1)) o

-- generators, and one at least
abbrev pub generators_at : Closing → ℕ → Reader (List Generator)
generators_at c room ts = reads Parts.generator room ts >>= λ g. listed (separator_at c) (reads (Parts.generators c) room) g.0 g.1

-- what follows an argument that is a generator
abbrev pub guarded_at : Argument → ℕ → Reader (List Argument)
guarded_at x room ts = separator_at Paren ts >>= λ b. if b.0 then mapped (λ gs. x ∷ map strict gs) (reads (Parts.generators Paren) room b.1) else Ok (x ∷ [], b.1)

-- the set, after its `in`, of names that end with a comma
abbrev pub waited_at : ℕ → Reader Argument
waited_at room ts = reads (Parts.level level_is.Union) room (behind ts) >>= λ x. reads Parts.filter room x.1 >>= λ w. Ok (strict (generator [] (tree_of x.0) w.0), w.1)

-- a call, after its arguments
abbrev pub called_at : Name → Span → List Argument → ℕ → Reader Operand
called_at n s xs room ts = if is_sym SLParen (tok_at ts)
    then on (generators_of xs) (stuck syntax ts) (λ gs. open_at room ts (λ r. reads Parts.expr r (behind ts) >>= λ e. symbol_at SRParen e.1 >>= λ c. Ok (other s (node s (gen_call n (gens gs) e.0)), c.1)))
    else on (trees_of xs) (stuck syntax ts) (λ es. Ok (other s (node s (call n (trees es))), ts))

-- heads
abbrev pub parenthesised_at : ℕ → Reader Operand
parenthesised_at room ts = open_at room ts (λ r. reads Parts.expr r (behind ts) >>= λ e.
    if is_sym SRParen (tok_at e.1) then Ok (other (place ts) e.0, behind e.1) else (if is_sym SComma (tok_at e.1) then stuck left_out e.1 else stuck syntax e.1))

abbrev pub let_at : ℕ → Reader Operand
let_at room ts = open_at room ts (λ r. if is_sym SLBrace (tok_at (behind ts))
    then open_at r (behind ts) (λ q. reads Parts.let_items q (behind (behind ts)) >>= λ ls. word_at KIn ls.1 >>= λ i. reads Parts.expr (suc q) i.1 >>= λ e. Ok (other (place ts) (node (place ts) (let_in (lets ls.0) e.0)), e.1))
    else stuck syntax (behind ts))

abbrev pub head_symbol_at : Symbol → ℕ → Reader Operand
head_symbol_at SAbsent room ts = Ok (other (place ts) (node (place ts) absent), behind ts)
head_symbol_at SLParen room ts = parenthesised_at room ts
head_symbol_at SLBrack room ts = open_at room ts (λ r. reads Parts.array_body r (behind ts) >>= λ f. Ok (other (place ts) (node (place ts) f.0), f.1))
head_symbol_at SLRows room ts = open_at room ts (λ r. reads Parts.rows_body r (behind ts) >>= λ rs. Ok (other (place ts) (node (place ts) (rows (rows_of rs.0))), rs.1))
head_symbol_at SLBrace room ts = open_at room ts (λ r. reads Parts.set_body r (behind ts) >>= λ f. Ok (other (place ts) (node (place ts) f.0), f.1))
head_symbol_at _ room ts = stuck syntax ts

abbrev pub head_word_at : Keyword → ℕ → Reader Operand
head_word_at KTrue room ts = Ok (other (place ts) (node (place ts) (bool true)), behind ts)
head_word_at KFalse room ts = Ok (other (place ts) (node (place ts) (bool false)), behind ts)
head_word_at KIf room ts = open_at room ts (λ r. reads Parts.branch r (behind ts) >>= λ b. mapped (λ bs. other (place ts) (node (place ts) (choice (branches bs.0) bs.1))) (with_branches (b.0 ∷ []) (reads Parts.branches r b.1)))
head_word_at KLet room ts = let_at room ts
head_word_at _ room ts = stuck syntax ts

abbrev pub head_at : Option Tok → ℕ → Reader Operand
head_at (Some (Int z)) room ts = Ok (other (place ts) (node (place ts) (int z)), behind ts)
head_at (Some (Text n)) room ts = Ok (other (place ts) (node (place ts) (text n)), behind ts)
head_at (Some (TextHead n)) room ts = open_at room ts (λ r. mapped (λ ps. other (place ts) (node (place ts) (interp (parts ps)))) (with_prefix (plain n ∷ []) (reads Parts.text_rest r (behind ts))))
head_at (Some (Ident n)) room ts = reads (Parts.named n (place ts)) room (behind ts)
head_at (Some (Word k)) room ts = head_word_at k room ts
head_at (Some (Sym s)) room ts = head_symbol_at s room ts
head_at _ room ts = stuck syntax ts

-- the index types of an array type, in their brackets, and the `of` after them
abbrev pub dimensions_at : ℕ → Reader (List Based)
dimensions_at room ts = if is_sym SLBrack (tok_at ts)
    then open_at room ts (λ r. if is_sym SRBrack (tok_at (behind ts)) then stuck syntax (behind ts) else (reads (Parts.index_types 6) r (behind ts) >>= λ bs. word_at KOf bs.1 >>= λ p. Ok (bs.0, p.1)))
    else stuck syntax ts

-- the cases of an enum, in their braces
abbrev pub braced_at : ℕ → Reader (Option (List (Name × Span)))
braced_at room ts = if is_sym SLBrace (tok_at ts)
    then open_at room ts (λ r. reads Parts.case_names r (behind ts) >>= λ ns. if is_sym SConcat (tok_at ns.1) || is_sym SLParen (tok_at ns.1) then stuck left_out ns.1 else Ok (Some ns.0, ns.1))
    else on (ident_of (tok_at ts)) (stuck syntax ts) (λ n. stuck left_out ts)

-- a function, after the type of what it gives
abbrev pub function_at : Written → ℕ → Reader ItemTree
function_at t room ts = ident_at ts >>= λ i. reads Parts.params room i.1 >>= λ ds. reads Parts.annotations room ds.1 >>= λ m. symbol_at SEq m.1 >>= λ q. reads Parts.expr room q.1 >>= λ e.
    Ok (function (record { name = i.0.0; span = i.0.1; result = t; params = ds.0; body = e.0 }), e.1)

-- an item that begins with an expression
abbrev pub declared_by : Operand → ℕ → Reader ItemTree
declared_by x room ts = reads (Parts.declared (written (at_of x) no_array false false false (base_of (tree_of x)))) room ts >>= λ d. Ok (declare d.0, d.1)

abbrev pub by_expression_at : Operand → ℕ → Reader ItemTree
by_expression_at (Parts.name n s) room ts = if is_sym SEq (tok_at ts)
    then (reads Parts.expr room (behind ts) >>= λ e. Ok (assign n s e.0, e.1))
    else declared_by (Parts.name n s) room ts
by_expression_at x room ts = declared_by x room ts

abbrev pub other_item_at : ℕ → Reader ItemTree
other_item_at room ts = if begins_type (tok_at ts)
    then (reads Parts.declaration room ts >>= λ d. Ok (declare d.0, d.1))
    else (reads (Parts.level level_is.Union) room ts >>= λ x. by_expression_at x.0 room x.1)

-- an item, after the keyword at that place
abbrev pub item_at : ItemKind → Span → ℕ → Reader ItemTree
item_at an_include s room ts = on (text_of (tok_at ts)) (stuck syntax ts) (λ n. Ok (include n (place ts), behind ts))
item_at a_constraint s room ts = reads Parts.marks room ts >>= λ m. reads Parts.expr room m.1 >>= λ e. Ok (constraint e.0, e.1)
item_at a_solve s room ts = reads Parts.marks room ts >>= λ m. reads Parts.goal room m.1 >>= λ g. Ok (solve s g.0, g.1)
item_at an_output s room ts = reads Parts.marks room ts >>= λ m. reads Parts.expr room m.1 >>= λ e. Ok (output e.0, e.1)
item_at a_predicate s room ts = function_at (written s no_array true false false base_bool) room ts
item_at a_test s room ts = function_at (written s no_array false false false base_bool) room ts
item_at a_function s room ts = reads Parts.type room ts >>= λ t. symbol_at SColon t.1 >>= λ c. function_at t.0 room c.1
item_at an_annotation s room ts = ident_at ts >>= λ i. reads Parts.params room i.1 >>= λ ds. Ok (annotation i.0.0, ds.1)
item_at an_enum s room ts = ident_at ts >>= λ i. reads Parts.annotations room i.1 >>= λ m. reads Parts.cases room m.1 >>= λ cs. Ok (enum i.0.0 i.0.1 cs.0, cs.1)
