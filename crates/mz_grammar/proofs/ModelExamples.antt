-- Worked examples of expressions and model files, from their tokens.
use Rattle.std.proofs.Common.{◌≡◌, ℕ, suc, List, [], ◌∷◌, refl}
use Rattle.std.specs.Prelude.{Ok, pos}
use Rattle.mz_base.specs.declared.fault.Span.{Span}
use Rattle.mz_lexer.specs.declared.token.Token.{Token}
use Rattle.mz_lexer.specs.declared.token.Tok.{Tok}
use Rattle.mz_lexer.specs.declared.token.Tok.TheVariants.{Word, Sym, Ident, Int}
use Rattle.mz_base.specs.declared.keyword.Keyword.TheVariants.{KConstraint, KIf, KThen, KEndif, KIn, KLet, KSatisfy, KSolve}
use Rattle.mz_lexer.specs.declared.token.Symbol.TheVariants.{SLParen, SRParen, SLBrack, SRBrack, SLBrace, SRBrace, SLRows, SRRows, SBar, SComma, SSemi, SColon, SColons, SLt, SEq, SPlus, SMinus, SStar}
use Rattle.mz_tree.specs.declared.expr.BinOp.{BinOp}
use Rattle.mz_tree.specs.declared.expr.PlacedOp.{PlacedOp}
use Rattle.mz_tree.specs.declared.expr.BinOp.TheVariants as op
use Rattle.mz_tree.specs.declared.expr.UnOp.TheVariants as prefix
use Rattle.mz_tree.specs.Tree.{Name, Tree, node, int, ident, unary, chain, gen_call, access, rows, choice, let_in, trees, links, op_before, gens, rows_of, branches, lets, generator, nothing}
use Rattle.mz_tree.specs.Items.{ItemTree, assign, solve, satisfy}
use Rattle.mz_grammar.specs.Look.{keyword_number, symbol_number}
use Rattle.mz_grammar.specs.Rules.{syntax, left_out, too_deep}
use Rattle.mz_grammar.specs.RulesReading.{Read, stuck, step, read_by}
use Rattle.mz_grammar.specs.Parts as parts
use Rattle.mz_grammar.specs.Model.{rule}
use Rattle.mz_grammar.specs.Reading.{reads, rank, operand_rank}

abbrev column : ℕ → Span
column n = record { file = 0; line = 1; col = n; byte = n }

abbrev placed : ℕ → List Tok → List Token
placed n [] = []
placed n (t ∷ ts) = record { tok = t; span = column n; len = 1 } ∷ placed (suc n) ts

abbrev expression : List Tok → Read Tree
expression ts = reads parts.expr 120 (placed 1 ts)

abbrev items : List Tok → Read (List ItemTree)
items ts = reads parts.file 120 (placed 1 ts)

-- names: 0 is a, 1 is b, 2 is c, 5 is f, 8 is i
abbrev name : Name → ℕ → Tree
name x n = node (column n) (ident x)

abbrev number : ℕ → ℕ → Tree
number k n = node (column n) (int (pos k))

abbrev an_int : ℕ → Tok
an_int k = Int (pos k)

abbrev linked : BinOp → Tree → PlacedOp × Tree
linked o (node s f) = (op_before o s, node s f)

abbrev two : ℕ → Tree → BinOp → Tree → Tree
two n x o y = node (column n) (chain x (links (linked o y ∷ [])))

-- a + b * c - 1
levels_and_chains : expression (Ident 0 ∷ Sym SPlus ∷ Ident 1 ∷ Sym SStar ∷ Ident 2 ∷ Sym SMinus ∷ an_int 1 ∷ [])
    ≡ Ok (node (column 1) (chain (name 0 1) (links (linked op.Add (two 3 (name 1 3) op.Mul (name 2 5)) ∷ linked op.Sub (number 1 7) ∷ []))), [])
unfolding read_by step rule rank operand_rank symbol_number keyword_number
levels_and_chains = refl

-- a < b < c: an expression ends before the second `<`
comparisons_in_a_row : expression (Ident 0 ∷ Sym SLt ∷ Ident 1 ∷ Sym SLt ∷ Ident 2 ∷ []) ≡ Ok (two 1 (name 0 1) op.Lt (name 1 3), placed 4 (Sym SLt ∷ Ident 2 ∷ []))
unfolding read_by step rule rank operand_rank symbol_number keyword_number
comparisons_in_a_row = refl

-- -a[1]: the access binds tighter than the prefix
prefix_and_access : expression (Sym SMinus ∷ Ident 0 ∷ Sym SLBrack ∷ an_int 1 ∷ Sym SRBrack ∷ []) ≡ Ok (node (column 1) (unary prefix.Minus (node (column 2) (access (name 0 2) (trees (number 1 4 ∷ []))))), [])
unfolding read_by step rule rank operand_rank symbol_number keyword_number
prefix_and_access = refl

-- a + let {} in a < b: the body is the longest possible
body_of_a_let : expression (Ident 0 ∷ Sym SPlus ∷ Word KLet ∷ Sym SLBrace ∷ Sym SRBrace ∷ Word KIn ∷ Ident 0 ∷ Sym SLt ∷ Ident 1 ∷ [])
    ≡ Ok (two 1 (name 0 1) op.Add (node (column 3) (let_in (lets []) (two 7 (name 0 7) op.Lt (name 1 9)))), [])
unfolding read_by step rule rank operand_rank symbol_number keyword_number
body_of_a_let = refl

-- if a then b endif
choice_without_else : expression (Word KIf ∷ Ident 0 ∷ Word KThen ∷ Ident 1 ∷ Word KEndif ∷ []) ≡ Ok (node (column 1) (choice (branches ((name 0 2, name 1 4) ∷ [])) nothing), [])
unfolding read_by step rule rank operand_rank symbol_number keyword_number
choice_without_else = refl

-- f(i in a,)(i)
call_with_a_generator : expression (Ident 5 ∷ Sym SLParen ∷ Ident 8 ∷ Word KIn ∷ Ident 0 ∷ Sym SComma ∷ Sym SRParen ∷ Sym SLParen ∷ Ident 8 ∷ Sym SRParen ∷ [])
    ≡ Ok (node (column 1) (gen_call 5 (gens (generator ((8, column 3) ∷ []) (name 0 5) nothing ∷ [])) (name 8 9)), [])
unfolding read_by step rule rank operand_rank symbol_number keyword_number
call_with_a_generator = refl

-- f((i in a))(i): what stands in parentheses is no generator, so nothing may be called again
parentheses_make_no_generator : expression (Ident 5 ∷ Sym SLParen ∷ Sym SLParen ∷ Ident 8 ∷ Word KIn ∷ Ident 0 ∷ Sym SRParen ∷ Sym SRParen ∷ Sym SLParen ∷ Ident 8 ∷ Sym SRParen ∷ [])
    ≡ stuck syntax (placed 9 (Sym SLParen ∷ Ident 8 ∷ Sym SRParen ∷ []))
unfolding read_by step rule rank operand_rank symbol_number keyword_number
parentheses_make_no_generator = refl

-- a :: f(1): annotations are read and dropped
annotation_behind_a_name : expression (Ident 0 ∷ Sym SColons ∷ Ident 5 ∷ Sym SLParen ∷ an_int 1 ∷ Sym SRParen ∷ []) ≡ Ok (name 0 1, [])
unfolding read_by step rule rank operand_rank symbol_number keyword_number
annotation_behind_a_name = refl

-- [| 1, 2 | 3, 4 | |]
rows_of_an_array : expression (Sym SLRows ∷ an_int 1 ∷ Sym SComma ∷ an_int 2 ∷ Sym SBar ∷ an_int 3 ∷ Sym SComma ∷ an_int 4 ∷ Sym SBar ∷ Sym SRRows ∷ [])
    ≡ Ok (node (column 1) (rows (rows_of ((number 1 2 ∷ number 2 4 ∷ []) ∷ (number 3 6 ∷ number 4 8 ∷ []) ∷ []))), [])
unfolding read_by step rule rank operand_rank symbol_number keyword_number
rows_of_an_array = refl

-- [1: 2] is left out, at the colon
indexed_elements : expression (Sym SLBrack ∷ an_int 1 ∷ Sym SColon ∷ an_int 2 ∷ Sym SRBrack ∷ []) ≡ stuck left_out (placed 3 (Sym SColon ∷ an_int 2 ∷ Sym SRBrack ∷ []))
unfolding read_by step rule rank operand_rank symbol_number keyword_number
indexed_elements = refl

-- ((1)), where one token may be open
one_open_token : reads parts.expr 1 (placed 1 (Sym SLParen ∷ Sym SLParen ∷ an_int 1 ∷ Sym SRParen ∷ Sym SRParen ∷ [])) ≡ stuck too_deep (placed 2 (Sym SLParen ∷ an_int 1 ∷ Sym SRParen ∷ Sym SRParen ∷ []))
unfolding read_by step rule rank operand_rank symbol_number keyword_number
one_open_token = refl

-- a = 3; solve satisfy;
two_items : items (Ident 0 ∷ Sym SEq ∷ an_int 3 ∷ Sym SSemi ∷ Word KSolve ∷ Word KSatisfy ∷ Sym SSemi ∷ []) ≡ Ok (assign 0 (column 1) (number 3 3) ∷ solve (column 5) satisfy ∷ [], [])
unfolding read_by step rule rank operand_rank symbol_number keyword_number
two_items = refl

-- constraint 1 < 2 < 3: no file goes on with the second `<`
fault_at_the_second_comparison : items (Word KConstraint ∷ an_int 1 ∷ Sym SLt ∷ an_int 2 ∷ Sym SLt ∷ an_int 3 ∷ []) ≡ stuck syntax (placed 5 (Sym SLt ∷ an_int 3 ∷ []))
unfolding read_by step rule rank operand_rank symbol_number keyword_number
fault_at_the_second_comparison = refl

-- constraint 1 <: the fault is the file's end
pub fault_at_the_end : items (Word KConstraint ∷ an_int 1 ∷ Sym SLt ∷ []) ≡ stuck syntax []
unfolding read_by step rule rank operand_rank symbol_number keyword_number
fault_at_the_end = refl
