-- Worked examples of models where the rules are hardest, from their tokens.
use Rattle.std.proofs.Common.{◌≡◌, ℕ, suc, List, [], ◌∷◌, ◌++◌, refl, false}
use Rattle.std.specs.Prelude.{Ok, pos}
use Rattle.mz_base.specs.declared.fault.Span.{Span}
use Rattle.mz_base.specs.declared.keyword.Keyword.TheVariants.{KArray, KConstraint, KEnum, KIn, KInt, KLet, KOf, KOpt, KSet, KWhere}
use Rattle.mz_lexer.specs.declared.token.Token.{Token}
use Rattle.mz_lexer.specs.declared.token.Tok.{Tok}
use Rattle.mz_lexer.specs.declared.token.Tok.TheVariants.{Word, Sym, Ident, Int, TextHead, TextTail}
use Rattle.mz_lexer.specs.declared.token.Symbol.TheVariants.{SLParen, SRParen, SLBrack, SRBrack, SLBrace, SRBrace, SLRows, SRRows, SBar, SComma, SColon, SColons, SDots, SEq, SPlus, SMinus, SConcat}
use Rattle.mz_tree.specs.Tree.{Name, Tree, node, ident, gen_call, let_in, lets, gens, generator, nothing, written, array_of, bases, base_int, declaration}
use Rattle.mz_tree.specs.Items.{ItemTree, constraint, declare}
use Rattle.mz_grammar.specs.Look.{keyword_number, symbol_number}
use Rattle.mz_grammar.specs.Rules.{syntax, left_out, too_deep}
use Rattle.mz_grammar.specs.RulesReading.{Read, stuck, step, read_by}
use Rattle.mz_grammar.specs.Parts as parts
use Rattle.mz_grammar.specs.Model.{rule}
use Rattle.mz_grammar.specs.Reading.{reads, rank, operand_rank}

abbrev column : ℕ → Span
column n = record { file = 0; line = 1; col = n; byte = n }

abbrev placed : ℕ → List Tok → List Token
placed n [] = []
placed n (t ∷ ts) = record { tok = t; span = column n; len = 1 } ∷ placed (suc n) ts

-- where this many tokens may be open at once
abbrev within : ℕ → List Tok → Read Tree
within room ts = reads parts.expr room (placed 1 ts)

abbrev expression : List Tok → Read Tree
expression ts = within 120 ts

abbrev items : List Tok → Read (List ItemTree)
items ts = reads parts.file 120 (placed 1 ts)

-- names: 0 is a, 1 is b, 5 is f, 8 is i, 9 is E
abbrev name : Name → ℕ → Tree
name x n = node (column n) (ident x)

abbrev a_number : Tok
a_number = Int (pos 1)

-- `int, ` five times
abbrev five : List Tok
five = Word KInt ∷ Sym SComma ∷ Word KInt ∷ Sym SComma ∷ Word KInt ∷ Sym SComma ∷ Word KInt ∷ Sym SComma ∷ Word KInt ∷ Sym SComma ∷ []

abbrev after_six : List Tok
after_six = Sym SRBrack ∷ Word KOf ∷ Word KInt ∷ Sym SColon ∷ Ident 0 ∷ []

abbrev six_of_int : ItemTree
six_of_int = declare (declaration (written (column 1) (array_of (bases (base_int ∷ base_int ∷ base_int ∷ base_int ∷ base_int ∷ base_int ∷ []))) false false false base_int) 0 (column 19) nothing)

-- The forms that are left out, each at its token
pub record LeftOut : Type 0 where
  -- (1, 1)
  pub tuple : expression (Sym SLParen ∷ a_number ∷ Sym SComma ∷ a_number ∷ Sym SRParen ∷ []) ≡ stuck left_out (placed 3 (Sym SComma ∷ a_number ∷ Sym SRParen ∷ []))
  -- [1: 1], and [1, 1: 1]
  pub indexed : expression (Sym SLBrack ∷ a_number ∷ Sym SColon ∷ a_number ∷ Sym SRBrack ∷ []) ≡ stuck left_out (placed 3 (Sym SColon ∷ a_number ∷ Sym SRBrack ∷ []))
  pub indexed_later : expression (Sym SLBrack ∷ a_number ∷ Sym SComma ∷ a_number ∷ Sym SColon ∷ a_number ∷ Sym SRBrack ∷ []) ≡ stuck left_out (placed 5 (Sym SColon ∷ a_number ∷ Sym SRBrack ∷ []))
  -- [| | 1 |]
  pub planes : expression (Sym SLRows ∷ Sym SBar ∷ a_number ∷ Sym SRRows ∷ []) ≡ stuck left_out (placed 2 (Sym SBar ∷ a_number ∷ Sym SRRows ∷ []))
  -- a[..], and a[1, ..]
  pub slice : expression (Ident 0 ∷ Sym SLBrack ∷ Sym SDots ∷ Sym SRBrack ∷ []) ≡ stuck left_out (placed 3 (Sym SDots ∷ Sym SRBrack ∷ []))
  pub later_slice : expression (Ident 0 ∷ Sym SLBrack ∷ a_number ∷ Sym SComma ∷ Sym SDots ∷ Sym SRBrack ∷ []) ≡ stuck left_out (placed 5 (Sym SDots ∷ Sym SRBrack ∷ []))
  -- enum E = {a} ++ .., enum E = {a} ( .., enum E = a
  pub more_cases : items (Word KEnum ∷ Ident 9 ∷ Sym SEq ∷ Sym SLBrace ∷ Ident 0 ∷ Sym SRBrace ∷ Sym SConcat ∷ []) ≡ stuck left_out (placed 7 (Sym SConcat ∷ []))
  pub case_of : items (Word KEnum ∷ Ident 9 ∷ Sym SEq ∷ Sym SLBrace ∷ Ident 0 ∷ Sym SRBrace ∷ Sym SLParen ∷ []) ≡ stuck left_out (placed 7 (Sym SLParen ∷ []))
  pub named_cases : items (Word KEnum ∷ Ident 9 ∷ Sym SEq ∷ Ident 0 ∷ []) ≡ stuck left_out (placed 4 (Ident 0 ∷ []))
  -- array[int, int, int, int, int, int, int] of int: a
  pub seventh : items (Word KArray ∷ Sym SLBrack ∷ five ++ (Word KInt ∷ Sym SComma ∷ Word KInt ∷ after_six)) ≡ stuck left_out (placed 15 (Word KInt ∷ after_six))
  -- opt set of int: a
  pub opt_set : items (Word KOpt ∷ Word KSet ∷ Word KOf ∷ Word KInt ∷ Sym SColon ∷ Ident 0 ∷ []) ≡ stuck left_out (placed 2 (Word KSet ∷ Word KOf ∷ Word KInt ∷ Sym SColon ∷ Ident 0 ∷ []))

left_out_forms : LeftOut
unfolding read_by step rule rank operand_rank symbol_number keyword_number
left_out_forms = record { tuple = refl; indexed = refl; indexed_later = refl; planes = refl; slice = refl; later_slice = refl; more_cases = refl; case_of = refl; named_cases = refl; seventh = refl; opt_set = refl }

-- What is open at once
pub record Open : Type 0 where
  -- (a[1]), where one token may be open
  pub access : within 1 (Sym SLParen ∷ Ident 0 ∷ Sym SLBrack ∷ a_number ∷ Sym SRBrack ∷ Sym SRParen ∷ []) ≡ stuck too_deep (placed 3 (Sym SLBrack ∷ a_number ∷ Sym SRBrack ∷ Sym SRParen ∷ []))
  -- a[1][1]: the first `[` is open up to the last `]`
  pub second_access : within 1 (Ident 0 ∷ Sym SLBrack ∷ a_number ∷ Sym SRBrack ∷ Sym SLBrack ∷ a_number ∷ Sym SRBrack ∷ []) ≡ stuck too_deep (placed 5 (Sym SLBrack ∷ a_number ∷ Sym SRBrack ∷ []))
  -- a[1] + a[1]: it is closed there
  pub access_again : within 1 (Ident 0 ∷ Sym SLBrack ∷ a_number ∷ Sym SRBrack ∷ Sym SPlus ∷ Sym SLBrack ∷ Sym SLBrack ∷ []) ≡ stuck too_deep (placed 7 (Sym SLBrack ∷ []))
  -- let {
  pub let_brace : within 1 (Word KLet ∷ Sym SLBrace ∷ []) ≡ stuck too_deep (placed 2 (Sym SLBrace ∷ []))
  -- let {} in (a): `let` is open up to the end of its body, the brace isn't
  pub body : within 2 (Word KLet ∷ Sym SLBrace ∷ Sym SRBrace ∷ Word KIn ∷ Sym SLParen ∷ Ident 0 ∷ Sym SRParen ∷ []) ≡ Ok (node (column 1) (let_in (lets []) (name 0 6)), [])
  pub deeper_body : within 2 (Word KLet ∷ Sym SLBrace ∷ Sym SRBrace ∷ Word KIn ∷ Sym SLParen ∷ Sym SLParen ∷ []) ≡ stuck too_deep (placed 6 (Sym SLParen ∷ []))
  -- - - a
  pub prefix : within 1 (Sym SMinus ∷ Sym SMinus ∷ Ident 0 ∷ []) ≡ stuck too_deep (placed 2 (Sym SMinus ∷ Ident 0 ∷ []))
  -- "..\((a))..", and what follows the text
  pub hole : within 1 (TextHead 0 ∷ Sym SLParen ∷ []) ≡ stuck too_deep (placed 2 (Sym SLParen ∷ []))
  pub after_hole : within 1 (TextHead 0 ∷ Ident 0 ∷ TextTail 0 ∷ Sym SConcat ∷ Sym SLParen ∷ Sym SLParen ∷ []) ≡ stuck too_deep (placed 6 (Sym SLParen ∷ []))

open_tokens : Open
unfolding read_by step rule rank operand_rank symbol_number keyword_number
open_tokens = record { access = refl; second_access = refl; access_again = refl; let_brace = refl; body = refl; deeper_body = refl; prefix = refl; hole = refl; after_hole = refl }

-- Calls, marks and types
pub record Calls : Type 0 where
  -- f(a)(b): a is no generator, so nothing may be called again
  pub called_twice : expression (Ident 5 ∷ Sym SLParen ∷ Ident 0 ∷ Sym SRParen ∷ Sym SLParen ∷ Ident 1 ∷ Sym SRParen ∷ []) ≡ stuck syntax (placed 5 (Sym SLParen ∷ Ident 1 ∷ Sym SRParen ∷ []))
  -- f(i in a where b): no expression follows
  pub no_body : expression (Ident 5 ∷ Sym SLParen ∷ Ident 8 ∷ Word KIn ∷ Ident 0 ∷ Word KWhere ∷ Ident 1 ∷ Sym SRParen ∷ []) ≡ stuck syntax []
  -- f(i, in a)(b): the names of a generator may end with a comma
  pub comma_before_in : expression (Ident 5 ∷ Sym SLParen ∷ Ident 8 ∷ Sym SComma ∷ Word KIn ∷ Ident 0 ∷ Sym SRParen ∷ Sym SLParen ∷ Ident 1 ∷ Sym SRParen ∷ [])
      ≡ Ok (node (column 1) (gen_call 5 (gens (generator ((8, column 3) ∷ []) (name 0 6) nothing ∷ [])) (name 1 9)), [])
  -- constraint :: f(1) a
  pub marks : items (Word KConstraint ∷ Sym SColons ∷ Ident 5 ∷ Sym SLParen ∷ a_number ∷ Sym SRParen ∷ Ident 0 ∷ []) ≡ Ok (constraint (name 0 7) ∷ [], [])
  -- array[int, int, int, int, int, int,] of int: a
  pub six_and_a_comma : items (Word KArray ∷ Sym SLBrack ∷ five ++ (Word KInt ∷ Sym SComma ∷ after_six)) ≡ Ok (six_of_int ∷ [], [])

calls : Calls
unfolding read_by step rule rank operand_rank symbol_number keyword_number
calls = record { called_twice = refl; no_body = refl; comma_before_in = refl; marks = refl; six_and_a_comma = refl }

pub hard_cases : LeftOut × Open × Calls
hard_cases = (left_out_forms, open_tokens, calls)
