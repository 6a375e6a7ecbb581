-- Tests on one token that a rule of the model's grammar asks.
use Rattle.std.specs.Prelude.{ℤ, Bool, true, false, Option, Some, None, ◌||◌}
use Rattle.mz_lexer.specs.declared.token.Tok.{Tok}
use Rattle.mz_lexer.specs.declared.token.Tok.TheVariants.{Word, Sym, Ident, Int, Text, TextHead, TextMid, TextTail}
use Rattle.mz_base.specs.declared.keyword.Keyword.TheVariants.{KBool, KInt, KTrue, KFalse, KIf, KLet, KNot, KArray, KList, KVar, KPar, KOpt, KSet, KInclude, KConstraint, KSolve, KOutput, KPredicate, KTest, KFunction, KAnnotation, KEnum}
use Rattle.mz_lexer.specs.declared.token.Symbol.{Symbol}
use Rattle.mz_lexer.specs.declared.token.Symbol.TheVariants.{SLParen, SRParen, SLBrack, SRBrack, SLBrace, SRBrace, SLRows, SRRows, SBar, SColon, SPlus, SMinus, SAbsent}
use Rattle.mz_tree.specs.Tree.{Name}
use Rattle.mz_grammar.specs.declared.list.Closing.{Closing}
use Rattle.mz_grammar.specs.declared.list.Closing.TheVariants.{Paren, Bracket, Elements, Brace}
use Rattle.mz_grammar.specs.Tokens.{told}
use Rattle.mz_grammar.specs.Look.{is_sym, is_word}

-- the symbol that closes the list
abbrev pub closing_symbol : Closing → Symbol
closing_symbol Paren = SRParen
closing_symbol Bracket = SRBrack
closing_symbol Elements = SRBrack
closing_symbol Brace = SRBrace

-- the token that closes the list
abbrev pub closes : Closing → Option Tok → Bool
closes c o = is_sym (closing_symbol c) o

-- `:` after an element of an array literal is left out of the language
abbrev pub is_left_out : Closing → Option Tok → Bool
is_left_out Elements o = is_sym SColon o
is_left_out _ o = false

-- no token follows
abbrev pub is_end : Option Tok → Bool
is_end None = true
is_end (Some t) = false

-- an identifier, and the pieces of a text
abbrev pub ident_in : Tok → Option Name
ident_in (Ident n) = Some n
ident_in _ = None

abbrev pub text_in : Tok → Option Name
text_in (Text n) = Some n
text_in _ = None

abbrev pub middle_in : Tok → Option Name
middle_in (TextMid n) = Some n
middle_in _ = None

abbrev pub tail_in : Tok → Option Name
tail_in (TextTail n) = Some n
tail_in _ = None

abbrev pub ident_of : Option Tok → Option Name
ident_of o = told ident_in o

abbrev pub text_of : Option Tok → Option Name
text_of o = told text_in o

abbrev pub middle_of : Option Tok → Option Name
middle_of o = told middle_in o

abbrev pub tail_of : Option Tok → Option Name
tail_of o = told tail_in o

-- an identifier is the next token
abbrev pub is_identifier : Option Tok → Bool
is_identifier (Some (Ident n)) = true
is_identifier _ = false

-- `|` or `|]`: a row ends here
abbrev pub ends_row : Option Tok → Bool
ends_row tok = is_sym SBar tok || is_sym SRRows tok

-- what may begin an expression, and so an index type
abbrev pub begins_expression : Option Tok → Bool
begins_expression (Some (Int n)) = true
begins_expression (Some (Text n)) = true
begins_expression (Some (TextHead n)) = true
begins_expression (Some (Ident n)) = true
begins_expression (Some (Word KTrue)) = true
begins_expression (Some (Word KFalse)) = true
begins_expression (Some (Word KIf)) = true
begins_expression (Some (Word KLet)) = true
begins_expression (Some (Word KNot)) = true
begins_expression (Some (Sym SPlus)) = true
begins_expression (Some (Sym SMinus)) = true
begins_expression (Some (Sym SAbsent)) = true
begins_expression (Some (Sym SLParen)) = true
begins_expression (Some (Sym SLBrack)) = true
begins_expression (Some (Sym SLRows)) = true
begins_expression (Some (Sym SLBrace)) = true
begins_expression _ = false

abbrev pub begins_base : Option Tok → Bool
begins_base tok = is_word KBool tok || is_word KInt tok || begins_expression tok

-- a keyword with which a type begins
abbrev pub begins_type : Option Tok → Bool
begins_type (Some (Word KArray)) = true
begins_type (Some (Word KList)) = true
begins_type (Some (Word KVar)) = true
begins_type (Some (Word KPar)) = true
begins_type (Some (Word KOpt)) = true
begins_type (Some (Word KSet)) = true
begins_type (Some (Word KBool)) = true
begins_type (Some (Word KInt)) = true
begins_type _ = false

-- the items that begin with a keyword of their own
pub data ItemKind : Type 0 where
  -- "include" TEXT
  an_include : ItemKind
  -- "constraint" marks expr
  a_constraint : ItemKind
  -- "solve" marks ( "satisfy" | "minimize" expr | "maximize" expr )
  a_solve : ItemKind
  -- "output" marks expr
  an_output : ItemKind
  -- "predicate" IDENT [ params ] anns "=" expr: it gives a var bool
  a_predicate : ItemKind
  -- "test" IDENT [ params ] anns "=" expr: it gives a bool
  a_test : ItemKind
  -- "function" type ":" IDENT [ params ] anns "=" expr
  a_function : ItemKind
  -- "annotation" IDENT [ params ]
  an_annotation : ItemKind
  -- "enum" IDENT anns [ "=" "{" [ IDENT { "," IDENT } ] "}" ]
  an_enum : ItemKind

abbrev pub item_in : Tok → Option ItemKind
item_in (Word KInclude) = Some an_include
item_in (Word KConstraint) = Some a_constraint
item_in (Word KSolve) = Some a_solve
item_in (Word KOutput) = Some an_output
item_in (Word KPredicate) = Some a_predicate
item_in (Word KTest) = Some a_test
item_in (Word KFunction) = Some a_function
item_in (Word KAnnotation) = Some an_annotation
item_in (Word KEnum) = Some an_enum
item_in _ = None

abbrev pub item_of : Option Tok → Option ItemKind
item_of o = told item_in o

-- heads of one token, but for what follows a name
pub data Leaf : Type 0 where
  -- INT
  an_int : ℤ → Leaf
  -- TEXT
  a_text : Name → Leaf
  -- IDENT
  an_ident : Name → Leaf
  -- "true", "false"
  a_bool : Bool → Leaf
  -- "<>"
  an_absent : Leaf

abbrev pub leaf_in : Tok → Option Leaf
leaf_in (Int z) = Some (an_int z)
leaf_in (Text n) = Some (a_text n)
leaf_in (Ident n) = Some (an_ident n)
leaf_in (Word KTrue) = Some (a_bool true)
leaf_in (Word KFalse) = Some (a_bool false)
leaf_in (Sym SAbsent) = Some an_absent
leaf_in _ = None

-- what opens a head
pub data Opener : Type 0 where
  -- TEXTHEAD
  a_piece : Name → Opener
  -- "if"
  an_if : Opener
  -- "let"
  a_let : Opener
  -- "("
  a_paren : Opener
  -- "["
  a_bracket : Opener
  -- "[|"
  a_table : Opener
  -- "{"
  a_brace : Opener

abbrev pub opener_in : Tok → Option Opener
opener_in (TextHead n) = Some (a_piece n)
opener_in (Word KIf) = Some an_if
opener_in (Word KLet) = Some a_let
opener_in (Sym SLParen) = Some a_paren
opener_in (Sym SLBrack) = Some a_bracket
opener_in (Sym SLRows) = Some a_table
opener_in (Sym SLBrace) = Some a_brace
opener_in _ = None
