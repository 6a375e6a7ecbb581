-- Before which tokens the parts of a model may end, which of them take a token, and what their values are fit for.
use Rattle.std.proofs.Common.{◌≡◌, List, [], ◌∷◌, ◌++◌, refl, ap, true, false, Bool, Option, ◌⊎◌, pos}
use Rattle.std.specs.Prelude.{Some, None}
use Rattle.mz_base.specs.declared.fault.Span.{Span}
use Rattle.mz_lexer.specs.declared.token.Token.{Token}
use Rattle.mz_lexer.specs.declared.token.Tok.{Tok}
use Rattle.mz_lexer.specs.declared.token.Tok.TheVariants.{Word, Sym, Ident, Int, TextTail}
use Rattle.mz_base.specs.declared.keyword.Keyword.{Keyword}
use Rattle.mz_base.specs.declared.keyword.Keyword.TheVariants.{KWhere, KThen, KEndif, KSatisfy}
use Rattle.mz_lexer.specs.declared.token.Symbol.{Symbol}
use Rattle.mz_lexer.specs.declared.token.Symbol.TheVariants.{SLParen, SRParen, SLBrack, SRBrack, SRBrace, SComma, SColon, SColons, SEq, SConcat}
use Rattle.mz_grammar.specs.Rules.{give, refuse, leave_out, ahead}
use Rattle.mz_grammar.specs.Look.{is_sym, is_word, symbol_number, keyword_number}
use Rattle.mz_grammar.specs.RulesReading.{step}
use Rattle.mz_grammar.specs.Reading.{rank}
use Rattle.mz_grammar.proofs.Viable as ways
use Rattle.mz_grammar.proofs.Viable.{never, tokens}
use Rattle.mz_tree.specs.Tree.{Name}
use Rattle.mz_grammar.specs.declared.level.Level.{Level}
use Rattle.mz_grammar.specs.declared.list.Generators.{Generators}
use Rattle.mz_grammar.specs.declared.list.Generators.TheVariants.{Possible, AwaitingIn, Impossible}
use Rattle.mz_grammar.specs.declared.list.Closing.{Closing}
use Rattle.mz_grammar.specs.declared.list.Closing.TheVariants.{Paren, Bracket, Elements, Brace}
use Rattle.mz_grammar.specs.Operators.{operator_of, binary_of, if_level}
use Rattle.mz_grammar.specs.Parts
use Rattle.mz_grammar.specs.Parts.{Place, Value, Argument}
use Rattle.mz_grammar.specs.Arguments.{trees_of, generators_behind}
use Rattle.mz_grammar.specs.Tests.{ident_of, ends_row}
use Rattle.mz_grammar.specs.Model.{Ruled, rule, behind}

-- no token that goes on a name, brackets or an annotation
abbrev pub EndsAtom : Option Tok → Type 0
EndsAtom o = (is_sym SLParen o ≡ false) × (is_sym SLBrack o ≡ false) × (is_sym SColons o ≡ false)

-- no token that goes on an expression, a declaration or an item
abbrev pub EndsItem : Option Tok → Type 0
EndsItem o = EndsAtom o × (operator_of o ≡ None) × (is_word KWhere o ≡ false) × (is_sym SEq o ≡ false) × (is_sym SConcat o ≡ false)

-- a token that ends a row
abbrev pub EndsRow : Option Tok → Type 0
EndsRow o = EndsItem o × (ends_row o ≡ true) × (is_sym SComma o ≡ false)

-- no token that goes on a list of names
abbrev pub EndsNames : Option Tok → Type 0
EndsNames o = (is_sym SComma o ≡ false) × (ident_of o ≡ None)

-- the tokens before which a part may end, wherever it may end before any; a part that closes itself may before all
abbrev pub MayEndBefore : Place → Option Tok → Type 0
MayEndBefore Parts.file o = o ≡ None
MayEndBefore Parts.more_items o = o ≡ None
MayEndBefore Parts.item o = EndsItem o
MayEndBefore Parts.goal o = EndsItem o
MayEndBefore Parts.cases o = EndsItem o
MayEndBefore Parts.params o = EndsAtom o
MayEndBefore Parts.param o = EndsItem o
MayEndBefore Parts.declaration o = EndsItem o
MayEndBefore (Parts.declared t) o = EndsItem o
MayEndBefore Parts.value o = EndsItem o
MayEndBefore Parts.type o = EndsItem o
MayEndBefore Parts.element o = EndsItem o
MayEndBefore Parts.unmarked o = EndsItem o
MayEndBefore Parts.base o = EndsItem o
MayEndBefore Parts.expr o = EndsItem o
MayEndBefore (Parts.level l) o = EndsItem o
MayEndBefore (Parts.operand l) o = EndsItem o
MayEndBefore (Parts.operators l) o = EndsItem o
MayEndBefore (Parts.more_operators l done) o = EndsItem o
MayEndBefore Parts.unit o = EndsItem o
MayEndBefore Parts.atom o = EndsItem o
MayEndBefore (Parts.accesses x) o = EndsAtom o
MayEndBefore Parts.annotations o = EndsItem o
MayEndBefore Parts.marks o = EndsItem o
MayEndBefore Parts.head o = EndsItem o
MayEndBefore (Parts.named n s) o = EndsAtom o
MayEndBefore Parts.row o = EndsRow o
MayEndBefore Parts.cells o = EndsRow o
MayEndBefore Parts.generator o = EndsItem o
MayEndBefore Parts.more_names o = EndsNames o
MayEndBefore Parts.filter o = EndsItem o
MayEndBefore Parts.branch o = EndsItem o
MayEndBefore Parts.let_item o = EndsItem o
MayEndBefore _ o = Unit {0}

-- the parts that take a token at least
abbrev pub takes_token : Place → Bool
takes_token Parts.file = false
takes_token Parts.more_items = false
takes_token Parts.cases = false
takes_token Parts.params = false
takes_token Parts.value = false
takes_token (Parts.operators l) = false
takes_token (Parts.more_operators l done) = false
takes_token (Parts.accesses x) = false
takes_token Parts.annotations = false
takes_token Parts.marks = false
takes_token (Parts.named n s) = false
takes_token Parts.cells = false
takes_token Parts.more_names = false
takes_token Parts.filter = false
takes_token _ = true

abbrev pub Found : {A : Type 0} → Option A → Type 0
Found None = ⊥
Found (Some a) = Unit {0}

-- the arguments that are read are expressions, or generators, by what stands before them
abbrev pub Fit : Generators → List Argument → Type 0
Fit Impossible xs = Found (trees_of xs)
Fit Possible xs = Found (trees_of xs) ⊎ Found (generators_behind [] xs)
Fit AwaitingIn xs = Found (trees_of xs) ⊎ ((ns : List (Name × Span)) (n : Name × Span) → Found (generators_behind (ns ++ (n ∷ [])) xs))

abbrev pub IsUsable : (n : Place) → Value n → Type 0
IsUsable (Parts.arguments t) xs = Fit t xs
IsUsable _ x = Unit {0}

-- The parts that may end with the expression of a `let`: an `=` after it goes on that expression, if it may. So tokens more
-- are needed before the `=` of a function.
abbrev pub far : Place → Bool
far Parts.annotations = true
far Parts.head = true
far Parts.atom = true
far Parts.unit = true
far (Parts.operand l) = true
far (Parts.operators l) = true
far (Parts.more_operators l done) = true
far (Parts.level l) = true
far Parts.expr = true
far _ = false

abbrev pub made : Tok → Token
made t = record { tok = t; span = record { file = 0; line = 0; col = 0; byte = 0 }; len = 1 }

abbrev pub aim : Token
aim = made (Sym SEq)

abbrev pub TakesToken : {n : Place} → Ruled n → Type 0
TakesToken p = ways.TakesToken rule MayEndBefore takes_token IsUsable far aim p

abbrev pub CanComplete : {n : Place} → Ruled n → Type 0
CanComplete p = ways.CanComplete rule MayEndBefore takes_token IsUsable far aim p

abbrev pub After : (n m : Place) → (Value m → Ruled n) → Ruled n → Type 0
After n m f p = ways.After rule MayEndBefore takes_token IsUsable far aim n m f p

abbrev pub Completion : {n : Place} → Ruled n → Type 0
Completion p = ways.Completion rule p

abbrev pub Done : {n : Place} → Ruled n → List Token → Type 0
Done p more = ways.Done rule p more

-- what has to hold of each part
abbrev pub Facts : Place → Type 0
Facts n = ways.Facts rule MayEndBefore takes_token IsUsable far aim rank n

-- Tokens

abbrev pub sign : Symbol → Token
sign s = made (Sym s)

abbrev pub keyword : Keyword → Token
keyword k = made (Word k)

-- `0` and an identifier
abbrev pub a_number : Token
a_number = made (Int (pos 0))

abbrev pub an_identifier : Token
an_identifier = made (Ident 0)

abbrev pub closing : Closing → Token
closing Paren = sign SRParen
closing Bracket = sign SRBrack
closing Elements = sign SRBrack
closing Brace = sign SRBrace

-- What follows an element of a list

-- where a form is left out, or no token fits, there is no way on
pub no_way : {n : Place} {b : Option Tok → Bool} → CanComplete {n = n} (ahead b leave_out refuse)
no_way = (never tt, tt, never tt, tt)

pub done_behind : {n : Place} (c : Closing) (more : Ruled n) (x : Value n) → Done (behind c more (give x)) (closing c ∷ [])
unfolding step symbol_number
done_behind Paren more x = tt
done_behind Bracket more x = tt
done_behind Elements more x = tt
done_behind Brace more x = tt

-- Tokens before which an item may end

pub ends_item_end : EndsItem None
ends_item_end = ((refl, refl, refl), refl, refl, refl, refl)

pub ends_item_closing : (c : Closing) → EndsItem (Some (closing c).tok)
unfolding symbol_number
ends_item_closing Paren = ((refl, refl, refl), refl, refl, refl, refl)
ends_item_closing Bracket = ((refl, refl, refl), refl, refl, refl, refl)
ends_item_closing Elements = ((refl, refl, refl), refl, refl, refl, refl)
ends_item_closing Brace = ((refl, refl, refl), refl, refl, refl, refl)

pub no_operator : (l : Level) (o : Option Tok) → operator_of o ≡ None → binary_of l o ≡ None
no_operator l None e = refl
no_operator l (Some t) e = ap (if_level l) e

-- an element, and what follows it
pub after_element : (n m : Place) (f : Value m → Ruled n) (c : Closing) (more : Ruled n) (x : Value n) → MayEndBefore m (Some (closing c).tok) → After n m f (behind c more (give x))
after_element n m f c more x may_end = tokens (closing c ∷ []) (done_behind c more x) may_end (tt, tt)

pub plain_end : EndsAtom None
plain_end = (refl, refl, refl)

-- the tokens of a branch
pub ends_item_then : EndsItem (Some (Word KThen))
unfolding keyword_number
ends_item_then = ((refl, refl, refl), refl, refl, refl, refl)

pub ends_item_endif : EndsItem (Some (Word KEndif))
unfolding keyword_number
ends_item_endif = ((refl, refl, refl), refl, refl, refl, refl)

-- the last piece of a text
pub ends_item_tail : EndsItem (Some (TextTail 0))
ends_item_tail = ((refl, refl, refl), refl, refl, refl, refl)

pub ends_item_number : EndsItem (Some (Int (pos 0)))
ends_item_number = ((refl, refl, refl), refl, refl, refl, refl)

pub ends_item_colon : EndsItem (Some (Sym SColon))
unfolding symbol_number
ends_item_colon = ((refl, refl, refl), refl, refl, refl, refl)

pub plain_equals : EndsAtom (Some (Sym SEq))
unfolding symbol_number
plain_equals = (refl, refl, refl)

pub ends_item_satisfy : EndsItem (Some (Word KSatisfy))
unfolding keyword_number
ends_item_satisfy = ((refl, refl, refl), refl, refl, refl, refl)
