-- The grammar of data files: its parts, what each is read to, and one rule for each part, with its EBNF before it.
use Rattle.std.specs.Prelude.{ℕ, zero, suc, ℤ, pos, neg_ℤ, Bool, true, false, List, [], ◌∷◌, Option, Some, None, if◌then◌else◌, codes}
use Rattle.std.specs.Str.{bytes_eq}
use Rattle.mz_base.specs.Names.{text_of}
use Rattle.mz_base.specs.declared.fault.Span.{Span}
use Rattle.mz_lexer.specs.declared.token.Tok.{Tok}
use Rattle.mz_lexer.specs.declared.token.Tok.TheVariants.{Word, Ident, Int}
use Rattle.mz_base.specs.declared.keyword.Keyword.TheVariants.{KTrue, KFalse}
use Rattle.mz_lexer.specs.declared.token.Symbol.{Symbol}
use Rattle.mz_lexer.specs.declared.token.Symbol.TheVariants.{SLParen, SRParen, SLBrack, SRBrack, SLBrace, SRBrace, SLRows, SRRows, SBar, SComma, SSemi, SDots, SEq, SMinus, SAbsent}
use Rattle.mz_tree.specs.Tree.{Name}
use Rattle.mz_tree.specs.Data as pure
use Rattle.mz_tree.specs.Data.{Given, values, lines, is_name}
use Rattle.mz_grammar.specs.Tokens.{told}
use Rattle.mz_grammar.specs.Look.{is_sym, is_symbol}
use Rattle.mz_grammar.specs.Rules as rules
use Rattle.mz_grammar.specs.Rules.{keeps, opens, Rule, give, refuse, when, ahead, leave, part}
use Rattle.mz_grammar.specs.RulesReading.{Reader, read}
use Rattle.mz_grammar.specs.Tests.{ident_in, is_end, ends_row}

-- the number of dimensions that a text names, if it names an array with index sets
abbrev pub dimensions_in : List ℕ → Option ℕ
dimensions_in text =
    if bytes_eq text (codes "array1d") then Some 1 else
    (if bytes_eq text (codes "array2d") then Some 2 else
    (if bytes_eq text (codes "array3d") then Some 3 else
    (if bytes_eq text (codes "array4d") then Some 4 else
    (if bytes_eq text (codes "array5d") then Some 5 else
    (if bytes_eq text (codes "array6d") then Some 6 else None)))))

-- the number of dimensions that a name of a table means
unfoldable pub dimensions_of : List (List ℕ) → Name → Option ℕ
dimensions_of names n = dimensions_in (text_of names n)

-- what the names of a file's identifiers mean so
abbrev pub Dimensions : Type 0
Dimensions = Name → Option ℕ

-- the parts of a data file
pub data Place : Type 0 where
  file : Dimensions → Place
  item : Dimensions → Place
  datum : Dimensions → Place
  named : Option ℕ → Name → Place
  sized : ℕ → Place
  index_sets : ℕ → Place
  plains : Place
  rows : Place
  row : Place
  plain : Place
  range : pure.Value → Place
  set : Place
  bounds : Bool → pure.Value → Place
  ones : Place
  one : Place

-- a value, and the place of its first token
abbrev pub Placed : Type 0
Placed = Span × pure.Value

abbrev pub Value : Place → Type 0
Value (file d) = List Given
Value (item d) = Given
Value (datum d) = Placed
Value (named d n) = pure.Value
Value (sized d) = pure.Value
Value (index_sets d) = List pure.Value
Value plains = List pure.Value
Value rows = List (List pure.Value)
Value row = List pure.Value
Value plain = Placed
Value (range v) = pure.Value
Value set = pure.Value
Value (bounds free v) = pure.Value
Value ones = List pure.Value
Value one = Placed

-- The classes of tokens that tell something, and what they tell.
pub data Class : Type 0 where
  name_class : Class
  literal_class : Class
  number_class : Class

abbrev pub Told : Class → Type 0
Told name_class = Name
Told literal_class = pure.Value
Told number_class = ℤ

abbrev pub Ruled : Place → Type 0
Ruled n = Rule Value Told n

-- a symbol, and no other token
abbrev pub symbol : {n : Place} → Symbol → Ruled n → Ruled n
symbol s p = when keeps (is_symbol s) (λ at. p) refuse

abbrev pub opening : {n : Place} → Symbol → Ruled n → Ruled n
opening s p = when opens (is_symbol s) (λ at. p) refuse

-- a symbol; or else
abbrev pub on_symbol : {n : Place} → Symbol → (Span → Ruled n) → Ruled n → Ruled n
on_symbol s f q = when keeps (is_symbol s) f q

abbrev pub on_opening : {n : Place} → Symbol → (Span → Ruled n) → Ruled n → Ruled n
on_opening s f q = when opens (is_symbol s) f q

-- what follows an element of a list: the separator, and then perhaps more, or the closing symbol
abbrev pub behind_element : {n : Place} → Symbol → Symbol → Ruled n → Ruled n → Ruled n
behind_element separator closing more done = on_symbol separator (λ at. more) (symbol closing done)

-- Values

-- a value that is one token
abbrev pub literal_in : Tok → Option pure.Value
-- "true"
literal_in (Word KTrue) = Some (pure.bool true)
-- "false"
literal_in (Word KFalse) = Some (pure.bool false)
-- INT
literal_in (Int z) = Some (pure.int z)
-- IDENT
literal_in (Ident n) = Some (pure.ident n)
literal_in _ = None

abbrev pub literal_of : Option Tok → Option pure.Value
literal_of o = told literal_in o

-- the number that a "-" makes of an INT; an INT is never negative itself
abbrev pub negated_in : Tok → Option ℤ
negated_in (Int (pos n)) = Some (neg_ℤ (pos n))
negated_in _ = None

abbrev pub negated_of : Option Tok → Option ℤ
negated_of o = told negated_in o

-- one = "true" | "false" | [ "-" ] INT | IDENT
abbrev pub one_rule : Ruled one
one_rule = on_symbol SMinus (λ s. rules.named keeps number_class negated_in (λ z t. give (s, pure.int z)) refuse) (rules.named keeps literal_class literal_in (λ v s. give (s, v)) refuse)

-- what may follow a one, where it may be a value itself: [ ".." one ]
abbrev pub range_rule : (v : pure.Value) → Ruled (range v)
range_rule v = on_symbol SDots (λ d. part one λ w. give (pure.range v w.1)) (give v)

-- "{" [ one { "," one } ] "}", after the "{"
abbrev pub ones_rule : Ruled ones
ones_rule = on_symbol SRBrace (λ c. give []) (part one λ v. behind_element SComma SRBrace (part ones λ vs. give (v.1 ∷ vs)) (give (v.1 ∷ [])))

-- set = "{" [ one { "," one } ] "}" | one ".." one | IDENT
abbrev pub set_rule : Ruled set
set_rule = on_opening SLBrace (λ s. part ones λ vs. leave (give (pure.set (values vs)))) (part one λ v. part (bounds (is_name v.1) v.1) λ w. give w)

-- what follows the first one of a set; after an IDENT nothing need
abbrev pub bounds_rule : (free : Bool) (v : pure.Value) → Ruled (bounds free v)
bounds_rule true v = on_symbol SDots (λ d. part one λ w. give (pure.range v w.1)) (give v)
bounds_rule false v = on_symbol SDots (λ d. part one λ w. give (pure.range v w.1)) refuse

-- plain = one | set | "<>"
abbrev pub plain_rule : Ruled plain
plain_rule = on_opening SLBrace (λ s. part ones λ vs. leave (give (s, pure.set (values vs))))
    (on_symbol SAbsent (λ s. give (s, pure.absent))
    (part one λ v. part (range v.1) λ w. give (v.0, w)))

-- Lists

-- "[" [ plain { "," plain } ] "]", after the "["
abbrev pub plains_rule : Ruled plains
plains_rule = on_symbol SRBrack (λ c. give []) (part plain λ v. behind_element SComma SRBrack (part plains λ vs. give (v.1 ∷ vs)) (give (v.1 ∷ [])))

-- drow = plain { "," plain }, where a "," may stand at the end
abbrev pub row_rule : Ruled row
row_rule = part plain λ v. on_symbol SComma (λ c. ahead ends_row (give (v.1 ∷ [])) (part row λ vs. give (v.1 ∷ vs))) (give (v.1 ∷ []))

-- "[|" [ drow { "|" drow } [ "|" ] ] "|]", after the "[|"
abbrev pub rows_rule : Ruled rows
rows_rule = on_symbol SRRows (λ c. give []) (part row λ l. behind_element SBar SRRows (part rows λ ls. give (l ∷ ls)) (give (l ∷ [])))

-- set "," { set "," } [ "," ], with this many sets
abbrev pub index_sets_rule : (d : ℕ) → Ruled (index_sets d)
index_sets_rule zero = on_symbol SComma (λ c. give []) (give [])
index_sets_rule (suc d) = part set λ v. symbol SComma (part (index_sets d) λ vs. give (v ∷ vs))

-- ARRAYND "(" set { "," set } "," "[" [ plain { "," plain } ] "]" ")", after the "("
abbrev pub sized_rule : (d : ℕ) → Ruled (sized d)
sized_rule d = part (index_sets d) λ ss. opening SLBrack (part plains λ vs. leave (symbol SRParen (give (pure.array_nd (values ss) (values vs)))))

-- what follows a value's identifier, which may name a number of dimensions: the "(" of an ARRAYND, or nothing, or the ".." of a range
abbrev pub named_rule : (dimensions : Option ℕ) (n : Name) → Ruled (named dimensions n)
named_rule None n = ahead (is_sym SLParen) refuse (part (range (pure.ident n)) λ v. give v)
named_rule (Some d) n = on_opening SLParen (λ p. part (sized d) λ v. leave (give v)) (part (range (pure.ident n)) λ v. give v)

-- datum = plain | "[" .. "]" | "[|" .. "|]" | ARRAYND "(" .. ")"
abbrev pub datum_rule : (dimensions : Dimensions) → Ruled (datum dimensions)
datum_rule dimensions = on_opening SLBrack (λ s. part plains λ vs. leave (give (s, pure.array (values vs))))
    (on_opening SLRows (λ s. part rows λ ls. leave (give (s, pure.rows (lines ls))))
    (rules.named keeps name_class ident_in (λ n s. part (named (dimensions n) n) λ v. give (s, v))
    (part plain λ v. give v)))

-- IDENT "=" datum
abbrev pub item_rule : (dimensions : Dimensions) → Ruled (item dimensions)
item_rule dimensions = rules.named keeps name_class ident_in (λ n s. symbol SEq (part (datum dimensions) λ v. give (record { name = n; span = s; at = v.0; value = v.1 }))) refuse

-- data = [ IDENT "=" datum { ";" IDENT "=" datum } [ ";" ] ]
abbrev pub file_rule : (dimensions : Dimensions) → Ruled (file dimensions)
file_rule dimensions = ahead is_end (give []) (part (item dimensions) λ i. ahead is_end (give (i ∷ [])) (symbol SSemi (part (file dimensions) λ is. give (i ∷ is))))

unfoldable pub rule : (n : Place) → Ruled n
rule (file d) = file_rule d
rule (item d) = item_rule d
rule (datum d) = datum_rule d
rule (named d n) = named_rule d n
rule (sized n) = sized_rule n
rule (index_sets n) = index_sets_rule n
rule plains = plains_rule
rule rows = rows_rule
rule row = row_rule
rule plain = plain_rule
rule (range v) = range_rule v
rule set = set_rule
rule (bounds free v) = bounds_rule free v
rule ones = ones_rule
rule one = one_rule

-- The rank of a part is above the ranks of those with which it may begin.
unfoldable pub rank : Place → ℕ
rank (file d) = 1
rank (datum d) = 2
rank (named d n) = 1
rank (sized d) = 3
rank (index_sets d) = 2
rank plains = 2
rank rows = 3
rank row = 2
rank plain = 1
rank set = 1
rank ones = 1
rank _ = 0

abbrev pub width : ℕ
width = 4

-- what the grammar reads at the beginning of a list of tokens
unfoldable pub reads : (n : Place) → ℕ → Reader (Value n)
reads n room ts = read rule rank width n room ts
