-- The grammar of a model's files: one rule for each part, and one line for each alternative, with its EBNF before it.
use Rattle.std.specs.Prelude.{ℕ, zero, suc, Bool, true, false, List, [], ◌∷◌, map, Option, Some, None, if◌then◌else◌, ◌&&◌, ◌||◌}
use Rattle.mz_base.specs.declared.fault.Span.{Span}
use Rattle.mz_base.specs.declared.keyword.Keyword.{Keyword}
use Rattle.mz_base.specs.declared.keyword.Keyword.TheVariants.{KArray, KBool, KConstraint, KElse, KElseif, KEndif, KIn, KInt, KList, KMaximize, KMinimize, KOf, KOpt, KPar, KSatisfy, KSet, KThen, KVar, KWhere}
use Rattle.mz_lexer.specs.declared.token.Symbol.{Symbol}
use Rattle.mz_lexer.specs.declared.token.Symbol.TheVariants.{SLParen, SRParen, SLBrack, SRBrack, SLBrace, SRBrace, SRRows, SBar, SComma, SSemi, SColon, SColons, SDots, SEq, SConcat}
use Rattle.mz_tree.specs.Tree.{Name, Tree, Generator, Written, array_type, marked, node, int, bool, absent, text, interp, unary, call, gen_call, access, array, rows, set, array_comp, set_comp, choice, let_in, nothing, just, plain, shown, generator as a_generator, constrained, declaration as make_declaration, written, base_bool, base_int, base_of, no_array, trees, rows_of, branches as branch_list, parts, gens, lets}
use Rattle.mz_tree.specs.Tree as pure
use Rattle.mz_tree.specs.Items.{satisfy, minimize, maximize, include, declare, assign, constraint, solve, output, function, enum, annotation}
use Rattle.mz_grammar.specs.Look.{is_sym, is_word, is_symbol, is_keyword}
use Rattle.mz_grammar.specs.Rules.{keeps, opens, Rule, give, refuse, leave_out, when, named, ahead, leave, part}
use Rattle.mz_grammar.specs.declared.level.Level.{Level}
use Rattle.mz_grammar.specs.declared.level.Level.TheVariants as level_is
use Rattle.mz_grammar.specs.declared.list.Closing.{Closing}
use Rattle.mz_grammar.specs.declared.list.Closing.TheVariants.{Paren, Bracket, Elements, Brace}
use Rattle.mz_grammar.specs.declared.list.Generators.{Generators}
use Rattle.mz_grammar.specs.declared.list.Generators.TheVariants.{Possible}
use Rattle.mz_grammar.specs.Operators.{prefix_in, binary_in, is_nonassociative, tighter_level}
use Rattle.mz_grammar.specs.Parts
use Rattle.mz_grammar.specs.Parts.{Operand, name, other, at_of, tree_of, link_of, chained, Argument, unguarded, guarded, strict, Place, Value, name_class, prefix_class, operator_class, item_class, leaf_class, opener_class, Told}
use Rattle.mz_grammar.specs.Arguments.{possible_after, awaits_in, takes_where, trees_of, generators_of}
use Rattle.mz_grammar.specs.Tests.{closing_symbol, is_left_out, is_end, is_identifier, ident_in, text_in, middle_in, tail_in, ends_row, begins_base, begins_type, ItemKind, an_include, a_constraint, a_solve, an_output, a_predicate, a_test, a_function, an_annotation, an_enum, item_in, Leaf, an_int, a_text, an_ident, a_bool, an_absent, leaf_in, Opener, a_piece, an_if, a_let, a_paren, a_bracket, a_table, a_brace, opener_in}

abbrev pub Ruled : Place → Type 0
Ruled n = Rule Value Told n

-- a symbol or a keyword, and no other token
abbrev pub symbol : {n : Place} → Symbol → (Span → Ruled n) → Ruled n
symbol s f = when keeps (is_symbol s) f refuse

abbrev pub opening : {n : Place} → Symbol → (Span → Ruled n) → Ruled n
opening s f = when opens (is_symbol s) f refuse

abbrev pub word : {n : Place} → Keyword → (Span → Ruled n) → Ruled n
word k f = when keeps (is_keyword k) f refuse

abbrev pub identifier : {n : Place} → (Name → Span → Ruled n) → Ruled n
identifier f = named keeps name_class ident_in f refuse

-- a symbol or a keyword; or else
abbrev pub on_symbol : {n : Place} → Symbol → (Span → Ruled n) → Ruled n → Ruled n
on_symbol s f q = when keeps (is_symbol s) f q

abbrev pub on_word : {n : Place} → Keyword → (Span → Ruled n) → Ruled n → Ruled n
on_word k f q = when keeps (is_keyword k) f q

-- what follows an element of a list: a comma, and perhaps more, or the closing token
abbrev pub behind : {n : Place} → Closing → Ruled n → Ruled n → Ruled n
behind c more done = on_symbol SComma (λ s. more) (on_symbol (closing_symbol c) (λ s. done) (ahead (is_left_out c) leave_out refuse))

-- Expressions

-- expr = level 1, the loosest
-- a level = operand { operator operand }, or operand [ operator operand ] where it doesn't associate
abbrev pub operand_by : {l : Level} → Option Level → Ruled (Parts.operand l)
operand_by None = part Parts.unit λ x. give x
operand_by (Some k) = part (Parts.level k) λ x. give x

abbrev pub operand_rule : (l : Level) → Ruled (Parts.operand l)
operand_rule l = operand_by (tighter_level l)

abbrev pub operators_rule : (l : Level) → Ruled (Parts.operators l)
operators_rule l = named keeps operator_class (binary_in l) (λ op s. part (Parts.operand l) λ x. part (Parts.more_operators l (is_nonassociative l)) λ ls. give (link_of op x ∷ ls)) (give [])

abbrev pub more_operators_rule : (l : Level) (done : Bool) → Ruled (Parts.more_operators l done)
more_operators_rule l true = give []
more_operators_rule l false = part (Parts.operators l) λ ls. give ls

-- a unit = atom | ( "not" | "+" | "-" ) unit
abbrev pub unit_rule : Ruled Parts.unit
unit_rule = named opens prefix_class prefix_in (λ op s. part Parts.unit λ x. leave (give (other s (node s (unary op (tree_of x)))))) (part Parts.atom λ x. give x)

-- atom = head { "[" expr { "," expr } "]" } anns
-- An annotation keeps a name from being a generator's.
abbrev pub unless_annotated : Bool → Operand → Operand
unless_annotated annotated x = if annotated then other (at_of x) (tree_of x) else x

abbrev pub atom_rule : Ruled Parts.atom
atom_rule = part Parts.head λ h. part (Parts.accesses h) λ x. part Parts.annotations λ annotated. give (unless_annotated annotated x)

-- The `[` of an access stays open up to the last `]` of its atom.
abbrev pub accessed : Operand → List Tree → Operand
accessed x es = other (at_of x) (node (at_of x) (access (tree_of x) (trees es)))

abbrev pub accesses_rule : (x : Operand) → Ruled (Parts.accesses x)
accesses_rule x = when opens (is_symbol SLBrack) (λ s. part Parts.indices λ es. part (Parts.accesses (accessed x es)) λ y. leave (give y)) (give x)

-- `..` where an index begins is left out of the language.
abbrev pub indices_rule : Ruled Parts.indices
indices_rule = ahead (is_sym SDots) leave_out (part Parts.expr λ e. behind Bracket (part Parts.more_indices λ es. give (e ∷ es)) (give (e ∷ [])))

abbrev pub more_indices_rule : Ruled Parts.more_indices
more_indices_rule = on_symbol SRBrack (λ s. give []) (part Parts.indices λ es. give es)

-- anns = { "::" atom }
-- An atom ends with annotations itself, so these are all those in a row.
abbrev pub annotations_rule : Ruled Parts.annotations
annotations_rule = on_symbol SColons (λ s. part Parts.head λ h. part (Parts.accesses h) λ x. part Parts.annotations λ more. give true) (give false)

-- marks = { "::" head }
abbrev pub marks_rule : Ruled Parts.marks
marks_rule = on_symbol SColons (λ s. part Parts.head λ h. part Parts.marks λ more. give tt) (give tt)

-- Heads

abbrev pub leaf_head : Leaf → Span → Ruled Parts.head
-- INT
leaf_head (an_int z) s = give (other s (node s (int z)))
-- TEXT
leaf_head (a_text n) s = give (other s (node s (text n)))
-- IDENT, and calls
leaf_head (an_ident n) s = part (Parts.named n s) λ x. give x
-- "true" | "false"
leaf_head (a_bool b) s = give (other s (node s (bool b)))
-- "<>"
leaf_head an_absent s = give (other s (node s absent))

abbrev pub opened_head : Opener → Span → Ruled Parts.head
-- TEXTHEAD expr { TEXTMID expr } TEXTTAIL, where what opens stays open up to the closing piece
opened_head (a_piece n) s = part Parts.text_rest λ ps. leave (give (other s (node s (interp (parts (plain n ∷ ps))))))
-- "if" expr "then" expr { "elseif" expr "then" expr } [ "else" expr ] "endif"
opened_head an_if s = part Parts.branch λ b. part Parts.branches λ bs. leave (give (other s (node s (choice (branch_list (b ∷ bs.0)) bs.1))))
-- "let" "{" [ letitem { ("," | ";") letitem } [ "," | ";" ] ] "}" "in" expr
opened_head a_let s = opening SLBrace λ b. part Parts.let_items λ ls. leave (word KIn λ i. part Parts.expr λ e. leave (give (other s (node s (let_in (lets ls) e)))))
-- "(" expr ")", where a "," after the expression is left out of the language
opened_head a_paren s = part Parts.expr λ e. on_symbol SRParen (λ c. leave (give (other s e))) (ahead (is_sym SComma) leave_out refuse)
-- "[" [ expr { "," expr } ] "]" | "[" expr "|" gens "]"
opened_head a_bracket s = part Parts.array_body λ f. leave (give (other s (node s f)))
-- "[|" [ row { "|" row } [ "|" ] ] "|]"
opened_head a_table s = part Parts.rows_body λ rs. leave (give (other s (node s (rows (rows_of rs)))))
-- "{" [ expr { "," expr } ] "}" | "{" expr "|" gens "}"
opened_head a_brace s = part Parts.set_body λ f. leave (give (other s (node s f)))

abbrev pub head_rule : Ruled Parts.head
head_rule = named keeps leaf_class leaf_in leaf_head (named opens opener_class opener_in opened_head refuse)

-- IDENT
-- IDENT "(" [ expr { "," expr } ] ")"
abbrev pub plain_call : (n : Name) (s : Span) → Option (List Tree) → Ruled (Parts.named n s)
plain_call n s None = refuse
plain_call n s (Some es) = give (other s (node s (call n (trees es))))

-- IDENT "(" gens ")" "(" expr ")": a call that a "(" follows, whose arguments are generators
abbrev pub called : (n : Name) (s : Span) → Option (List Tree) → Option (List Generator) → Ruled (Parts.named n s)
called n s es None = ahead (is_sym SLParen) refuse (plain_call n s es)
called n s es (Some gs) = when opens (is_symbol SLParen) (λ p. part Parts.expr λ e. symbol SRParen λ c. leave (give (other s (node s (gen_call n (gens gs) e))))) (plain_call n s es)

abbrev pub named_rule : (n : Name) (s : Span) → Ruled (Parts.named n s)
named_rule n s = when opens (is_symbol SLParen) (λ p. part (Parts.arguments Possible) λ xs. leave (called n s (trees_of xs) (generators_of xs))) (give (name n s))

-- what stands between the parentheses of a call, and the closing one
abbrev pub guarded_rest : {t : Generators} → Argument → Ruled (Parts.arguments t)
guarded_rest x = behind Paren (part (Parts.generators Paren) λ gs. give (x ∷ map strict gs)) (give (x ∷ []))

-- a set with its `in`, where the names before it wait for one
abbrev pub set_argument : {t : Generators} → Ruled (Parts.arguments t)
set_argument = part (Parts.level level_is.Union) λ x. part Parts.filter λ w. guarded_rest (strict (a_generator [] (tree_of x) w))

-- an expression, with its `where` if it has one
abbrev pub expr_argument : (t : Generators) → Ruled (Parts.arguments t)
expr_argument t = part (Parts.level level_is.Iff) λ x. when keeps (λ k. takes_where t x && is_keyword KWhere k)
    (λ s. part Parts.expr λ w. guarded_rest (guarded x w))
    (behind Paren (part (Parts.arguments (possible_after t x)) λ xs. give (unguarded x ∷ xs)) (give (unguarded x ∷ [])))

abbrev pub arguments_rule : (t : Generators) → Ruled (Parts.arguments t)
arguments_rule t = on_symbol SRParen (λ s. give [])
    (when keeps (λ k. awaits_in t && is_keyword KIn k) (λ s. set_argument)
    (expr_argument t))

-- what follows a text's first piece
abbrev pub text_rest_rule : Ruled Parts.text_rest
text_rest_rule = part Parts.expr λ e. named keeps name_class middle_in (λ n s. part Parts.text_rest λ ps. give (shown e ∷ (plain n ∷ ps)))
    (named keeps name_class tail_in (λ n s. give (shown e ∷ (plain n ∷ []))) refuse)

-- Lists

abbrev pub elements_rule : (c : Closing) → Ruled (Parts.elements c)
elements_rule c = on_symbol (closing_symbol c) (λ s. give []) (part Parts.expr λ e. behind c (part (Parts.elements c) λ es. give (e ∷ es)) (give (e ∷ [])))

abbrev pub array_body_rule : Ruled Parts.array_body
array_body_rule = on_symbol SRBrack (λ s. give (array (trees []))) (part Parts.expr λ e. on_symbol SBar
    (λ s. part Parts.generator λ g. behind Bracket (part (Parts.generators Bracket) λ gs. give (array_comp e (gens (g ∷ gs)))) (give (array_comp e (gens (g ∷ [])))))
    (behind Elements (part (Parts.elements Elements) λ es. give (array (trees (e ∷ es)))) (give (array (trees (e ∷ []))))))

abbrev pub set_body_rule : Ruled Parts.set_body
set_body_rule = on_symbol SRBrace (λ s. give (set (trees []))) (part Parts.expr λ e. on_symbol SBar
    (λ s. part Parts.generator λ g. behind Brace (part (Parts.generators Brace) λ gs. give (set_comp e (gens (g ∷ gs)))) (give (set_comp e (gens (g ∷ [])))))
    (behind Brace (part (Parts.elements Brace) λ es. give (set (trees (e ∷ es)))) (give (set (trees (e ∷ []))))))

-- A "|" directly after the "[|" is left out of the language.
abbrev pub rows_body_rule : Ruled Parts.rows_body
rows_body_rule = on_symbol SRRows (λ s. give []) (ahead (is_sym SBar) leave_out (part Parts.row λ r. part Parts.more_rows λ rs. give (r ∷ rs)))

abbrev pub more_rows_rule : Ruled Parts.more_rows
more_rows_rule = on_symbol SRRows (λ s. give [])
    (symbol SBar λ s. on_symbol SRRows (λ c. give []) (part Parts.row λ r. part Parts.more_rows λ rs. give (r ∷ rs)))

-- row = expr { "," expr }
abbrev pub row_rule : Ruled Parts.row
row_rule = part Parts.expr λ e. part Parts.cells λ es. give (e ∷ es)

abbrev pub cells_rule : Ruled Parts.cells
cells_rule = on_symbol SComma (λ s. ahead ends_row (give []) (part Parts.expr λ e. part Parts.cells λ es. give (e ∷ es))) (give [])

-- gens = gen { "," gen }
-- gen = IDENT { "," IDENT } "in" expr of level 7 or tighter [ "where" expr ]
abbrev pub generator_rule : Ruled Parts.generator
generator_rule = identifier λ n s. part Parts.more_names λ ns. word KIn λ i. part (Parts.level level_is.Union) λ x. part Parts.filter λ w. give (a_generator ((n, s) ∷ ns) (tree_of x) w)

abbrev pub more_names_rule : Ruled Parts.more_names
more_names_rule = on_symbol SComma (λ c. named keeps name_class ident_in (λ n s. part Parts.more_names λ ns. give ((n, s) ∷ ns)) (give [])) (give [])

abbrev pub filter_rule : Ruled Parts.filter
filter_rule = on_word KWhere (λ s. part Parts.expr λ e. give (just e)) (give nothing)

abbrev pub generators_rule : (c : Closing) → Ruled (Parts.generators c)
generators_rule c = on_symbol (closing_symbol c) (λ s. give []) (part Parts.generator λ g. behind c (part (Parts.generators c) λ gs. give (g ∷ gs)) (give (g ∷ [])))

-- The parts of `if` and `let`

abbrev pub branch_rule : Ruled Parts.branch
branch_rule = part Parts.expr λ c. word KThen λ t. part Parts.expr λ e. give (c, e)

abbrev pub branches_rule : Ruled Parts.branches
branches_rule = on_word KElseif (λ s. part Parts.branch λ b. part Parts.branches λ bs. give (b ∷ bs.0, bs.1))
    (on_word KElse (λ s. part Parts.expr λ e. word KEndif λ t. give ([], just e))
    (word KEndif λ s. give ([], nothing)))

abbrev pub let_items_rule : Ruled Parts.let_items
let_items_rule = on_symbol SRBrace (λ s. give [])
    (part Parts.let_item λ l. when keeps (λ k. is_symbol SComma k || is_symbol SSemi k) (λ s. part Parts.let_items λ ls. give (l ∷ ls)) (symbol SRBrace λ s. give (l ∷ [])))

-- letitem = decl | "constraint" marks expr
abbrev pub let_item_rule : Ruled Parts.let_item
let_item_rule = on_word KConstraint (λ s. part Parts.marks λ m. part Parts.expr λ e. give (constrained e)) (part Parts.declaration λ d. give (pure.declared d))

-- Declarations and types

-- decl = type ":" IDENT anns [ "=" expr ]
abbrev pub declaration_rule : Ruled Parts.declaration
declaration_rule = part Parts.type λ t. part (Parts.declared t) λ d. give d

abbrev pub declared_rule : (t : Written) → Ruled (Parts.declared t)
declared_rule t = symbol SColon λ c. identifier λ n s. part Parts.annotations λ m. part Parts.value λ v. give (make_declaration t n s v)

abbrev pub value_rule : Ruled Parts.value
value_rule = on_symbol SEq (λ s. part Parts.expr λ e. give (just e)) (give nothing)

-- type = [ "array" "[" base { "," base } "]" "of" | "list" "of" ] elem
-- `list of` means `array[int] of`
abbrev pub type_rule : Ruled Parts.type
type_rule = on_word KArray (λ s. opening SLBrack λ b. ahead (is_sym SRBrack) refuse (part (Parts.index_types 6) λ bs. leave (word KOf λ f. part Parts.element λ t. give (array_type s bs t))))
    (on_word KList (λ s. word KOf λ f. part Parts.element λ t. give (array_type s (base_int ∷ []) t))
    (part Parts.element λ t. give t))

-- an array type has at most six index types: the index of a seventh dimension is left out of the language
abbrev pub index_types_rule : (n : ℕ) → Ruled (Parts.index_types n)
index_types_rule zero = on_symbol SRBrack (λ s. give []) (ahead begins_base leave_out refuse)
index_types_rule (suc n) = on_symbol SRBrack (λ s. give []) (part Parts.base λ b. behind Bracket (part (Parts.index_types n) λ bs. give (b.1 ∷ bs)) (give (b.1 ∷ [])))

-- elem = [ "var" | "par" ] [ "opt" | "set" "of" ] base
abbrev pub element_rule : Ruled Parts.element
element_rule = on_word KVar (λ s. part Parts.unmarked λ t. give (marked s true t))
    (on_word KPar (λ s. part Parts.unmarked λ t. give (marked s false t))
    (part Parts.unmarked λ t. give t))

-- `set` after `opt` is left out of the language
abbrev pub unmarked_rule : Ruled Parts.unmarked
unmarked_rule = on_word KOpt (λ s. ahead (is_word KSet) leave_out (part Parts.base λ b. give (written s no_array false true false b.1)))
    (on_word KSet (λ s. word KOf λ f. part Parts.base λ b. give (written s no_array false false true b.1))
    (part Parts.base λ b. give (written b.0 no_array false false false b.1)))

-- base = "bool" | "int" | expr of level 7 or tighter
abbrev pub base_rule : Ruled Parts.base
base_rule = on_word KBool (λ s. give (s, base_bool))
    (on_word KInt (λ s. give (s, base_int))
    (part (Parts.level level_is.Union) λ x. give (at_of x, base_of (tree_of x))))

-- params = "(" [ type ":" IDENT anns { "," type ":" IDENT anns } ] ")"
abbrev pub params_rule : Ruled Parts.params
params_rule = when opens (is_symbol SLParen) (λ s. part Parts.param_list λ ds. leave (give ds)) (give [])

abbrev pub param_list_rule : Ruled Parts.param_list
param_list_rule = on_symbol SRParen (λ s. give []) (part Parts.param λ d. behind Paren (part Parts.param_list λ ds. give (d ∷ ds)) (give (d ∷ [])))

abbrev pub param_rule : Ruled Parts.param
param_rule = part Parts.type λ t. symbol SColon λ c. identifier λ n s. part Parts.annotations λ m. give (make_declaration t n s nothing)

-- Items

-- IDENT [ params ] anns "=" expr, after the type of what it gives
abbrev pub function_rule : Written → Ruled Parts.item
function_rule t = identifier λ n s. part Parts.params λ ds. part Parts.annotations λ m. symbol SEq λ q. part Parts.expr λ e. give (function (record { name = n; span = s; result = t; params = ds; body = e }))

-- decl, and IDENT "=" expr
abbrev pub by_type : Operand → Ruled Parts.item
by_type x = part (Parts.declared (written (at_of x) no_array false false false (base_of (tree_of x)))) λ d. give (declare d)

abbrev pub by_expression : Operand → Ruled Parts.item
by_expression (name n s) = on_symbol SEq (λ q. part Parts.expr λ e. give (assign n s e)) (by_type (name n s))
by_expression x = by_type x

abbrev pub other_item : Ruled Parts.item
other_item = ahead begins_type (part Parts.declaration λ d. give (declare d)) (part (Parts.level level_is.Union) λ x. by_expression x)

-- an item, after the keyword at that place
abbrev pub item_by : ItemKind → Span → Ruled Parts.item
item_by an_include i = named keeps name_class text_in (λ n s. give (include n s)) refuse
item_by a_constraint c = part Parts.marks λ m. part Parts.expr λ e. give (constraint e)
item_by a_solve s = part Parts.marks λ m. part Parts.goal λ g. give (solve s g)
item_by an_output o = part Parts.marks λ m. part Parts.expr λ e. give (output e)
item_by a_predicate s = function_rule (written s no_array true false false base_bool)
item_by a_test s = function_rule (written s no_array false false false base_bool)
item_by a_function f = part Parts.type λ t. symbol SColon λ c. function_rule t
item_by an_annotation a = identifier λ n s. part Parts.params λ ds. give (annotation n)
item_by an_enum w = identifier λ n s. part Parts.annotations λ m. part Parts.cases λ cs. give (enum n s cs)

abbrev pub item_rule : Ruled Parts.item
item_rule = named keeps item_class item_in item_by other_item

abbrev pub goal_rule : Ruled Parts.goal
goal_rule = on_word KSatisfy (λ s. give satisfy)
    (on_word KMinimize (λ s. part Parts.expr λ e. give (minimize e))
    (word KMaximize λ s. part Parts.expr λ e. give (maximize e)))

-- An identifier after the "=", and "++" or "(" after the "}", are left out of the language.
abbrev pub cases_rule : Ruled Parts.cases
cases_rule = on_symbol SEq
    (λ q. when opens (is_symbol SLBrace)
    (λ s. part Parts.case_names λ ns. leave (ahead (λ o. is_sym SConcat o || is_sym SLParen o) leave_out (give (Some ns))))
    (ahead is_identifier leave_out refuse))
    (give None)

abbrev pub case_names_rule : Ruled Parts.case_names
case_names_rule = on_symbol SRBrace (λ s. give []) (identifier λ n s. behind Brace (part Parts.case_names λ ns. give ((n, s) ∷ ns)) (give ((n, s) ∷ [])))

-- model = [ item { ";" item } [ ";" ] ]
abbrev pub file_rule : Ruled Parts.file
file_rule = ahead is_end (give []) (part Parts.item λ i. part Parts.more_items λ is. give (i ∷ is))

abbrev pub more_items_rule : Ruled Parts.more_items
more_items_rule = ahead is_end (give []) (symbol SSemi λ s. part Parts.file λ is. give is)

unfoldable pub rule : (n : Place) → Ruled n
rule Parts.file = file_rule
rule Parts.more_items = more_items_rule
rule Parts.item = item_rule
rule Parts.goal = goal_rule
rule Parts.cases = cases_rule
rule Parts.case_names = case_names_rule
rule Parts.params = params_rule
rule Parts.param_list = param_list_rule
rule Parts.param = param_rule
rule Parts.declaration = declaration_rule
rule (Parts.declared t) = declared_rule t
rule Parts.value = value_rule
rule Parts.type = type_rule
rule Parts.element = element_rule
rule Parts.unmarked = unmarked_rule
rule Parts.base = base_rule
rule (Parts.index_types n) = index_types_rule n
rule Parts.expr = part (Parts.level level_is.Iff) λ x. give (tree_of x)
rule (Parts.level l) = part (Parts.operand l) λ x. part (Parts.operators l) λ ls. give (chained x ls)
rule (Parts.operand l) = operand_rule l
rule (Parts.operators l) = operators_rule l
rule (Parts.more_operators l done) = more_operators_rule l done
rule Parts.unit = unit_rule
rule Parts.atom = atom_rule
rule (Parts.accesses x) = accesses_rule x
rule Parts.indices = indices_rule
rule Parts.more_indices = more_indices_rule
rule Parts.annotations = annotations_rule
rule Parts.marks = marks_rule
rule Parts.head = head_rule
rule (Parts.named n s) = named_rule n s
rule (Parts.arguments t) = arguments_rule t
rule Parts.text_rest = text_rest_rule
rule (Parts.elements c) = elements_rule c
rule Parts.array_body = array_body_rule
rule Parts.set_body = set_body_rule
rule Parts.rows_body = rows_body_rule
rule Parts.more_rows = more_rows_rule
rule Parts.row = row_rule
rule Parts.cells = cells_rule
rule Parts.generator = generator_rule
rule Parts.more_names = more_names_rule
rule Parts.filter = filter_rule
rule (Parts.generators c) = generators_rule c
rule Parts.branch = branch_rule
rule Parts.branches = branches_rule
rule Parts.let_items = let_items_rule
rule Parts.let_item = let_item_rule
