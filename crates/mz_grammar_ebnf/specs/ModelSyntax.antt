-- Models by the lines of their EBNF: a constructor for each alternative. It looks at no token ahead.
--
-- `Derives k p ts x us` says that ts begins with a p whose tree is x, that us is what follows, and that at most k tokens
-- are open at once in it. Each premise is a symbol of the alternative, from left to right. What is open: a bracket up to the
-- one that closes it, the `[` of an access up to the last `]` of its atom, a prefix operator up to the end of its operand,
-- `if` up to `endif`, `let` up to the end of its body, and the first piece of a text up to the last.
--
-- The body of a let is the longest: a term that ends with such a body has no access and no annotation after it, and no
-- operator but of a level that doesn't associate. Of what follows marks or annotations that end with such a body nothing is said.
use Rattle.std.specs.Prelude.{◌≡◌, ◌≤◌, ℕ, suc, true, false, List, [], ◌∷◌, Option, Some, None, length, ◌⊎◌}
use Rattle.mz_base.specs.declared.fault.Span.{Span}
use Rattle.mz_base.specs.declared.keyword.Keyword.TheVariants.{KAnnotation, KArray, KBool, KConstraint, KElse, KElseif, KEndif, KEnum, KFalse, KFunction, KIf, KIn, KInclude, KInt, KLet, KList, KMaximize, KMinimize, KOf, KOpt, KOutput, KPar, KPredicate, KSatisfy, KSet, KSolve, KTest, KThen, KTrue, KVar, KWhere}
use Rattle.mz_lexer.specs.declared.token.Token.{Token}
use Rattle.mz_lexer.specs.declared.token.Tok.{Tok}
use Rattle.mz_lexer.specs.declared.token.Tok.TheVariants.{Word, Sym, Ident, Int, Text, TextHead, TextMid, TextTail}
use Rattle.mz_lexer.specs.declared.token.Symbol.{Symbol}
use Rattle.mz_lexer.specs.declared.token.Symbol.TheVariants.{SLParen, SRParen, SLBrack, SRBrack, SLBrace, SRBrace, SLRows, SRRows, SBar, SComma, SSemi, SColon, SColons, SEq, SAbsent}
use Rattle.mz_tree.specs.declared.expr.UnOp.{UnOp}
use Rattle.mz_tree.specs.declared.expr.BinOp.{BinOp}
use Rattle.mz_tree.specs.declared.expr.PlacedOp.{PlacedOp}
use Rattle.mz_tree.specs.Tree as pure
use Rattle.mz_tree.specs.Tree.{Name, Tree, Maybe, Part, Generator, Let, Declaration, Written, Based, node, nothing, just, plain, shown, generator, written, no_array, base_bool, base_int, base_of, array_type, marked, trees, links, rows_of, branches, parts, gens, lets, op_before}
use Rattle.mz_tree.specs.Items as pure_item
use Rattle.mz_tree.specs.Items.{GoalTree, ItemTree}
use Rattle.mz_grammar.specs.Tokens.{place}
use Rattle.mz_grammar.specs.declared.level.Level.{Level}
use Rattle.mz_grammar.specs.declared.level.Level.TheVariants as level_is
use Rattle.mz_grammar.specs.Operators.{prefix_of, binary_of, is_nonassociative, tighter_level}
use Rattle.mz_grammar_ebnf.specs.Next.{Next}

-- the parts of an expression, from loose to tight: the terms of a level of operators, what stands between them, a term of
-- level 13, an atom, and its head
pub data Grade : Type 0 where
  level : Level → Grade
  operand : Level → Grade
  unit : Grade
  atom : Grade
  head : Grade

-- whether a term ends with the body of a let
pub data Ending : Type 0 where
  closed : Ending
  with_body : Ending

-- what the EBNF names, and its lists: x { s x } [ s ] and [ x { s x } [ s ] ]
pub data Phrase : Type 0 where
  item : Phrase
  goal : Phrase
  cases : Phrase
  decl : Phrase
  params : Phrase
  param : Phrase
  type : Phrase
  elem : Phrase
  unmarked : Phrase
  base : Phrase
  anns : Ending → Phrase
  marks : Phrase
  expr : Phrase
  -- expr of level 7 or tighter
  tight : Phrase
  term : Grade → Ending → Phrase
  -- { operator operand } of a level, one at least
  operators : Level → Ending → Phrase
  -- { "[" expr { "," expr } "]" }
  accesses : Phrase
  -- expr { TEXTMID expr } TEXTTAIL
  text_rest : Phrase
  -- expr "then" expr
  branch : Phrase
  -- { "elseif" expr "then" expr }
  elseifs : Phrase
  -- [ TOKEN expr ]
  perhaps : Tok → Phrase
  gen : Phrase
  let_item : Phrase
  let_items : Phrase
  name : Phrase
  list : Symbol → Phrase → Phrase
  optional : Symbol → Phrase → Phrase

abbrev pub Meaning : Phrase → Type 0
Meaning item = ItemTree
Meaning goal = GoalTree
Meaning cases = Option (List (Name × Span))
Meaning decl = Declaration
Meaning params = List Declaration
Meaning param = Declaration
Meaning type = Written
Meaning elem = Written
Meaning unmarked = Written
Meaning base = Based
Meaning (anns e) = Unit {0}
Meaning marks = Unit {0}
Meaning expr = Tree
Meaning tight = Tree
Meaning (term g e) = Tree
Meaning (operators l e) = List (PlacedOp × Tree)
Meaning accesses = List (List Tree)
Meaning text_rest = List Part
Meaning branch = Tree × Tree
Meaning elseifs = List (Tree × Tree)
Meaning (perhaps t) = Maybe
Meaning gen = Generator
Meaning let_item = Let
Meaning let_items = List Let
Meaning name = Name × Span
Meaning (list s p) = List (Meaning p)
Meaning (optional s p) = List (Meaning p)

-- the accesses to what stands at that place, the first one innermost
abbrev pub with_accesses : Span → Tree → List (List Tree) → Tree
with_accesses s e [] = e
with_accesses s e (es ∷ more) = with_accesses s (node s (pure.access e (trees es))) more

-- what stands between the items of a let
abbrev pub Separator : List Token → List Token → Type 0
Separator ts us = Next (Sym SComma) ts us ⊎ Next (Sym SSemi) ts us

pub data Derives : ℕ → (p : Phrase) → List Token → Meaning p → List Token → Type 0 where
  -- item = "include" TEXT | decl | IDENT "=" expr
  include_item : {k : ℕ} {ts us vs : List Token} (n : Name) → Next (Word KInclude) ts us → Next (Text n) us vs → Derives k item ts (pure_item.include n (place us)) vs
  decl_item : {k : ℕ} {ts us : List Token} {d : Declaration} → Derives k decl ts d us → Derives k item ts (pure_item.declare d) us
  assign_item : {k : ℕ} {ts us vs ws : List Token} {e : Tree} (n : Name) → Next (Ident n) ts us → Next (Sym SEq) us vs → Derives k expr vs e ws → Derives k item ts (pure_item.assign n (place ts) e) ws
  -- | "constraint" marks expr
  constraint_item : {k : ℕ} {ts us vs ws : List Token} {e : Tree} → Next (Word KConstraint) ts us → Derives k marks us tt vs → Derives k expr vs e ws → Derives k item ts (pure_item.constraint e) ws
  -- | "solve" marks ( "satisfy" | "minimize" expr | "maximize" expr )
  solve_item : {k : ℕ} {ts us vs ws : List Token} {g : GoalTree} → Next (Word KSolve) ts us → Derives k marks us tt vs → Derives k goal vs g ws → Derives k item ts (pure_item.solve (place ts) g) ws
  satisfy : {k : ℕ} {ts us : List Token} → Next (Word KSatisfy) ts us → Derives k goal ts pure_item.satisfy us
  minimize : {k : ℕ} {ts us vs : List Token} {e : Tree} → Next (Word KMinimize) ts us → Derives k expr us e vs → Derives k goal ts (pure_item.minimize e) vs
  maximize : {k : ℕ} {ts us vs : List Token} {e : Tree} → Next (Word KMaximize) ts us → Derives k expr us e vs → Derives k goal ts (pure_item.maximize e) vs
  -- | "output" marks expr
  output_item : {k : ℕ} {ts us vs ws : List Token} {e : Tree} → Next (Word KOutput) ts us → Derives k marks us tt vs → Derives k expr vs e ws → Derives k item ts (pure_item.output e) ws
  -- | ("predicate" | "test") IDENT [ params ] anns "=" expr: the first gives a var bool, the other a bool
  predicate_item : {k : ℕ} {f : Ending} {ts us vs ws xs ys zs : List Token} {ds : List Declaration} {e : Tree} (n : Name) → Next (Word KPredicate) ts us → Next (Ident n) us vs → Derives k params vs ds ws → Derives k (anns f) ws tt xs → Next (Sym SEq) xs ys → Derives k expr ys e zs
      → Derives k item ts (pure_item.function (record { name = n; span = place us; result = written (place ts) no_array true false false base_bool; params = ds; body = e })) zs
  test_item : {k : ℕ} {f : Ending} {ts us vs ws xs ys zs : List Token} {ds : List Declaration} {e : Tree} (n : Name) → Next (Word KTest) ts us → Next (Ident n) us vs → Derives k params vs ds ws → Derives k (anns f) ws tt xs → Next (Sym SEq) xs ys → Derives k expr ys e zs
      → Derives k item ts (pure_item.function (record { name = n; span = place us; result = written (place ts) no_array false false false base_bool; params = ds; body = e })) zs
  -- | "function" type ":" IDENT [ params ] anns "=" expr
  function_item : {k : ℕ} {f : Ending} {ts us vs ws xs ys zs hs bs : List Token} {t : Written} {ds : List Declaration} {e : Tree} (n : Name) → Next (Word KFunction) ts us → Derives k type us t vs → Next (Sym SColon) vs ws → Next (Ident n) ws xs → Derives k params xs ds ys → Derives k (anns f) ys tt zs → Next (Sym SEq) zs hs → Derives k expr hs e bs
      → Derives k item ts (pure_item.function (record { name = n; span = place ws; result = t; params = ds; body = e })) bs
  -- | "annotation" IDENT [ params ]
  annotation_item : {k : ℕ} {ts us vs ws : List Token} {ds : List Declaration} (n : Name) → Next (Word KAnnotation) ts us → Next (Ident n) us vs → Derives k params vs ds ws → Derives k item ts (pure_item.annotation n) ws
  -- | "enum" IDENT anns [ "=" "{" [ IDENT { "," IDENT } ] "}" ]
  enum_item : {k : ℕ} {f : Ending} {ts us vs ws xs : List Token} {cs : Option (List (Name × Span))} (n : Name) → Next (Word KEnum) ts us → Next (Ident n) us vs → Derives k (anns f) vs tt ws → Derives k cases ws cs xs → Derives k item ts (pure_item.enum n (place us) cs) xs
  no_cases : {k : ℕ} {ts : List Token} → Derives k cases ts None ts
  some_cases : {k : ℕ} {ts us vs ws xs : List Token} {ns : List (Name × Span)} → Next (Sym SEq) ts us → Next (Sym SLBrace) us vs → Derives k (optional SComma name) vs ns ws → Next (Sym SRBrace) ws xs → Derives (suc k) cases ts (Some ns) xs
  -- decl = type ":" IDENT anns [ "=" expr ]
  declares : {k : ℕ} {f : Ending} {ts us vs ws xs ys : List Token} {t : Written} {v : Maybe} (n : Name) → Derives k type ts t us → Next (Sym SColon) us vs → Next (Ident n) vs ws → Derives k (anns f) ws tt xs → Derives k (perhaps (Sym SEq)) xs v ys → Derives k decl ts (pure.declaration t n (place vs) v) ys
  -- params = "(" [ type ":" IDENT anns { "," type ":" IDENT anns } ] ")"
  no_params : {k : ℕ} {ts : List Token} → Derives k params ts [] ts
  some_params : {k : ℕ} {ts us vs ws : List Token} {ds : List Declaration} → Next (Sym SLParen) ts us → Derives k (optional SComma param) us ds vs → Next (Sym SRParen) vs ws → Derives (suc k) params ts ds ws
  a_param : {k : ℕ} {f : Ending} {ts us vs ws xs : List Token} {t : Written} (n : Name) → Derives k type ts t us → Next (Sym SColon) us vs → Next (Ident n) vs ws → Derives k (anns f) ws tt xs → Derives k param ts (pure.declaration t n (place vs) nothing) xs
  -- type = [ "array" "[" base { "," base } "]" "of" | "list" "of" ] elem, with at most six index types
  array_of : {k : ℕ} {ts us vs ws xs ys zs : List Token} {bs : List Based} {t : Written} → Next (Word KArray) ts us → Next (Sym SLBrack) us vs → Derives k (list SComma base) vs bs ws → length bs ≤ 6 → Next (Sym SRBrack) ws xs → Next (Word KOf) xs ys → Derives (suc k) elem ys t zs → Derives (suc k) type ts (array_type (place ts) bs t) zs
  list_of : {k : ℕ} {ts us vs ws : List Token} {t : Written} → Next (Word KList) ts us → Next (Word KOf) us vs → Derives k elem vs t ws → Derives k type ts (array_type (place ts) (base_int ∷ []) t) ws
  by_elem : {k : ℕ} {ts us : List Token} {t : Written} → Derives k elem ts t us → Derives k type ts t us
  -- elem = [ "var" | "par" ] [ "opt" | "set" "of" ] base
  var_of : {k : ℕ} {ts us vs : List Token} {t : Written} → Next (Word KVar) ts us → Derives k unmarked us t vs → Derives k elem ts (marked (place ts) true t) vs
  par_of : {k : ℕ} {ts us vs : List Token} {t : Written} → Next (Word KPar) ts us → Derives k unmarked us t vs → Derives k elem ts (marked (place ts) false t) vs
  by_unmarked : {k : ℕ} {ts us : List Token} {t : Written} → Derives k unmarked ts t us → Derives k elem ts t us
  opt_of : {k : ℕ} {ts us vs : List Token} {b : Based} → Next (Word KOpt) ts us → Derives k base us b vs → Derives k unmarked ts (written (place ts) no_array false true false b) vs
  set_of : {k : ℕ} {ts us vs ws : List Token} {b : Based} → Next (Word KSet) ts us → Next (Word KOf) us vs → Derives k base vs b ws → Derives k unmarked ts (written (place ts) no_array false false true b) ws
  by_base : {k : ℕ} {ts us : List Token} {b : Based} → Derives k base ts b us → Derives k unmarked ts (written (place ts) no_array false false false b) us
  -- base = "bool" | "int" | expr of level 7 or tighter
  bool_base : {k : ℕ} {ts us : List Token} → Next (Word KBool) ts us → Derives k base ts base_bool us
  int_base : {k : ℕ} {ts us : List Token} → Next (Word KInt) ts us → Derives k base ts base_int us
  tight_base : {k : ℕ} {ts us : List Token} {e : Tree} → Derives k tight ts e us → Derives k base ts (base_of e) us
  -- anns = { "::" atom }
  no_anns : {k : ℕ} {ts : List Token} → Derives k (anns closed) ts tt ts
  more_anns : {k : ℕ} {f : Ending} {ts us vs ws : List Token} {e : Tree} → Next (Sym SColons) ts us → Derives k (term atom closed) us e vs → Derives k (anns f) vs tt ws → Derives k (anns f) ts tt ws
  last_ann : {k : ℕ} {ts us vs : List Token} {e : Tree} → Next (Sym SColons) ts us → Derives k (term atom with_body) us e vs → Derives k (anns with_body) ts tt vs
  -- marks = { "::" head }
  no_marks : {k : ℕ} {ts : List Token} → Derives k marks ts tt ts
  more_marks : {k : ℕ} {f : Ending} {ts us vs ws : List Token} {e : Tree} → Next (Sym SColons) ts us → Derives k (term head f) us e vs → Derives k marks vs tt ws → Derives k marks ts tt ws
  -- expr = the terms of the loosest level
  by_level : {k : ℕ} {f : Ending} {ts us : List Token} {e : Tree} → Derives k (term (level level_is.Iff) f) ts e us → Derives k expr ts e us
  by_union : {k : ℕ} {f : Ending} {ts us : List Token} {e : Tree} → Derives k (term (level level_is.Union) f) ts e us → Derives k tight ts e us
  -- a level: operand { operator operand }, or operand [ operator operand ] where it doesn't associate
  alone : {k : ℕ} {f : Ending} {ts us : List Token} {e : Tree} (l : Level) → Derives k (term (operand l) f) ts e us → Derives k (term (level l) f) ts e us
  chained : {k : ℕ} {f : Ending} {ts us vs : List Token} {e : Tree} {ls : List (PlacedOp × Tree)} (l : Level) → is_nonassociative l ≡ false → Derives k (term (operand l) closed) ts e us → Derives k (operators l f) us ls vs → Derives k (term (level l) f) ts (node (place ts) (pure.chain e (links ls))) vs
  compared : {k : ℕ} {f g : Ending} {ts us vs ws : List Token} {x y : Tree} (l : Level) (t : Tok) (o : BinOp) → is_nonassociative l ≡ true → Derives k (term (operand l) g) ts x us → binary_of l (Some t) ≡ Some o → Next t us vs → Derives k (term (operand l) f) vs y ws → Derives k (term (level l) f) ts (node (place ts) (pure.chain x (links ((op_before o (place vs), y) ∷ [])))) ws
  last_operator : {k : ℕ} {f : Ending} {ts us vs : List Token} {e : Tree} (l : Level) (t : Tok) (o : BinOp) → binary_of l (Some t) ≡ Some o → Next t ts us → Derives k (term (operand l) f) us e vs → Derives k (operators l f) ts ((op_before o (place us), e) ∷ []) vs
  more_operators : {k : ℕ} {f : Ending} {ts us vs ws : List Token} {e : Tree} {ls : List (PlacedOp × Tree)} (l : Level) (t : Tok) (o : BinOp) → binary_of l (Some t) ≡ Some o → Next t ts us → Derives k (term (operand l) closed) us e vs → Derives k (operators l f) vs ls ws → Derives k (operators l f) ts ((op_before o (place us), e) ∷ ls) ws
  -- the operands of a level are the terms of the next tighter one, and at last those of level 13
  by_tighter : {k : ℕ} {f : Ending} {ts us : List Token} {e : Tree} (l m : Level) → tighter_level l ≡ Some m → Derives k (term (level m) f) ts e us → Derives k (term (operand l) f) ts e us
  by_unit : {k : ℕ} {f : Ending} {ts us : List Token} {e : Tree} (l : Level) → tighter_level l ≡ None → Derives k (term unit f) ts e us → Derives k (term (operand l) f) ts e us
  -- level 13: atom | ( "not" | "+" | "-" ) and what follows
  by_atom : {k : ℕ} {f : Ending} {ts us : List Token} {e : Tree} → Derives k (term atom f) ts e us → Derives k (term unit f) ts e us
  prefixed : {k : ℕ} {f : Ending} {ts us vs : List Token} {e : Tree} (t : Tok) (o : UnOp) → prefix_of (Some t) ≡ Some o → Next t ts us → Derives k (term unit f) us e vs → Derives (suc k) (term unit f) ts (node (place ts) (pure.unary o e)) vs
  -- atom = head { "[" expr { "," expr } "]" } anns
  an_atom : {k : ℕ} {f : Ending} {ts us vs ws : List Token} {e : Tree} {ess : List (List Tree)} → Derives k (term head closed) ts e us → Derives k accesses us ess vs → Derives k (anns f) vs tt ws → Derives k (term atom f) ts (with_accesses (place ts) e ess) ws
  a_let_atom : {k : ℕ} {ts us : List Token} {e : Tree} → Derives k (term head with_body) ts e us → Derives k (term atom with_body) ts e us
  no_access : {k : ℕ} {ts : List Token} → Derives k accesses ts [] ts
  more_accesses : {k : ℕ} {ts us vs ws xs : List Token} {es : List Tree} {ess : List (List Tree)} → Next (Sym SLBrack) ts us → Derives k (list SComma expr) us es vs → Next (Sym SRBrack) vs ws → Derives k accesses ws ess xs → Derives (suc k) accesses ts (es ∷ ess) xs
  -- head = "(" expr ")" | INT | "true" | "false" | "<>" | TEXT | IDENT
  in_parentheses : {k : ℕ} {ts us vs ws : List Token} {e : Tree} → Next (Sym SLParen) ts us → Derives k expr us e vs → Next (Sym SRParen) vs ws → Derives (suc k) (term head closed) ts e ws
  a_number : {k : ℕ} {ts us : List Token} (z : _) → Next (Int z) ts us → Derives k (term head closed) ts (node (place ts) (pure.int z)) us
  a_true : {k : ℕ} {ts us : List Token} → Next (Word KTrue) ts us → Derives k (term head closed) ts (node (place ts) (pure.bool true)) us
  a_false : {k : ℕ} {ts us : List Token} → Next (Word KFalse) ts us → Derives k (term head closed) ts (node (place ts) (pure.bool false)) us
  absent : {k : ℕ} {ts us : List Token} → Next (Sym SAbsent) ts us → Derives k (term head closed) ts (node (place ts) pure.absent) us
  a_text : {k : ℕ} {ts us : List Token} (n : Name) → Next (Text n) ts us → Derives k (term head closed) ts (node (place ts) (pure.text n)) us
  an_identifier : {k : ℕ} {ts us : List Token} (n : Name) → Next (Ident n) ts us → Derives k (term head closed) ts (node (place ts) (pure.ident n)) us
  -- | TEXTHEAD expr { TEXTMID expr } TEXTTAIL
  text_of_parts : {k : ℕ} {ts us vs : List Token} {ps : List Part} (n : Name) → Next (TextHead n) ts us → Derives k text_rest us ps vs → Derives (suc k) (term head closed) ts (node (place ts) (pure.interp (parts (plain n ∷ ps)))) vs
  last_part : {k : ℕ} {ts us vs : List Token} {e : Tree} (n : Name) → Derives k expr ts e us → Next (TextTail n) us vs → Derives k text_rest ts (shown e ∷ plain n ∷ []) vs
  more_parts : {k : ℕ} {ts us vs ws : List Token} {e : Tree} {ps : List Part} (n : Name) → Derives k expr ts e us → Next (TextMid n) us vs → Derives k text_rest vs ps ws → Derives k text_rest ts (shown e ∷ plain n ∷ ps) ws
  -- | IDENT "(" [ expr { "," expr } ] ")"
  a_call : {k : ℕ} {ts us vs ws xs : List Token} {es : List Tree} (n : Name) → Next (Ident n) ts us → Next (Sym SLParen) us vs → Derives k (optional SComma expr) vs es ws → Next (Sym SRParen) ws xs → Derives (suc k) (term head closed) ts (node (place ts) (pure.call n (trees es))) xs
  -- | IDENT "(" gens ")" "(" expr ")"
  a_generator_call : {k : ℕ} {ts us vs ws xs ys zs hs : List Token} {gs : List Generator} {e : Tree} (n : Name) → Next (Ident n) ts us → Next (Sym SLParen) us vs → Derives k (list SComma gen) vs gs ws → Next (Sym SRParen) ws xs → Next (Sym SLParen) xs ys → Derives k expr ys e zs → Next (Sym SRParen) zs hs
      → Derives (suc k) (term head closed) ts (node (place ts) (pure.gen_call n (gens gs) e)) hs
  -- | "[" [ expr { "," expr } ] "]" | "[" expr "|" gens "]"
  array : {k : ℕ} {ts us vs ws : List Token} {es : List Tree} → Next (Sym SLBrack) ts us → Derives k (optional SComma expr) us es vs → Next (Sym SRBrack) vs ws → Derives (suc k) (term head closed) ts (node (place ts) (pure.array (trees es))) ws
  array_of_each : {k : ℕ} {ts us vs ws xs ys : List Token} {e : Tree} {gs : List Generator} → Next (Sym SLBrack) ts us → Derives k expr us e vs → Next (Sym SBar) vs ws → Derives k (list SComma gen) ws gs xs → Next (Sym SRBrack) xs ys → Derives (suc k) (term head closed) ts (node (place ts) (pure.array_comp e (gens gs))) ys
  -- | "[|" [ row { "|" row } [ "|" ] ] "|]", where row = expr { "," expr }
  rows : {k : ℕ} {ts us vs ws : List Token} {rs : List (List Tree)} → Next (Sym SLRows) ts us → Derives k (optional SBar (list SComma expr)) us rs vs → Next (Sym SRRows) vs ws → Derives (suc k) (term head closed) ts (node (place ts) (pure.rows (rows_of rs))) ws
  -- | "{" [ expr { "," expr } ] "}" | "{" expr "|" gens "}"
  set : {k : ℕ} {ts us vs ws : List Token} {es : List Tree} → Next (Sym SLBrace) ts us → Derives k (optional SComma expr) us es vs → Next (Sym SRBrace) vs ws → Derives (suc k) (term head closed) ts (node (place ts) (pure.set (trees es))) ws
  set_of_each : {k : ℕ} {ts us vs ws xs ys : List Token} {e : Tree} {gs : List Generator} → Next (Sym SLBrace) ts us → Derives k expr us e vs → Next (Sym SBar) vs ws → Derives k (list SComma gen) ws gs xs → Next (Sym SRBrace) xs ys → Derives (suc k) (term head closed) ts (node (place ts) (pure.set_comp e (gens gs))) ys
  -- | "if" expr "then" expr { "elseif" expr "then" expr } [ "else" expr ] "endif"
  choice : {k : ℕ} {ts us vs ws xs ys : List Token} {b : Tree × Tree} {bs : List (Tree × Tree)} {e : Maybe} → Next (Word KIf) ts us → Derives k branch us b vs → Derives k elseifs vs bs ws → Derives k (perhaps (Word KElse)) ws e xs → Next (Word KEndif) xs ys → Derives (suc k) (term head closed) ts (node (place ts) (pure.choice (branches (b ∷ bs)) e)) ys
  a_branch : {k : ℕ} {ts us vs ws : List Token} {c e : Tree} → Derives k expr ts c us → Next (Word KThen) us vs → Derives k expr vs e ws → Derives k branch ts (c, e) ws
  no_elseif : {k : ℕ} {ts : List Token} → Derives k elseifs ts [] ts
  more_elseifs : {k : ℕ} {ts us vs ws : List Token} {b : Tree × Tree} {bs : List (Tree × Tree)} → Next (Word KElseif) ts us → Derives k branch us b vs → Derives k elseifs vs bs ws → Derives k elseifs ts (b ∷ bs) ws
  -- | "let" "{" [ letitem { ("," | ";") letitem } [ "," | ";" ] ] "}" "in" expr
  let_in : {k : ℕ} {ts us vs ws xs ys zs : List Token} {ls : List Let} {e : Tree} → Next (Word KLet) ts us → Next (Sym SLBrace) us vs → Derives k let_items vs ls ws → Next (Sym SRBrace) ws xs → Next (Word KIn) xs ys → Derives (suc k) expr ys e zs → Derives (suc (suc k)) (term head with_body) ts (node (place ts) (pure.let_in (lets ls) e)) zs
  no_lets : {k : ℕ} {ts : List Token} → Derives k let_items ts [] ts
  last_let : {k : ℕ} {ts us : List Token} {l : Let} → Derives k let_item ts l us → Derives k let_items ts (l ∷ []) us
  more_lets : {k : ℕ} {ts us vs ws : List Token} {l : Let} {ls : List Let} → Derives k let_item ts l us → Separator us vs → Derives k let_items vs ls ws → Derives k let_items ts (l ∷ ls) ws
  -- gen = IDENT { "," IDENT } "in" expr of level 7 or tighter [ "where" expr ]
  a_gen : {k : ℕ} {ts us vs ws xs : List Token} {ns : List (Name × Span)} {e : Tree} {w : Maybe} → Derives k (list SComma name) ts ns us → Next (Word KIn) us vs → Derives k tight vs e ws → Derives k (perhaps (Word KWhere)) ws w xs → Derives k gen ts (generator ns e w) xs
  -- letitem = decl | "constraint" marks expr
  let_decl : {k : ℕ} {ts us : List Token} {d : Declaration} → Derives k decl ts d us → Derives k let_item ts (pure.declared d) us
  let_constraint : {k : ℕ} {ts us vs ws : List Token} {e : Tree} → Next (Word KConstraint) ts us → Derives k marks us tt vs → Derives k expr vs e ws → Derives k let_item ts (pure.constrained e) ws
  -- [ TOKEN expr ], and IDENT with its place
  without : {k : ℕ} {t : Tok} {ts : List Token} → Derives k (perhaps t) ts nothing ts
  with_it : {k : ℕ} {t : Tok} {ts us vs : List Token} {e : Tree} → Next t ts us → Derives k expr us e vs → Derives k (perhaps t) ts (just e) vs
  a_name : {k : ℕ} {ts us : List Token} (n : Name) → Next (Ident n) ts us → Derives k name ts (n, place ts) us
  -- x { s x } [ s ], and [ x { s x } [ s ] ]
  last : {s : Symbol} {p : Phrase} {k : ℕ} {ts us : List Token} {x : Meaning p} → Derives k p ts x us → Derives k (list s p) ts (x ∷ []) us
  trailing : {s : Symbol} {p : Phrase} {k : ℕ} {ts us vs : List Token} {x : Meaning p} → Derives k p ts x us → Next (Sym s) us vs → Derives k (list s p) ts (x ∷ []) vs
  more : {s : Symbol} {p : Phrase} {k : ℕ} {ts us vs ws : List Token} {x : Meaning p} {xs : List (Meaning p)} → Derives k p ts x us → Next (Sym s) us vs → Derives k (list s p) vs xs ws → Derives k (list s p) ts (x ∷ xs) ws
  none : {s : Symbol} {p : Phrase} {k : ℕ} {ts : List Token} → Derives k (optional s p) ts [] ts
  some : {s : Symbol} {p : Phrase} {k : ℕ} {ts us : List Token} {xs : List (Meaning p)} → Derives k (list s p) ts xs us → Derives k (optional s p) ts xs us

-- model = [ item { ";" item } [ ";" ] ], which is all that there is
abbrev pub DerivesModel : ℕ → List Token → List ItemTree → Type 0
DerivesModel k ts items = Derives k (optional SSemi item) ts items []
