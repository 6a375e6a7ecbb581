-- Each prefix of tokens that the grammar of models hasn't refused begins some part of that kind.
use Rattle.std.proofs.Common.{◌≡◌, ℕ, List, [], ◌∷◌, refl, true, false, Bool, Option}
use Rattle.std.specs.Prelude.{Some, None}
use Rattle.mz_base.specs.declared.fault.Span.{Span}
use Rattle.mz_lexer.specs.declared.token.Token.{Token}
use Rattle.mz_lexer.specs.declared.token.Symbol.TheVariants.{SEq}
use Rattle.mz_grammar.specs.Rules.{give, part}
use Rattle.mz_tree.specs.Tree.{Tree}
use Rattle.mz_grammar.specs.Look.{symbol_number, keyword_number}
use Rattle.mz_grammar.specs.RulesReading.{step, read_by}
use Rattle.mz_grammar.proofs.Longer as longer
use Rattle.mz_grammar.proofs.Longer.{firm, by, firmly, near, farther}
use Rattle.mz_grammar.proofs.Answering as answering
use Rattle.mz_grammar.specs.RulesPromise.{Gives, Answers}
use Rattle.mz_base.specs.declared.stop.Stop.{Stop}
use Rattle.std.specs.Prelude.{Result}
use Rattle.mz_tree.specs.declared.expr.BinOp.{BinOp}
use Rattle.mz_tree.specs.declared.expr.PlacedOp.{PlacedOp}
use Rattle.mz_grammar.specs.declared.level.Level.{Level}
use Rattle.mz_grammar.specs.declared.level.Level.TheVariants as level_is
use Rattle.mz_grammar.specs.Operators.{is_nonassociative, tighter_level}
use Rattle.mz_grammar.specs.Parts
use Rattle.mz_grammar.specs.Parts.{Place, Value, Operand, tree_of, link_of, chained}
use Rattle.mz_grammar.specs.Model.{Ruled, rule, operand_by, operand_rule, operators_rule, more_operators_rule, unit_rule, atom_rule, annotations_rule, leaf_head, opened_head}
use Rattle.mz_grammar.specs.Tests.{Leaf, an_ident, Opener, a_piece, an_if, a_let, a_paren, a_bracket, a_table, a_brace}
use Rattle.mz_grammar.specs.Reading.{rank, width, reads}
use Rattle.mz_grammar.proofs.Facts.{low, falls, takes, complete, can_complete}
use Rattle.mz_grammar.proofs.PartEnds.{MayEndBefore, takes_token, IsUsable, far, aim, sign, a_number, ends_item_end, plain_end, plain_equals}

-- What may end with the expression of a `let` is brought to an `=`: an `= 0` goes on each such expression that may take one.

abbrev Long : {n : Place} → Ruled n → Type 0
Long p = longer.Long rule aim MayEndBefore takes_token IsUsable far takes complete can_complete p

abbrev Reach : (m : Place) {n : Place} → (Value m → Ruled n) → Ruled n → Type 0
Reach m f p = longer.Reach rule aim MayEndBefore takes_token IsUsable far takes complete can_complete m f p

-- `= 0` at the level of comparisons
abbrev equals_zero : List Token
equals_zero = sign SEq ∷ a_number ∷ []

long_operand : (l : Level) → Long (operand_rule l)
unfolding step read_by rule symbol_number keyword_number
long_operand l = by (tighter_level l)
  where
    by : (k : Option Level) → Long (operand_by {l = l} k)
    by None = λ x. (farther [] refl (λ y. tt) refl, tt)
    by (Some k) = λ x. (farther [] refl (λ y. tt) refl, tt)

-- after an operand come the operators of its level
abbrev operators_behind : (l : Level) → Operand → Ruled (Parts.level l)
operators_behind l x = part (Parts.operators l) λ ls. give (chained x ls)

reach_operators : (l : Level) (x : Operand) → Reach (Parts.operand l) (operators_behind l) (operators_behind l x)
unfolding step read_by rule symbol_number keyword_number
reach_operators level_is.Iff x = farther [] refl (λ y. tt) refl
reach_operators level_is.Imp x = farther [] refl (λ y. tt) refl
reach_operators level_is.Or x = farther [] refl (λ y. tt) refl
reach_operators level_is.And x = farther [] refl (λ y. tt) refl
reach_operators level_is.Compare x = farther equals_zero refl (λ y. tt) refl
reach_operators level_is.Member x = farther [] refl (λ y. tt) refl
reach_operators level_is.Union x = farther [] refl (λ y. tt) refl
reach_operators level_is.Range x = farther [] refl (λ y. tt) refl
reach_operators level_is.Sum x = farther [] refl (λ y. tt) refl
reach_operators level_is.Product x = farther [] refl (λ y. tt) refl
reach_operators level_is.Power x = farther [] refl (λ y. tt) refl
reach_operators level_is.Concat x = farther [] refl (λ y. tt) refl

long_level : (l : Level) → Long (rule (Parts.level l))
unfolding step read_by rule symbol_number keyword_number
long_level l = λ x. (reach_operators l x, λ ls. (farther [] refl (λ m. tt) refl, tt))

-- and after an operator and its operand, more of them
abbrev chain_behind : (l : Level) → BinOp → Operand → Ruled (Parts.operators l)
chain_behind l op x = part (Parts.more_operators l (is_nonassociative l)) λ ls. give (link_of op x ∷ ls)

reach_chain : (l : Level) (op : BinOp) (x : Operand) → Reach (Parts.operand l) (chain_behind l op) (chain_behind l op x)
unfolding step read_by rule symbol_number keyword_number
reach_chain level_is.Iff op x = farther [] refl (λ y. tt) refl
reach_chain level_is.Imp op x = farther [] refl (λ y. tt) refl
reach_chain level_is.Or op x = farther [] refl (λ y. tt) refl
reach_chain level_is.And op x = farther [] refl (λ y. tt) refl
reach_chain level_is.Compare op x = farther [] refl (λ y. tt) refl
reach_chain level_is.Member op x = farther [] refl (λ y. tt) refl
reach_chain level_is.Union op x = farther [] refl (λ y. tt) refl
reach_chain level_is.Range op x = farther [] refl (λ y. tt) refl
reach_chain level_is.Sum op x = farther [] refl (λ y. tt) refl
reach_chain level_is.Product op x = farther [] refl (λ y. tt) refl
reach_chain level_is.Power op x = farther [] refl (λ y. tt) refl
reach_chain level_is.Concat op x = farther [] refl (λ y. tt) refl

long_more_operators : (l : Level) (done : Bool) → Long (more_operators_rule l done)
unfolding step read_by rule symbol_number keyword_number
long_more_operators l true = tt
long_more_operators l false = λ ls. (farther [] refl (λ m. tt) refl, tt)

reach_more : (l : Level) (op : BinOp) (x : Operand) (ls : List (PlacedOp × Tree)) → Reach (Parts.more_operators l (is_nonassociative l)) {n = Parts.operators l} (λ ls. give (link_of op x ∷ ls)) (give (link_of op x ∷ ls))
unfolding step read_by rule symbol_number keyword_number
reach_more l op x ls = farther [] refl (λ m. tt) refl

seen_operators : (l : Level) → longer.Seen rule aim MayEndBefore takes_token IsUsable far takes complete can_complete (operators_rule l) (give [])
unfolding step read_by rule symbol_number keyword_number
seen_operators level_is.Iff = by [] tt
seen_operators level_is.Imp = by [] tt
seen_operators level_is.Or = by [] tt
seen_operators level_is.And = by [] tt
seen_operators level_is.Compare = by equals_zero tt
seen_operators level_is.Member = by [] tt
seen_operators level_is.Union = by [] tt
seen_operators level_is.Range = by [] tt
seen_operators level_is.Sum = by [] tt
seen_operators level_is.Product = by [] tt
seen_operators level_is.Power = by [] tt
seen_operators level_is.Concat = by [] tt

long_operators : (l : Level) → Long (operators_rule l)
long_operators l = (λ op s x. (reach_chain l op x, λ ls. (reach_more l op x ls, tt)), seen_operators l, tt)

long_unit : Long unit_rule
unfolding step read_by rule symbol_number keyword_number
long_unit = (λ op s x. (farther [] refl (λ y. tt) refl, tt), firm tt, λ x. (farther [] refl (λ y. tt) refl, tt))

long_atom : Long atom_rule
unfolding step read_by rule symbol_number keyword_number
long_atom = λ h. (farther [] refl (λ y. tt) refl, λ x. (near plain_equals tt, λ m. (farther [] refl (λ y. tt) refl, tt)))

long_annotations : Long annotations_rule
unfolding step read_by rule symbol_number keyword_number
long_annotations = (λ s h. (farther [] refl (λ y. tt) refl, λ x. (near plain_equals tt, λ m. (farther [] refl (λ y. tt) refl, tt))), by [] tt, tt)

long_leaf : (l : Leaf) (s : Span) → Long (leaf_head l s)
unfolding step read_by rule symbol_number keyword_number
long_leaf (an_ident n) s = λ x. (near plain_equals tt, tt)
long_leaf _ s = tt

long_opened : (b : Opener) (s : Span) → Long (opened_head b s)
unfolding step read_by rule symbol_number keyword_number
long_opened (a_piece n) s = λ ps. (near tt tt, tt)
long_opened an_if s = λ b. (firmly tt, λ bs. (near tt tt, tt))
long_opened a_let s = (λ b ls. (firmly tt, (λ i e. (farther [] refl (λ y. tt) refl, tt), firm tt, tt)), firm tt, tt)
long_opened a_paren s = λ e. (firmly (tt, tt), (λ c. tt, firm (tt, tt), (firm tt, tt, firm tt, tt)))
long_opened a_bracket s = λ f. (near tt tt, tt)
long_opened a_table s = λ f. (near tt tt, tt)
long_opened a_brace s = λ f. (near tt tt, tt)

longs : (n : Place) → far n ≡ true → Long (rule n)
unfolding step read_by rule symbol_number keyword_number
longs Parts.annotations e = long_annotations
longs Parts.head e = (long_leaf, firm tt, (long_opened, firm tt, tt))
longs Parts.atom e = long_atom
longs Parts.unit e = long_unit
longs (Parts.operand l) e = long_operand l
longs (Parts.operators l) e = long_operators l
longs (Parts.more_operators l done) e = long_more_operators l done
longs (Parts.level l) e = long_level l
longs Parts.expr e = λ x. (farther [] refl (λ y. tt) refl, tt)
longs _ e = absurd (cc)

-- The parts that may stand at the end of the tokens: all but a row and its cells, which may end with a comma before the token
-- that ends the row.
abbrev pub may_be_last : Place → Bool
may_be_last Parts.row = false
may_be_last Parts.cells = false
may_be_last _ = true

pub may_end_last : (n : Place) → may_be_last n ≡ true → MayEndBefore n None
may_end_last Parts.file e = refl
may_end_last Parts.more_items e = refl
may_end_last Parts.item e = ends_item_end
may_end_last Parts.goal e = ends_item_end
may_end_last Parts.cases e = ends_item_end
may_end_last Parts.params e = plain_end
may_end_last Parts.param e = ends_item_end
may_end_last Parts.declaration e = ends_item_end
may_end_last (Parts.declared t) e = ends_item_end
may_end_last Parts.value e = ends_item_end
may_end_last Parts.type e = ends_item_end
may_end_last Parts.element e = ends_item_end
may_end_last Parts.unmarked e = ends_item_end
may_end_last Parts.base e = ends_item_end
may_end_last Parts.expr e = ends_item_end
may_end_last (Parts.level l) e = ends_item_end
may_end_last (Parts.operand l) e = ends_item_end
may_end_last (Parts.operators l) e = ends_item_end
may_end_last (Parts.more_operators l done) e = ends_item_end
may_end_last Parts.unit e = ends_item_end
may_end_last Parts.atom e = ends_item_end
may_end_last (Parts.accesses x) e = plain_end
may_end_last Parts.annotations e = ends_item_end
may_end_last Parts.marks e = ends_item_end
may_end_last Parts.head e = ends_item_end
may_end_last (Parts.named n s) e = plain_end
may_end_last Parts.row e = absurd (cc)
may_end_last Parts.cells e = absurd (cc)
may_end_last Parts.generator e = ends_item_end
may_end_last Parts.more_names e = (refl, refl)
may_end_last Parts.filter e = ends_item_end
may_end_last Parts.branch e = ends_item_end
may_end_last Parts.let_item e = ends_item_end
may_end_last _ e = tt

-- What a reader of models answers is what its callers are promised, for a part that may stand at the end.
pub answers : {X : Type 0} (n : Place) (view : X → Value n) (room : ℕ) (end : Span) (old new : List Token) (result : Result X Stop) → may_be_last n ≡ true → Gives view end new result (reads n room old) → Answers rule n view room end old new result
answers n view room end old new result may g =
    answering.answers rule rank width low falls MayEndBefore takes_token IsUsable far aim takes complete can_complete (longer.bring rule aim MayEndBefore takes_token IsUsable far takes complete can_complete longs) n view room end old new result (may_end_last n may) g
