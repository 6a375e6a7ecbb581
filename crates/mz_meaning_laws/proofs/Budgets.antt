-- An evaluation that begins within its budget, or just past it, ends so.
use Rattle.std.proofs.Common.{◌≤◌, arith, ◌≡◌, ℕ, zero, suc, ℤ, pos, Bool, true, false, List, [], ◌∷◌, Option, Some, None, refl, if◌then◌else◌, nat_lt, ◌+◌, ◌++◌, not, map, unwrap_or, slice_get, replicate}
use Rattle.std.specs.Option.{option_map}
use Rattle.std.specs.List.{list_all}
use Rattle.mz_base.specs.declared.fault.Span.{Span}
use Rattle.mz_base.specs.declared.fault.Fault.{Fault}
use Rattle.mz_base.specs.declared.kind.Kind.TheVariants as kind
use Rattle.mz_interval.specs.Ends.{is_number}
use Rattle.mz_value.specs.Ranges.{Range}
use Rattle.mz_value.specs.Contents.{Content}
use Rattle.mz_value.specs.Shown.{Names}
use Rattle.mz_core.specs.declared.types.Base.{Base}
use Rattle.mz_core.specs.Types.{PlainType}
use Rattle.mz_core.specs.Coercions.{PathLink}
use Rattle.mz_core.specs.Program.{Function}
use Rattle.mz_core.specs.Tree.{Tree, Layer, Gen, Decl, Item, declares, constrains, layer, shape_of, place_of, type_of, inner_tree, root_coercions}
use Rattle.mz_core.specs.Tree as tree
use Rattle.mz_operations.specs.declared.row.Row.{Row}
use Rattle.mz_operations.specs.Answers as answers
use Rattle.mz_operations.specs.Answers.{Answer as RowAnswer, Gives, Stops}
use Rattle.mz_operations.specs.Bounds.{Bounds}
use Rattle.mz_operations.specs.Bounds as bounds
use Rattle.mz_operations.specs.Arrays.{is_contiguous, place_count}
use Rattle.mz_operations.specs.RowBounds.{row_bounds}
use Rattle.mz_globals.specs.declared.global.Global.{Global}
use Rattle.mz_globals.specs.declared.checks.Refusal.{Refusal}
use Rattle.mz_globals.specs.declared.checks.Refusal.TheVariants.{Misfit, Negative, Outside}
use Rattle.mz_globals.specs.Table.{refusal_of}
use Rattle.mz_meaning.specs.Runs.{Run, State, Answer, Out, Stopped, then_do, give, stop, spend, loop, when, weigh, noted, fault}
use Rattle.mz_meaning.specs.Cells.{Cell, Var, Mode, Blank, Given, Env, Test, Settled, Open, test_of, bind, undefined, held, all_par, value_of, no_bounds, set_in, length_of, or_zero, guarded, both_sure}
use Rattle.mz_meaning.specs.Coerced.{recast}
use Rattle.mz_meaning.specs.Domains.{Domain}
use Rattle.mz_meaning.specs.Exact.{exact_value}
use Rattle.mz_meaning.specs.Operations as operations
use Rattle.mz_meaning.specs.Globals as globals
use Rattle.mz_meaning.specs.Arrays as arrays
use Rattle.mz_meaning.specs.Arrays.{Want, Anything, Missing, Within}
use Rattle.mz_meaning.specs.Contexts.{Untested}
use Rattle.mz_meaning.specs.Chains.{Operator, Innermost, chained, same_level, operand_base}
use Rattle.mz_meaning.specs.Forms as forms
use Rattle.mz_meaning.specs.Forms.{World, Eval}
use Rattle.mz_meaning.specs.Comprehensions as comps
use Rattle.mz_meaning.specs.Lets as lets
use Rattle.mz_meaning.specs.Calls as calls
use Rattle.mz_meaning.specs.Evaluation.{node, eval}
use Rattle.std.proofs.lemmas.Bool.Decides.{nat_tests}
use Rattle.mz_base.specs.declared.kind.Kind.{Kind}
use Rattle.mz_meaning_laws.specs.Spending.{EndsWithin}

-- a run that ends within its budget where it begins so
record Keeps {A : Type 0} (b : ℕ) (m : Run A) : Type 0 where
  by : (s : State) → s.work ≤ b + 1 → EndsWithin b (m s)

-- ---- joining

then_ends : {b : ℕ} {A B : Type 0} (a : Answer A) (go : A → Run B) → EndsWithin b a → ((x : A) → Keeps b (go x)) → EndsWithin b (then_do a go)
then_ends (Out x s) go h k = (k x).by s h
then_ends (Stopped f) go h k = tt

then_well : {b : ℕ} {A B : Type 0} {a : Run A} {go : A → Run B} → Keeps b a → ((x : A) → Keeps b (go x)) → Keeps b (λ s. then_do (a s) go)
then_well {a = a} {go = go} h k = record { by = λ s e. then_ends (a s) go (h.by s e) k }

give_well : {b : ℕ} {A : Type 0} (x : A) → Keeps b (give x)
give_well x = record { by = λ s e. e }

stop_well : {b : ℕ} {A : Type 0} (k : Kind) (at : Span) (n : ℤ) → Keeps {A = A} b (stop k at n)
stop_well k at n = record { by = λ s e. tt }

abbrev more : State → ℕ → State
more s n = record { work = s.work + n; taken = s.taken; weight = s.weight }

spent : (b w : ℕ) (t : Bool) (f : Fault) (s : State) → nat_lt b w ≡ t → s.work ≡ w → EndsWithin {A = Unit {0}} b (if t then Stopped f else Out tt s)
spent b w true f s h e = tt
spent b w false f s h e = let p : w ≤ b = grind (arith, nat_tests) in omega (arith)

spend_well : {b : ℕ} (at : Span) (n : ℕ) → Keeps b (spend b at n)
spend_well {b} at n = record { by = λ s e. spent b (s.work + n) (nat_lt b (s.work + n)) (fault kind.Budget at (pos (b + 1))) (more s n) refl refl }

loop_well : {budget : ℕ} {A S : Type 0} (step : S → A → Run S) → ((acc : S) (x : A) → Keeps budget (step acc x)) → (acc : S) (xs : List A) → Keeps budget (loop step acc xs)
loop_well step h acc [] = give_well acc
loop_well step h acc (x ∷ xs) = then_well (h acc x) (λ next. loop_well step h next xs)

if_well : {budget : ℕ} {A : Type 0} (t : Bool) (a b : Run A) → Keeps budget a → Keeps budget b → Keeps budget (if t then a else b)
if_well true a b h k = h
if_well false a b h k = k

when_well : {budget : ℕ} {A : Type 0} (t : Bool) (a b : Run A) → Keeps budget a → Keeps budget b → Keeps budget (when t a b)
when_well true a b h k = h
when_well false a b h k = k

weigh_well : {b : ℕ} (mode : Mode) (n : ℕ) → Keeps b (weigh mode n)
weigh_well (Blank false) n = record { by = λ s e. e }
weigh_well (Blank true) n = record { by = λ s e. e }
weigh_well (Given f) n = record { by = λ s e. e }

-- ---- rows

par_answer_well : {budget : ℕ} (b : Base) (at : Span) (a : RowAnswer) → Keeps budget (operations.par_answer b at a)
par_answer_well b at (Gives v) = give_well _
par_answer_well b at (Stops k n) = stop_well k at n

par_row_well : {budget : ℕ} (names : Names) (r : Row) (b : Base) (at : Span) (vs : List (Option Content)) → Keeps budget (operations.par_row names r b at vs)
par_row_well names r b at vs = par_answer_well b at _

negative_well : {budget : ℕ} (n : Option ℤ) (at : Span) (go : Run (Unit {0})) → Keeps budget go → Keeps budget (operations.unless_negative n at go)
negative_well None at go h = h
negative_well (Some n) at go h = stop_well kind.NegativeArgument at n

tested_well : {budget : ℕ} (r : Row) (at : Span) (vs : List (Option Content)) → Keeps budget (operations.tested r at vs)
tested_well r at vs =
    if_well (answers.is_mismatched r vs) _ _ (stop_well kind.IndexMismatch at (pos 0))
    (negative_well (answers.negative r vs) at _ (if_well (answers.is_failed r vs) _ _ (stop_well kind.AssertFailed at (pos 0)) (give_well tt)))

limited_well : {budget : ℕ} (at : Span) (b : Bounds) → Keeps budget (operations.limited at b)
limited_well at (bounds.one (bounds.number e)) =
    if_well (is_number e.0) _ _ (if_well (is_number e.1) _ _ (give_well _) (stop_well kind.Bounds at e.1)) (stop_well kind.Bounds at e.0)
limited_well at (bounds.one (bounds.sets l u)) = give_well _
limited_well at (bounds.many ix bs) = give_well _

abbrev var_cell : Mode → Names → Row → PlainType → List Cell → Bounds → Cell
var_cell mode names r t cs b = operations.with_shape r cs (Var b (held mode (option_map (recast t.base) (exact_value names r (map value_of cs)))))

var_row_well : {budget : ℕ} (mode : Mode) (names : Names) (r : Row) (t : PlainType) (at : Span) (cs : List Cell) → Keeps budget (operations.var_row mode names r t at cs)
var_row_well mode names r t at cs = then_well (tested_well r at _) (λ u. then_well (limited_well at (unwrap_or (row_bounds r (operations.argument_bounds r cs)) (no_bounds t))) (λ b. give_well (var_cell mode names r t cs b)))

row_cell_well : {budget : ℕ} (mode : Mode) (names : Names) (r : Row) (t : PlainType) (at : Span) (cs : List Cell) → Keeps budget (operations.row_cell mode names r t at cs)
row_cell_well mode names r t at cs =
    if_well (all_par cs) _ _ (par_row_well names r t.base at (map value_of cs)) (if_well (operations.reads_bounds r) _ _ (give_well _) (var_row_well mode names r t at cs))

-- ---- globals

refused_well : {budget : ℕ} (r : Option Refusal) (at : Span) → Keeps budget (globals.refused r at)
refused_well None at = give_well tt
refused_well (Some Misfit) at = stop_well kind.IndexMismatch at (pos 0)
refused_well (Some (Negative n)) at = stop_well kind.NegativeArgument at n
refused_well (Some (Outside n)) at = stop_well kind.Bounds at n

global_cell_well : {budget : ℕ} (mode : Mode) (g : Global) (at : Span) (cs : List Cell) → Keeps budget (globals.global_cell mode g at cs)
global_cell_well mode g at cs = then_well (refused_well (refusal_of g (map globals.given_in cs)) at) (λ u. give_well (globals.global_result mode g cs))

-- ---- nodes

done_well : (w : World) (at : Span) (c : Cell) → Keeps w.budget (forms.done w at c)
done_well w at c = then_well (spend_well at 1) (λ u. give_well c)

coerced_well : (w : World) (at : Span) (ls : List PathLink) (c : Cell) → Keeps w.budget (forms.coerced_by w at ls c)
coerced_well w at ls c = loop_well (forms.coerced_once w at) (λ acc l. then_well (spend_well at _) (λ u. give_well _)) c ls

operated_by_well : (w : World) (at : Span) (t : PlainType) (cs : List Cell) (r : Option Row) → Keeps w.budget (forms.operated_by w at t cs r)
operated_by_well w at t cs None = done_well w at undefined
operated_by_well w at t cs (Some r) = then_well (spend_well at (1 + operations.row_cost r cs)) (λ u. row_cell_well w.mode w.cases r t at cs)

global_by_well : (w : World) (at : Span) (cs : List Cell) (g : Option Global) → Keeps w.budget (forms.global_by w at cs g)
global_by_well w at cs None = done_well w at undefined
global_by_well w at cs (Some g) = then_well (spend_well at (1 + globals.call_cost g cs)) (λ u. global_cell_well w.mode g at cs)

row_or_global_well : (w : World) (at : Span) (t : PlainType) (cs : List Cell) (g : Option Global) (r : Option Row) → Keeps w.budget (forms.row_or_global w at t cs g r)
row_or_global_well w at t cs g None = global_by_well w at cs g
row_or_global_well w at t cs g (Some r) = operated_by_well w at t cs (Some r)

operated_well : (w : World) (at : Span) (t : PlainType) (n : ℕ) (b : Base) (cs : List Cell) → Keeps w.budget (forms.operated w at t n b cs)
operated_well w at t n b cs = then_well (operated_by_well w at t cs (operations.row_at n b)) (λ c. give_well _)

-- what evaluates parts so
record IsEvaluator (budget : ℕ) (go : Eval) : Type 0 where
  by : (e : Tree) (env : Env) → Keeps budget (go Untested e env)

parts_well : {budget : ℕ} (go : Eval) → IsEvaluator budget go → (es : List Tree) (env : Env) → Keeps budget (forms.parts go Untested es env)
parts_well go g es env = loop_well (forms.part go Untested env) (λ acc e. then_well (g.by e env) (λ c. give_well _)) [] es

-- ---- chains

operators_well : (w : World) (go : Eval) → IsEvaluator w.budget go → (env : Env) (at : Span) (left : Cell) (os : List Operator) → Keeps w.budget (forms.operators w go Untested env at left os)
operators_well w go g env at left [] = give_well left
operators_well w go g env at left (o ∷ os) =
    then_well (coerced_well w at o.step.left left) (λ a. then_well (g.by o.step.operand env) (λ c. then_well (coerced_well w (forms.operand_place o.step) o.step.right c)
    (λ b. then_well (operated_well w o.at o.step.ty o.step.row (operand_base o.step) (a ∷ b ∷ [])) (λ next. operators_well w go g env o.at next os))))

append_operand_well : (w : World) (go : Eval) → IsEvaluator w.budget go → (env : Env) (x : forms.Appended) (o : Operator) → Keeps w.budget (forms.append_operand w go Untested env x o)
append_operand_well w go g env x o = then_well (coerced_well w x.place o.step.left x.last) (λ a. then_well (g.by o.step.operand env) (λ c. give_well _))

append_operands_well : (w : World) (go : Eval) → IsEvaluator w.budget go → (env : Env) (x : forms.Appended) (os : List Operator) → Keeps w.budget (forms.append_operands w go Untested env x os)
append_operands_well w go g env x [] = give_well x
append_operands_well w go g env x (o ∷ os) = then_well (append_operand_well w go g env x o) (λ y. append_operands_well w go g env y os)

append_node_well : (w : World) (right : Span × Cell) (p : Operator × Cell) → Keeps w.budget (forms.append_node w right p)
append_node_well w right p = then_well (coerced_well w right.0 p.0.step.right right.1) (λ b. then_well (operated_well w p.0.at p.0.step.ty p.0.step.row (operand_base p.0.step) (p.1 ∷ b ∷ [])) (λ next. give_well _))

appended_well : (w : World) (go : Eval) → IsEvaluator w.budget go → (env : Env) (f : Innermost) (first : Cell) → Keeps w.budget (forms.appended w go Untested env f first)
appended_well w go g env f first = then_well (append_operands_well w go g env _ f.operators) (λ x. then_well (loop_well (forms.append_node w) (append_node_well w) _ x.lefts) (λ r. give_well _))

chain_by_well : (w : World) (go : Eval) → IsEvaluator w.budget go → (env : Env) (t : Bool) (f : Innermost) → Keeps w.budget (forms.chain_by w go Untested env t f)
chain_by_well w go g env true f = then_well (g.by f.first env) (λ c. appended_well w go g env f c)
chain_by_well w go g env false f = then_well (g.by f.first env) (λ c. operators_well w go g env (place_of f.first) c f.operators)

-- ---- arrays, `if`

table_cell_well : {budget : ℕ} (mode : Mode) (at : Span) (rs : List (List Cell)) → Keeps budget (arrays.table_cell mode at rs)
table_cell_well mode at rs = if_well (arrays.par_undefined (arrays.joined rs)) _ _ (give_well _) (if_well (arrays.are_level rs) _ _ (give_well _) (stop_well kind.IndexMismatch at (pos 0)))

table_well : (w : World) (go : Eval) → IsEvaluator w.budget go → (rs : List (List Tree)) (at : Span) (env : Env) → Keeps w.budget (forms.table w go Untested rs at env)
table_well w go g rs at env =
    then_well (loop_well (forms.row_of_parts go Untested env) (λ acc es. then_well (parts_well go g es env) (λ cs. give_well _)) [] rs) (λ rows. then_well (spend_well at 1) (λ u. table_cell_well w.mode at rows))

branches_cell_well : {budget : ℕ} (mode : Mode) (t : PlainType) (at : Span) (bs : List Bounds) (v : Option Content) → Keeps budget (arrays.branches_cell mode t at bs v)
branches_cell_well mode t at [] v = give_well _
branches_cell_well mode t at (b ∷ bs) v = if_well (list_all (arrays.same_shape b) bs) _ _ (give_well _) (stop_well kind.IndexMismatch at (pos 0))

branch_cell_well : {budget : ℕ} (mode : Mode) (t : PlainType) (at : Span) (ps : List (Cell × Cell)) (last : Cell) → Keeps budget (arrays.branch_cell mode t at ps last)
branch_cell_well mode t at ps last = if_well (not t.var) _ _ (give_well last) (branches_cell_well mode t at (arrays.all_bounds (map (arrays.branch_bounds_of t) (map (λ p. p.1) ps ++ last ∷ []))) (arrays.chosen_value ps last))

last_branch_well : (w : World) (go : Eval) → IsEvaluator w.budget go → (e : Tree) (at : Span) (t : PlainType) (env : Env) (acc : List (Cell × Cell)) → Keeps w.budget (forms.last_branch w go Untested e at t env acc)
last_branch_well w go g e at t env acc = then_well (g.by e env) (λ x. then_well (weigh_well w.mode _) (λ v. then_well (spend_well at 1) (λ u. branch_cell_well w.mode t at acc x)))

otherwise_well : (w : World) (go : Eval) → IsEvaluator w.budget go → (e : Option Tree) (at : Span) (t : PlainType) (env : Env) (acc : List (Cell × Cell)) → Keeps w.budget (forms.otherwise w go Untested e at t env acc)
otherwise_well w go g None at t env acc = then_well (spend_well at 1) (λ u. branch_cell_well w.mode t at acc _)
otherwise_well w go g (Some e) at t env acc = last_branch_well w go g e at t env acc

open_branch_well : (w : World) (go : Eval) → IsEvaluator w.budget go → (e : Tree) (env : Env) (acc : List (Cell × Cell)) (c : Cell) (t : Test) → Keeps w.budget (forms.open_branch w go Untested e env acc c t)
open_branch_well w go g e env acc c (Settled b) = give_well acc
open_branch_well w go g e env acc c Open = then_well (g.by e env) (λ x. then_well (weigh_well w.mode _) (λ v. give_well (acc ++ (c, x) ∷ [])))

branches_well : (w : World) (go : Eval) → IsEvaluator w.budget go → (bs : List (Tree × Tree)) (els : Option Tree) (at : Span) (t : PlainType) (env : Env) (acc : List (Cell × Cell)) → Keeps w.budget (forms.branches w go Untested bs els at t env acc)
branches_well w go g [] els at t env acc = otherwise_well w go g els at t env acc
branches_well w go g (b ∷ bs) els at t env acc =
    then_well (g.by b.0 env) (λ c. when_well (forms.is_met (test_of c)) _ _ (last_branch_well w go g b.1 at t env acc) (then_well (open_branch_well w go g b.1 env acc c (test_of c)) (λ acc2. branches_well w go g bs els at t env acc2)))

-- ---- comprehensions

record IsRest (budget : ℕ) (rest : comps.Rest) : Type 0 where
  by : (env : Env) (o : Option Bool) (made : comps.Made) → Keeps budget (rest env o made)

added_well : {budget : ℕ} (mode : Mode) (go : Eval) → IsEvaluator budget go → (e : Tree) → IsRest budget (comps.added mode go Untested e)
added_well mode go g e = record { by = λ env o made. then_well (g.by e env) (λ c. give_well _) }

filtered_well : {budget : ℕ} (mode : Mode) (rest : comps.Rest) → IsRest budget rest → (env : Env) (o : Option Bool) (made : comps.Made) (c : Cell) (t : Test) → Keeps budget (comps.filtered mode rest env o made c t)
filtered_well mode rest r env o made c (Settled true) = r.by env o made
filtered_well mode rest r env o made c (Settled false) = give_well made
filtered_well mode rest r env o made c Open = r.by env _ made

where_well : {budget : ℕ} (mode : Mode) (go : Eval) → IsEvaluator budget go → (cond : Option Tree) (rest : comps.Rest) → IsRest budget rest → IsRest budget (comps.where_ mode go Untested cond rest)
where_well mode go g None rest r = record { by = r.by }
where_well mode go g (Some t) rest r = record { by = λ env o made. then_well (g.by t env) (λ c. filtered_well mode rest r env o made c (test_of c)) }

names_well : (w : World) (at : Span) (es : List comps.Element) (ss : List ℕ) (rest : comps.Rest) → IsRest w.budget rest → IsRest w.budget (comps.names w at es ss rest)
names_well w at es [] rest r = record { by = r.by }
names_well w at es (s ∷ ss) rest r = record { by = λ env o made. loop_well _ (λ acc x. then_well (spend_well at 1) (λ u. (names_well w at es ss rest r).by (bind s x.0 env) (comps.both_occur o x.1) acc)) made es }

generators_well : (w : World) (go : Eval) → IsEvaluator w.budget go → (at : Span) (gs : List Gen) (rest : comps.Rest) → IsRest w.budget rest → IsRest w.budget (comps.generators w go Untested at gs rest)
generators_well w go g at [] rest r = record { by = r.by }
generators_well w go g at (x ∷ gs) rest r = record { by = λ env o made. then_well (g.by x.set env) (λ c. (names_well w at (comps.elements_in w.mode (type_of x.set).base c) x.slots (comps.where_ w.mode go Untested x.cond (comps.generators w go Untested at gs rest)) (where_well w.mode go g x.cond (comps.generators w go Untested at gs rest) (generators_well w go g at gs rest r))).by env o (comps.with_set w.mode o c made)) }

comprehension_well : (w : World) (go : Eval) → IsEvaluator w.budget go → (braces : Bool) (e : Tree) (gs : List Gen) (at : Span) (t : PlainType) (env : Env) → Keeps w.budget (comps.comprehension w go Untested braces e gs at t env)
comprehension_well w go g braces e gs at t env = then_well ((generators_well w go g at gs (comps.added w.mode go Untested e) (added_well w.mode go g e)).by env None comps.nothing_made) (λ made. done_well w at _)

-- ---- declared sets, lets

want_well : {budget : ℕ} (go : Eval) → IsEvaluator budget go → (e : Option Tree) (env : Env) → Keeps budget (lets.want go Untested e env)
want_well go g None env = give_well _
want_well go g (Some e) env = then_well (g.by e env) (λ c. give_well _)

contiguous_well : {budget : ℕ} (at : Span) (s : Option (List Range)) → Keeps budget (lets.contiguous at s)
contiguous_well at None = give_well _
contiguous_well at (Some s) = if_well (is_contiguous s) _ _ (give_well _) (stop_well kind.IndexMismatch at (pos 0))

index_want_well : {budget : ℕ} (go : Eval) → IsEvaluator budget go → (e : Option Tree) (env : Env) → Keeps budget (lets.index_want go Untested e env)
index_want_well go g None env = give_well _
index_want_well go g (Some e) env = then_well (g.by e env) (λ c. contiguous_well (place_of e) (set_in c))

index_wants_well : {budget : ℕ} (go : Eval) → IsEvaluator budget go → (es : List (Option Tree)) (env : Env) → Keeps budget (lets.index_wants go Untested es env)
index_wants_well go g es env = loop_well (lets.one_index go Untested env) (λ acc e. then_well (index_want_well go g e env) (λ x. give_well _)) [] es

fitted_to_well : {budget : ℕ} (at : Span) (xs : List Want) (own : List Range) (n : Option ℕ) (c : Cell) → Keeps budget (arrays.fitted_to at xs own n c)
fitted_to_well at xs own None c = give_well c
fitted_to_well at xs own (Some n) c = if_well (arrays.fits_shape xs own n) _ _ (give_well _) (stop_well kind.IndexMismatch at (pos 0))

fitted_well : {budget : ℕ} (at : Span) (xs : List Want) (c : Cell) → Keeps budget (arrays.fitted at xs c)
fitted_well at [] c = give_well c
fitted_well at (x ∷ xs) c = if_well (arrays.no_missing (x ∷ xs)) _ _ (fitted_to_well at (x ∷ xs) (arrays.own_ranges c) (length_of c) c) (give_well c)

noted_work : (mode : Mode) (ds : List Domain) (n : ℕ) (s : State) → (noted mode ds n s).work ≡ s.work
noted_work (Blank false) ds n s = refl
noted_work (Blank true) ds n s = refl
noted_work (Given f) ds n s = refl

choose_well : {budget : ℕ} (mode : Mode) (t : PlainType) (d : Option Domain) → Keeps budget (lets.choose mode t d)
choose_well mode t None = give_well _
choose_well mode t (Some d) = record { by = λ s e. rw (noted_work mode (d ∷ []) 0 s) e }

choose_places_well : {budget : ℕ} (mode : Mode) (t : PlainType) (ix : List Range) (n : ℕ) (d : Option Domain) → Keeps budget (lets.choose_places mode t ix n d)
choose_places_well mode t ix zero d = give_well _
choose_places_well mode t ix (suc n) None = give_well _
choose_places_well mode t ix (suc n) (Some d) = record { by = λ s e. rw (noted_work mode (replicate (suc n) d) 0 s) e }

free_array_well : {budget : ℕ} (mode : Mode) (t : PlainType) (ix : List Range) (x : Want) (d : Option Domain) → Keeps budget (lets.free_array mode t ix x d)
free_array_well mode t ix Anything d = choose_places_well mode t ix (place_count ix) d
free_array_well mode t ix Missing d = give_well _
free_array_well mode t ix (Within u) d = choose_places_well mode t ix (place_count ix) d

chosen_well : {budget : ℕ} (mode : Mode) (n : ℤ) (t : PlainType) (ixs : List Want) (x : Want) → Keeps budget (lets.chosen mode n t ixs x)
chosen_well mode n t [] x = choose_well mode t (lets.unless_empty (lets.local_domain n t x))
chosen_well mode n t (r ∷ rs) x = if_well (lets.all_declared (r ∷ rs)) _ _ (free_array_well mode t (arrays.declared_ranges (r ∷ rs) []) x (lets.unless_empty (lets.local_domain n t x))) (give_well _)

given_value_well : (w : World) (go : Eval) → IsEvaluator w.budget go → (d : Decl) (ixs : List Want) (x : Want) (env : Env) (e : Option Tree) → Keeps w.budget (lets.given_value w go Untested d ixs x env e)
given_value_well w go g d ixs x env None = then_well (spend_well d.span (arrays.declared_count ixs undefined)) (λ u. chosen_well w.mode w.int_range d.ty.ty ixs x)
given_value_well w go g d ixs x env (Some e) = then_well (g.by e env) (λ c. then_well (spend_well d.span (arrays.declared_count ixs c)) (λ u. then_well (fitted_well (place_of e) ixs c) (λ f. give_well _)))

declared_well : (w : World) (go : Eval) → IsEvaluator w.budget go → (d : Decl) (env : Env) → Keeps w.budget (lets.declared w go Untested d env)
declared_well w go g d env = then_well (weigh_well w.mode 1) (λ v. then_well (index_wants_well go g d.ty.index env) (λ ixs. then_well (want_well go g d.ty.set env) (λ x. given_value_well w go g d ixs x env d.value)))

item_well : (w : World) (go : Eval) → IsEvaluator w.budget go → (env : Env) (b : lets.Names) (i : Item) → Keeps w.budget (lets.let_item w go Untested env b i)
item_well w go g env b (constrains e) = then_well (g.by e (lets.names_in b env)) (λ c. give_well _)
item_well w go g env b (declares d) = then_well (declared_well w go g d (lets.names_in b env)) (λ x. give_well _)

let_well : (w : World) (go : Eval) → IsEvaluator w.budget go → (is : List Item) (e : Tree) (at : Span) (t : PlainType) (env : Env) → Keeps w.budget (lets.let_of w go Untested is e at t env)
let_well w go g is e at t env = then_well (loop_well (lets.let_item w go Untested env) (item_well w go g env) lets.nothing_bound is) (λ b. then_well (g.by e (lets.names_in b env)) (λ c. done_well w at _))

-- ---- calls

parameter_well : {budget : ℕ} (go : Eval) → IsEvaluator budget go → (var : Bool) (top : Env) (b : lets.Names) (p : Decl × Tree × Cell) → Keeps budget (calls.parameter go Untested var top b p)
parameter_well go g var top b p = then_well (index_wants_well go g p.0.ty.index (lets.names_in b top)) (λ ixs. then_well (want_well go g p.0.ty.set (lets.names_in b top)) (λ x. then_well (fitted_well (place_of p.1) ixs p.2) (λ c. give_well _)))

called_well : (w : World) (go : Eval) → IsEvaluator w.budget go → (f : Function) (at : Span) (b : lets.Names) → Keeps w.budget (calls.called w go Untested f at b)
called_well w go g f at b =
    then_well (g.by f.body (lets.names_in b w.top)) (λ c. then_well (index_wants_well go g f.result.index (lets.names_in b w.top)) (λ ixs. then_well (want_well go g f.result.set (lets.names_in b w.top)) (λ x. then_well (fitted_well (place_of f.body) ixs c)
    (λ r. then_well (weigh_well w.mode (or_zero (length_of r))) (λ u. done_well w at (guarded w.mode f.result.ty (both_sure b.holds (both_sure (lets.all_have_sets ixs) (arrays.suits x r))) r))))))

call_of_well : (w : World) (go : Eval) → IsEvaluator w.budget go → (f : Option Function) (es : List Tree) (cs : List Cell) (at : Span) → Keeps w.budget (calls.call_of w go Untested f es cs at)
call_of_well w go g None es cs at = done_well w at _
call_of_well w go g (Some f) es cs at = then_well (weigh_well w.mode (calls.all_lengths 0 cs)) (λ u. then_well (loop_well (calls.parameter go Untested f.result.ty.var w.top) (parameter_well go g f.result.ty.var w.top) lets.nothing_bound (calls.arguments f.params es cs)) (λ b. called_well w go g f at b))

-- ---- all forms

node_well : (w : World) (go : Eval) → IsEvaluator w.budget go → (l : Layer) (at : Span) (t : PlainType) (env : Env) → Keeps w.budget (node w go Untested l at t env)
node_well w go g (tree.chain_form e ss) at t env = chain_by_well w go g env (same_level 12 ss) (chained at e ss)
node_well w go g (tree.builtin_form n es) at t env = then_well (parts_well go g es env) (λ cs. row_or_global_well w at t cs (globals.global_of n) (operations.row_at n (forms.arguments_base es t)))
node_well w go g (tree.call_form f es) at t env = then_well (parts_well go g es env) (λ cs. call_of_well w go g (slice_get w.functions f) es cs at)
node_well w go g (tree.access_form e es) at t env = then_well (g.by e env) (λ a. then_well (parts_well go g es env) (λ cs. done_well w at _))
node_well w go g (tree.array_form es) at t env = then_well (parts_well go g es env) (λ cs. done_well w at _)
node_well w go g (tree.rows_form rs) at t env = table_well w go g rs at env
node_well w go g (tree.set_form es) at t env = then_well (parts_well go g es env) (λ cs. done_well w at _)
node_well w go g (tree.comp_form braces e gs) at t env = comprehension_well w go g braces e gs at t env
node_well w go g (tree.if_form bs els) at t env = branches_well w go g bs els at t env []
node_well w go g (tree.let_form is e) at t env = let_well w go g is e at t env
node_well w go g l at t env = done_well w at _

all_well : (w : World) (n : ℕ) → IsEvaluator w.budget (eval w n)
unfolding eval
all_well w zero = record { by = λ e env. stop_well kind.Depth _ (pos 601) }
all_well w (suc n) = record { by = λ e env. then_well (node_well w (eval w n) (all_well w n) (layer (shape_of (inner_tree e))) (place_of (inner_tree e)) (type_of (inner_tree e)) env) (λ c. coerced_well w (place_of (inner_tree e)) (root_coercions e) _) }

pub ends_within : (w : World) (n : ℕ) (e : Tree) (env : Env) (s : State) → s.work ≤ w.budget + 1 → EndsWithin w.budget (eval w n Untested e env s)
ends_within w n e env s h = ((all_well w n).by e env).by s h
