-- Forms of expressions over parts that have outlines: coercions, operators and built-ins, chains, arrays, accesses and `if`.
use Rattle.std.proofs.Common.{◌≡◌, ℕ, Bool, true, false, List, [], ◌∷◌, ◌++◌, map, Option, Some, None, refl, ap, ◌∙◌}
use Rattle.mz_base.specs.declared.fault.Span.{Span}
use Rattle.mz_value.specs.Contents as values
use Rattle.mz_core.specs.declared.types.Base.{Base}
use Rattle.mz_core.specs.Types.{PlainType}
use Rattle.mz_core.specs.Coercions.{PathLink}
use Rattle.mz_core.specs.Tree.{Tree, Step, place_of}
use Rattle.mz_meaning.specs.Runs.{then_do, give, when}
use Rattle.mz_meaning.specs.Cells.{Cell, Mode, Blank, Env, Test, Settled, Open, test_of, par_value}
use Rattle.mz_meaning.specs.Coerced.{coerced}
use Rattle.mz_meaning.specs.Operations.{row_at}
use Rattle.mz_meaning.specs.Globals.{global_of}
use Rattle.mz_meaning.specs.Arrays.{line_cell, access_cell}
use Rattle.mz_meaning.specs.Contexts.{Context, Untested, Other, elsewhere, within_links}
use Rattle.mz_meaning.specs.Chains.{Operator, Innermost, chained, same_level, before, first_in, right_in, operand_base}
use Rattle.mz_meaning.specs.Forms as forms
use Rattle.mz_meaning.specs.Forms.{World, Eval, Appended, handed}
use Rattle.mz_meaning.specs.Solutions.{Each}
use Rattle.mz_meaning_laws.specs.FreeLocals.{free_in}
use Rattle.mz_meaning_laws.specs.Outlines.{outline, outlines, outline_rows, outline_branch, outline_placed, outline_left, outline_appended, blank_world, HasOutlines}
use Rattle.mz_meaning_laws.specs.Ties.{Tie, Equal, Untesting, Strict, Without, Ties, HasOutline, HasNotes, Allows, AllowsTree, AllowsIf, AllowsStep, AllowsOperator, AllowsInnermost, AllowsBranch, EvalHasOutline}
use Rattle.mz_meaning_laws.proofs.Joins.{then_outlined, give_outlined, when_outlined, at_same, same, spend_outlined, spend_same, loop_outlined, loop_over_outlines, loop_each_outlined, weigh_outlined}
use Rattle.mz_meaning_laws.proofs.Cells.{test_outline, push_outline, coerced_outline, work_outline}
use Rattle.mz_meaning_laws.proofs.Allowed.{chained_allows}
use Rattle.mz_meaning_laws.proofs.Rows.{done_outlined, operated_outlined}
use Rattle.mz_meaning_laws.proofs.Globals.{row_or_global_outlined}
use Rattle.mz_meaning_laws.proofs.Arrays.{line_outline, table_cell_outlined, access_outline, elements_outline, branch_cell_outlined}

-- ---- contexts: what leaves Untested and Other as they are keeps a tie

pub ties_through : {t : Tie} {c d : Context} (f : Context → Context) → f Untested ≡ Untested → f Other ≡ Other → Ties t c d → Ties t (f c) (f d)
ties_through {t = Equal} f u o h = record { is = ap f h.is }
ties_through {t = Untesting} f u o h = record { is = ap f h.is ∙ u }
ties_through {t = Strict} f u o h = record { is = ap f h.is ∙ o }
ties_through {t = Without} f u o h = record { is = tt }

pub ties_elsewhere : {t : Tie} {c d : Context} → Ties t c d → Ties t (elsewhere c) (elsewhere d)
ties_elsewhere h = ties_through elsewhere refl refl h

pub ties_within : {t : Tie} {c d : Context} (ls : List PathLink) → Ties t c d → Ties t (within_links c ls) (within_links d ls)
ties_within ls h = ties_through (λ c. within_links c ls) refl refl h

ties_in_arguments : {t : Tie} {c d : Context} (k : ℕ) (b : Base) → Ties t c d → Ties t (forms.arguments_in c k b) (forms.arguments_in d k b)
ties_in_arguments k b h = ties_through (λ c. forms.arguments_in c k b) refl refl h

ties_before : {t : Tie} {c d : Context} (os : List Operator) → Ties t c d → Ties t (before c os) (before d os)
ties_before os h = ties_through (λ c. before c os) refl refl h

ties_first : {t : Tie} {c d : Context} (os : List Operator) → Ties t c d → Ties t (first_in c os) (first_in d os)
ties_first os h = ties_through (λ c. first_in c os) refl refl h

ties_right : {t : Tie} {c d : Context} (s : Step) → Ties t c d → Ties t (right_in c s) (right_in d s)
ties_right s h = ties_through (λ c. right_in c s) refl refl h

-- ---- what is handed on, and parts

pub handed_outlined : {t : Tie} {n : Bool} (mode : Mode) → HasNotes n mode → (c : Cell) → HasOutline t n (same {A = Unit {0}}) (handed mode c) (handed (Blank n) (outline c))
handed_outlined mode h c = weigh_outlined mode h (elements_outline c)

pub parts_outlined : {t : Tie} {n : Bool} {w : World} {top : Env} {go go' : Eval} → EvalHasOutline t n w top go go' → {c d : Context} → Ties t c d → (es : List Tree) → Each (AllowsTree t) es → {env env' : Env} → HasOutlines env env' → HasOutline t n outlines (forms.parts go c es env) (forms.parts go' d es env')
parts_outlined {t = t} {go = go} {go' = go'} g {c = c} {d = d} h es z {env = env} {env' = env'} i = loop_each_outlined (AllowsTree t) (forms.part go c env) (forms.part go' d env') (λ acc e y. then_outlined _ (g.by h e y i) (λ x. give_outlined (push_outline acc x))) [] es z

-- ---- coercions

coerced_once_outlined : {t : Tie} {n : Bool} (w : World) (top : Env) (at : Span) (c : Cell) (l : PathLink) → HasOutline t n outline (forms.coerced_once w at c l) (forms.coerced_once (blank_world n w top) at (outline c) l)
coerced_once_outlined {n = n} w top at c l = then_outlined (λ u. give (coerced (Blank n) l (outline c))) (spend_same w.budget at (work_outline l.0 c)) (λ u. give_outlined (coerced_outline w.mode n l c))

pub coerced_by_outlined : {t : Tie} {n : Bool} (w : World) (top : Env) (at : Span) (ls : List PathLink) (c : Cell) → HasOutline t n outline (forms.coerced_by w at ls c) (forms.coerced_by (blank_world n w top) at ls (outline c))
coerced_by_outlined {n = n} w top at ls c = loop_outlined (forms.coerced_once w at) (forms.coerced_once (blank_world n w top) at) (coerced_once_outlined w top at) c ls

-- ---- operators and built-ins

pub builtin_outlined : {t : Tie} {n : Bool} {w : World} {top : Env} {go go' : Eval} → EvalHasOutline t n w top go go' → {c d : Context} → Ties t c d → (k : ℕ) (es : List Tree) → Each (AllowsTree t) es → (at : Span) (ty : PlainType) {env env' : Env} → HasOutlines env env' → HasOutline t n outline (forms.builtin w go c k es at ty env) (forms.builtin (blank_world n w top) go' d k es at ty env')
builtin_outlined {w = w} {top = top} g h k es z at ty i = then_outlined _ (parts_outlined g (ties_in_arguments k (forms.arguments_base es ty) h) es z i) (λ cs. row_or_global_outlined w top at ty cs (global_of k) (row_at k (forms.arguments_base es ty)))

-- ---- chains

operators_outlined : {t : Tie} {n : Bool} {w : World} {top : Env} {go go' : Eval} → EvalHasOutline t n w top go go' → {c d : Context} → Ties t c d → {env env' : Env} → HasOutlines env env' → (at : Span) (left : Cell) (os : List Operator) → Each (AllowsOperator t) os → HasOutline t n outline (forms.operators w go c env at left os) (forms.operators (blank_world n w top) go' d env' at (outline left) os)
operators_outlined g h i at left [] z = give_outlined refl
operators_outlined {w = w} {top = top} g h i at left (o ∷ os) z =
    then_outlined _ (coerced_by_outlined w top at o.step.left left)
    (λ a. then_outlined _ (g.by (ties_right o.step (ties_before os h)) o.step.operand z.0 i)
    (λ x. then_outlined _ (coerced_by_outlined w top (forms.operand_place o.step) o.step.right x)
    (λ b. then_outlined _ (operated_outlined w top o.at o.step.ty o.step.row (operand_base o.step) (a ∷ b ∷ []))
    (λ next. operators_outlined g h i o.at next os z.1))))

append_operand_outlined : {t : Tie} {n : Bool} {w : World} {top : Env} {go go' : Eval} → EvalHasOutline t n w top go go' → {c d : Context} → Ties t c d → {env env' : Env} → HasOutlines env env' → (x : Appended) (o : Operator) → AllowsOperator t o → HasOutline t n outline_appended (forms.append_operand w go c env x o) (forms.append_operand (blank_world n w top) go' d env' (outline_appended x) o)
append_operand_outlined {w = w} {top = top} g h i x o z = then_outlined _ (coerced_by_outlined w top x.place o.step.left x.last) (λ a. then_outlined _ (g.by h o.step.operand z i) (λ y. give_outlined refl))

append_operands_outlined : {t : Tie} {n : Bool} {w : World} {top : Env} {go go' : Eval} → EvalHasOutline t n w top go go' → {env env' : Env} → HasOutlines env env' → (os : List Operator) → Each (AllowsOperator t) os → {c d : Context} → Ties t c d → (x : Appended) → HasOutline t n outline_appended (forms.append_operands w go c env x os) (forms.append_operands (blank_world n w top) go' d env' (outline_appended x) os)
append_operands_outlined g i [] z h x = give_outlined refl
append_operands_outlined g i (o ∷ os) z h x =
    then_outlined _ (append_operand_outlined g (ties_first os (ties_right o.step h)) i x o z.0) (λ y. append_operands_outlined g i os z.1 (ties_right o.step h) y)

append_node_outlined : {t : Tie} {n : Bool} (w : World) (top : Env) (right : Span × Cell) (p : Operator × Cell) → HasOutline t n outline_placed (forms.append_node w right p) (forms.append_node (blank_world n w top) (outline_placed right) (outline_left p))
append_node_outlined w top right p =
    then_outlined _ (coerced_by_outlined w top right.0 p.0.step.right right.1)
    (λ b. then_outlined _ (operated_outlined w top p.0.at p.0.step.ty p.0.step.row (operand_base p.0.step) (p.1 ∷ b ∷ [])) (λ next. give_outlined refl))

appended_outlined : {t : Tie} {n : Bool} {w : World} {top : Env} {go go' : Eval} → EvalHasOutline t n w top go go' → {c d : Context} → Ties t c d → {env env' : Env} → HasOutlines env env' → (f : Innermost) → AllowsInnermost t f → (first : Cell) → HasOutline t n outline (forms.appended w go c env f first) (forms.appended (blank_world n w top) go' d env' f (outline first))
appended_outlined {n = n} {w = w} {top = top} g h i f z first =
    then_outlined _ (append_operands_outlined g i f.operators z.tail h (record { lefts = []; place = place_of f.first; last = first }))
    (λ x. then_outlined _ (loop_over_outlines outline_left (forms.append_node w) (forms.append_node (blank_world n w top)) (append_node_outlined w top) (x.place, x.last) x.lefts) (λ r. give_outlined refl))

chain_by_outlined : {t : Tie} {n : Bool} {w : World} {top : Env} {go go' : Eval} → EvalHasOutline t n w top go go' → {c d : Context} → Ties t c d → {env env' : Env} → HasOutlines env env' → (b : Bool) (f : Innermost) → AllowsInnermost t f → HasOutline t n outline (forms.chain_by w go c env b f) (forms.chain_by (blank_world n w top) go' d env' b f)
chain_by_outlined g h i true f z = then_outlined _ (g.by (ties_first f.operators h) f.first z.head i) (λ x. appended_outlined g h i f z x)
chain_by_outlined g h i false f z = then_outlined _ (g.by (ties_before f.operators h) f.first z.head i) (λ x. operators_outlined g h i (place_of f.first) x f.operators z.tail)

pub chain_outlined : {t : Tie} {n : Bool} {w : World} {top : Env} {go go' : Eval} → EvalHasOutline t n w top go go' → {c d : Context} → Ties t c d → (e : Tree) (ss : List Step) → Allows t (free_in e) → Each (AllowsStep t) ss → (at : Span) {env env' : Env} → HasOutlines env env' → HasOutline t n outline (forms.chain w go c e ss at env) (forms.chain (blank_world n w top) go' d e ss at env')
chain_outlined {t = t} g h e ss y z at i = chain_by_outlined g h i (same_level 12 ss) (chained at e ss) (chained_allows t at e ss y z)

-- ---- arrays and accesses

pub array_outlined : {t : Tie} {n : Bool} {w : World} {top : Env} {go go' : Eval} → EvalHasOutline t n w top go go' → {c d : Context} → Ties t c d → (es : List Tree) → Each (AllowsTree t) es → (at : Span) {env env' : Env} → HasOutlines env env' → HasOutline t n outline (forms.array w go c es at env) (forms.array (blank_world n w top) go' d es at env')
array_outlined {n = n} {w = w} {top = top} g h es z at i = then_outlined _ (parts_outlined g h es z i) (λ cs. done_outlined w top at (line_cell w.mode cs) (line_outline w.mode n cs))

push_row : (rs : List (List Cell)) (cs : List Cell) → outline_rows rs ++ outlines cs ∷ [] ≡ outline_rows (rs ++ cs ∷ [])
push_row [] cs = refl
push_row (r ∷ rs) cs = ap (λ xs. outlines r ∷ xs) (push_row rs cs)

pub table_outlined : {t : Tie} {n : Bool} {w : World} {top : Env} {go go' : Eval} → EvalHasOutline t n w top go go' → {c d : Context} → Ties t c d → (rs : List (List Tree)) → Each (λ r. Each (AllowsTree t) r) rs → (at : Span) {env env' : Env} → HasOutlines env env' → HasOutline t n outline (forms.table w go c rs at env) (forms.table (blank_world n w top) go' d rs at env')
table_outlined {t = t} {w = w} {go = go} {go' = go'} g {c = c} {d = d} h rs z at {env = env} {env' = env'} i =
    then_outlined _ (loop_each_outlined (λ r. Each (AllowsTree t) r) (forms.row_of_parts go c env) (forms.row_of_parts go' d env') (λ acc es y. then_outlined _ (parts_outlined g h es y i) (λ cs. give_outlined (push_row acc cs))) [] rs z)
    (λ rows. then_outlined _ (spend_outlined w.budget at 1) (λ u. table_cell_outlined w.mode at rows))

pub access_outlined : {t : Tie} {n : Bool} {w : World} {top : Env} {go go' : Eval} → EvalHasOutline t n w top go go' → {c d : Context} → Ties t c d → (e : Tree) (es : List Tree) → Allows t (free_in e) → Each (AllowsTree t) es → (at : Span) (ty : PlainType) {env env' : Env} → HasOutlines env env' → HasOutline t n outline (forms.access w go c e es at ty env) (forms.access (blank_world n w top) go' d e es at ty env')
access_outlined {n = n} {w = w} {top = top} g h e es y z at ty i =
    then_outlined _ (g.by h e y i) (λ a. then_outlined _ (parts_outlined g h es z i) (λ cs. done_outlined w top at (access_cell w.mode ty a cs) (access_outline w.mode n ty a cs)))

-- ---- `if`

last_branch_outlined : {t : Tie} {n : Bool} {w : World} {top : Env} {go go' : Eval} → EvalHasOutline t n w top go go' → {c d : Context} → Ties t c d → (e : Tree) → Allows t (free_in e) → (at : Span) (ty : PlainType) {env env' : Env} → HasOutlines env env' → (acc : List (Cell × Cell)) → HasOutline t n outline (forms.last_branch w go c e at ty env acc) (forms.last_branch (blank_world n w top) go' d e at ty env' (map outline_branch acc))
last_branch_outlined {w = w} g h e z at ty i acc =
    then_outlined _ (g.by h e z i) (λ x. then_outlined _ (handed_outlined w.mode g.notes x) (λ v. then_outlined _ (spend_outlined w.budget at 1) (λ u. branch_cell_outlined w.mode ty at acc x)))

otherwise_outlined : {t : Tie} {n : Bool} {w : World} {top : Env} {go go' : Eval} → EvalHasOutline t n w top go go' → {c d : Context} → Ties t c d → (e : Option Tree) → AllowsIf t e → (at : Span) (ty : PlainType) {env env' : Env} → HasOutlines env env' → (acc : List (Cell × Cell)) → HasOutline t n outline (forms.otherwise w go c e at ty env acc) (forms.otherwise (blank_world n w top) go' d e at ty env' (map outline_branch acc))
otherwise_outlined {w = w} g h None z at ty i acc = then_outlined _ (spend_outlined w.budget at 1) (λ u. branch_cell_outlined w.mode ty at acc (par_value (values.bool true)))
otherwise_outlined g h (Some e) z at ty i acc = last_branch_outlined g h e z at ty i acc

push_branch : (ps : List (Cell × Cell)) (c x : Cell) → map outline_branch ps ++ (outline c, outline x) ∷ [] ≡ map outline_branch (ps ++ (c, x) ∷ [])
push_branch [] c x = refl
push_branch (p ∷ ps) c x = ap (λ qs. outline_branch p ∷ qs) (push_branch ps c x)

open_branch_outlined : {t : Tie} {n : Bool} {w : World} {top : Env} {go go' : Eval} → EvalHasOutline t n w top go go' → {c d : Context} → Ties t c d → (e : Tree) → Allows t (free_in e) → {env env' : Env} → HasOutlines env env' → (acc : List (Cell × Cell)) (x : Cell) (k : Test) → HasOutline t n (map outline_branch) (forms.open_branch w go c e env acc x k) (forms.open_branch (blank_world n w top) go' d e env' (map outline_branch acc) (outline x) k)
open_branch_outlined g h e z i acc x (Settled b) = give_outlined refl
open_branch_outlined {w = w} g h e z i acc x Open = then_outlined _ (g.by h e z i) (λ y. then_outlined _ (handed_outlined w.mode g.notes y) (λ v. give_outlined (push_branch acc x y)))

pub branches_outlined : {t : Tie} {n : Bool} {w : World} {top : Env} {go go' : Eval} → EvalHasOutline t n w top go go' → {c d : Context} → Ties t c d → (bs : List (Tree × Tree)) (els : Option Tree) → Each (AllowsBranch t) bs → AllowsIf t els → (at : Span) (ty : PlainType) {env env' : Env} → HasOutlines env env' → (acc : List (Cell × Cell)) → HasOutline t n outline (forms.branches w go c bs els at ty env acc) (forms.branches (blank_world n w top) go' d bs els at ty env' (map outline_branch acc))
branches_outlined g h [] els y z at ty i acc = otherwise_outlined g h els z at ty i acc
branches_outlined {n = n} {w = w} {top = top} {go' = go'} g {d = d} h (b ∷ bs) els y z at ty {env' = env'} i acc =
    then_outlined _ (g.by (ties_elsewhere h) b.0 y.0.cond i)
    (λ x. at_same (λ k. when (forms.is_met k) (forms.last_branch (blank_world n w top) go' d b.1 at ty env' (map outline_branch acc)) (λ s. then_do (forms.open_branch (blank_world n w top) go' d b.1 env' (map outline_branch acc) (outline x) k s) (forms.branches (blank_world n w top) go' d bs els at ty env'))) (test_outline x)
    (when_outlined (forms.is_met (test_of x)) (last_branch_outlined g h b.1 y.0.branch at ty i acc) (then_outlined _ (open_branch_outlined g h b.1 y.0.branch i acc x (test_of x)) (λ next. branches_outlined g h bs els y.1 z at ty i next))))
