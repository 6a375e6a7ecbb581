-- The operators of chains, one after the other.
use Rattle.std.proofs.Common.{◌≡◌, ◌∙◌, ℕ, zero, suc, ◌+◌, ◌-◌, ◌<◌, Bool, true, false, Option, Some, None, is_some, List, [], ◌∷◌, map, take, drop, length, get_or, refl, sym, ap, arith, if◌then◌else◌}
use Rattle.std.proofs.lemmas.List.{at_drop_more}
use Rattle.mz_base.specs.declared.fault.Span.{Span}
use Rattle.mz_core.specs.declared.tree.CoreStep.{CoreStep}
use Rattle.mz_core.specs.Tree.{Tree, Step, steps, place_of}
use Rattle.mz_core.specs.TreeViews.{step}
use Rattle.mz_meaning.specs.Runs.{State, Answer, Out, then_do}
use Rattle.mz_meaning.specs.Cells.{Cell, Env}
use Rattle.mz_meaning.specs.Contexts.{Context, Untested, Positive, Other}
use Rattle.mz_meaning.specs.Chains.{Operator, Innermost, with_innermost, chained, innermost_of, chain_level, same_level, backed, operand_base, left_in, right_in, before, first_in}
use Rattle.mz_meaning.specs.Forms.{World, Eval, coerced_by, operated, operators, operand_place, chain, chain_by, Appended, append_operand, append_operands}
use Rattle.mz_eval_chains.specs.declared.types.Operator as code
use Rattle.mz_eval_chains.specs.Innermosts.{operator_of}
use Rattle.mz_eval_nodes.specs.Contexts.{settled}
use Rattle.mz_eval_nodes.specs.Operators.{operator_step}
use Rattle.mz_eval_chains.proofs.Runs.{regroup, then_same, out_again}
use Rattle.mz_eval.specs.Chains.{one_operator}

pub operators_next : (w : World) (go : Eval) (ctx : Context) (env : Env) (at : Span) (left : Cell) (o : Operator) (os : List Operator) (s : State) → operators w go ctx env at left (o ∷ os) s ≡ then_do (operator_step w go (right_in (before ctx os) o.step) env at left o s) (λ next. operators w go ctx env o.at next os)
operators_next w go ctx env at left o os s = regroup (coerced_by w at o.step.left left s) (λ a. go (right_in (before ctx os) o.step) o.step.operand env) (λ a c. coerced_by w (operand_place o.step) o.step.right c) (λ a c b. operated w o.at o.step.ty o.step.row (operand_base o.step) (a ∷ b ∷ [])) (λ next. operators w go ctx env o.at next os)

-- ---- where all operands have the chain's context

settled_before : (ctx : Context) (os : List Operator) → settled ctx ≡ true → before ctx os ≡ ctx
settled_before Untested os h = refl
settled_before Positive os h = absurd (cc)
settled_before Other os h = refl

settled_right : (ctx : Context) (s : Step) → settled ctx ≡ true → right_in ctx s ≡ ctx
settled_right Untested s h = refl
settled_right Positive s h = absurd (cc)
settled_right Other s h = refl

pub operators_settled : (w : World) (go : Eval) (ctx : Context) (env : Env) (at : Span) (left : Cell) (o : Operator) (os : List Operator) (s : State) → settled ctx ≡ true → operators w go ctx env at left (o ∷ os) s ≡ then_do (operator_step w go ctx env at left o s) (λ next. operators w go ctx env o.at next os)
operators_settled w go ctx env at left o os s h =
    operators_next w go ctx env at left o os s
    ∙ ap (λ k. then_do (operator_step w go k env at left o s) (λ next. operators w go ctx env o.at next os)) (ap (λ k. right_in k o.step) (settled_before ctx os h) ∙ settled_right ctx o.step h)

pub chain_settled : (w : World) (go : Eval) (ctx : Context) (env : Env) (f : Innermost) (s : State) → settled ctx ≡ true → chain_by w go ctx env false f s ≡ then_do (go ctx f.first env s) (λ left. operators w go ctx env (place_of f.first) left f.operators)
chain_settled w go ctx env f s h = ap (λ k. then_do (go k f.first env s) (λ left. operators w go ctx env (place_of f.first) left f.operators)) (settled_before ctx f.operators h)

-- ---- which operators a chain has

no_innermost_is : (f : Option Innermost) → is_some f ≡ false → f ≡ None
no_innermost_is None h = refl
no_innermost_is (Some f) h = absurd (cc)

abbrev chained_if : Bool → Span → Tree → List Step → Innermost
chained_if t at e ss = if t then record { first = e; operators = backed at (steps ss); links = [] } else with_innermost at ss e (innermost_of (chain_level ss) e)

-- a chain by whether it is one of `++`
pub chain_is : (w : World) (go : Eval) (ctx : Context) (env : Env) (at : Span) (e : Tree) (ss : List Step) (s : State) (t b : Bool) → t ≡ same_level 12 ss → t ≡ b → chain w go ctx e ss at env s ≡ chain_by w go ctx env b (chained at e ss) s
chain_is w go ctx env at e ss s t b p q = ap (λ u. chain_by w go ctx env u (chained at e ss) s) (sym p ∙ q)

pub no_innermost : (w : World) (go : Eval) (ctx : Context) (env : Env) (at : Span) (e : Tree) (ss : List Step) (s : State) (t f : Bool) → t ≡ same_level 12 ss → t ≡ false → f ≡ is_some (innermost_of (chain_level ss) e) → f ≡ false → chain w go ctx e ss at env s ≡ chain_by w go ctx env false (with_innermost at ss e None) s
no_innermost w go ctx env at e ss s t f p q r k =
    chain_is w go ctx env at e ss s t false p q
    ∙ ap (λ u. chain_by w go ctx env false (chained_if u at e ss) s) (sym p ∙ q)
    ∙ ap (λ o. chain_by w go ctx env false (with_innermost at ss e o) s) (no_innermost_is (innermost_of (chain_level ss) e) (sym r ∙ k))

-- ---- one operator

before_one : (ctx : Context) (o : Operator) → before ctx (o ∷ []) ≡ left_in ctx o.step
before_one Untested o = refl
before_one Positive o = refl
before_one Other o = refl

before_none : (ctx : Context) → before ctx [] ≡ ctx
before_none Untested = refl
before_none Positive = refl
before_none Other = refl

operators_one : (w : World) (go : Eval) (ctx : Context) (env : Env) (at : Span) (left : Cell) (o : Operator) (s : State) → operators w go ctx env at left (o ∷ []) s ≡ operator_step w go (right_in ctx o.step) env at left o s
operators_one w go ctx env at left o s =
    operators_next w go ctx env at left o [] s
    ∙ out_again (operator_step w go (right_in (before ctx []) o.step) env at left o s)
    ∙ ap (λ k. operator_step w go (right_in k o.step) env at left o s) (before_none ctx)

pub chain_of_one : (w : World) (go : Eval) (ctx : Context) (env : Env) (at : Span) (e : Tree) (x : Step) (s : State) → chain_by w go ctx env false (with_innermost at (x ∷ []) e None) s ≡ one_operator w go ctx env at e x s
chain_of_one w go ctx env at e x s =
    let o : Operator = record { at = at; step = x } in
    ap (λ k. then_do (go k e env s) (λ left. operators w go ctx env (place_of e) left (o ∷ []))) (before_one ctx o)
    ∙ then_same (go (left_in ctx x) e env s) (λ left. operators w go ctx env (place_of e) left (o ∷ [])) (λ left. operator_step w go (right_in ctx x) env (place_of e) left o) (λ left t. operators_one w go ctx env (place_of e) left o t)

pub steps_one : (xs : List CoreStep) (d : CoreStep) → length xs ≡ 1 → map step xs ≡ step (get_or xs 0 d) ∷ []
steps_one [] d h = absurd (omega arith)
steps_one (x ∷ []) d h = refl
steps_one (x ∷ y ∷ xs) d h = absurd (omega arith)

-- ---- `++`: an operand more

all_taken : {A : Type 0} (xs : List A) → take (length xs) xs ≡ xs
all_taken [] = refl
all_taken (x ∷ xs) = ap (λ ys. x ∷ ys) (all_taken xs)

none_taken : {A : Type 0} (k : ℕ) → take {A = A} k [] ≡ []
none_taken zero = refl
none_taken (suc k) = refl

-- those from a place on
pub taken_from : {A : Type 0} (n : ℕ) (xs : List A) → take (length xs - n) (drop n xs) ≡ drop n xs
taken_from zero xs =
    let all : length xs - 0 ≡ length xs = omega arith in
    ap (λ k. take k xs) all ∙ all_taken xs
taken_from (suc n) [] = none_taken (0 - suc n)
taken_from (suc n) (x ∷ xs) =
    let fewer : length (x ∷ xs) - suc n ≡ length xs - n = omega arith in
    ap (λ k. take k (drop n xs)) fewer ∙ taken_from n xs

pub append_goes : (w : World) (go : Eval) (env : Env) (xs : List code.Operator) (i : ℕ) (o : code.Operator) (rest : List code.Operator) (x y : Appended) (ctx inside place : Context) (s t : State) (whole : Answer Appended) → i < length xs → o ≡ get_or xs i o → rest ≡ drop (i + 1) xs → inside ≡ right_in ctx (operator_of o).step → place ≡ first_in inside (map operator_of rest) → append_operand w go place env x (operator_of o) s ≡ Out y t → whole ≡ append_operands w go ctx env x (map operator_of (drop i xs)) s → whole ≡ append_operands w go inside env y (map operator_of (drop (i + 1) xs)) t
append_goes w go env xs i o rest x y ctx inside place s t whole l e d r f h k =
    let os = map operator_of (drop (i + 1) xs) in
    let p = operator_of o in
    k
    ∙ at_drop_more (λ ys. append_operands w go ctx env x (map operator_of ys) s) xs i o l
    ∙ ap (λ z. append_operands w go ctx env x (operator_of z ∷ os) s) (sym e)
    ∙ ap (λ c. then_do (append_operand w go (first_in c os) env x p s) (λ n. append_operands w go c env n os)) (sym r)
    ∙ ap (λ c. then_do (append_operand w go c env x p s) (λ n. append_operands w go inside env n os)) (sym (f ∙ ap (λ zs. first_in inside (map operator_of zs)) d))
    ∙ ap (λ a. then_do a (λ n. append_operands w go inside env n os)) h
