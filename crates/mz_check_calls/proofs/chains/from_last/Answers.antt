use Rattle.std.proofs.Common.{◌≡◌, ◌∷◌, [], ◌++◌, map, vec_len, arith, sym, subst, ap, ◌∙◌}
use Rattle.mz_core.specs.Types.{PlainType, plain_type}
use Rattle.mz_core.specs.Tree.{type_of}
use Rattle.mz_core.specs.TreeViews.{tree}
use Rattle.mz_check_meaning.specs.Chains.{Chained, from_right}
use Rattle.mz_check_meaning.specs.Passes.{Passes}
use Rattle.mz_check_forms.proofs.Passing.{stops}
use Rattle.mz_check_calls.specs.StepsChains.{preceded}
use Rattle.mz_check_calls.specs.Views.{operand, chained_back}
use Rattle.mz_check_calls.proofs.Preceding.{from_the_last, left_before, back_of_none, step_taken, step_stopped, step_last, none_popped, none_there}
use Rattle.mz_check_calls.proofs.chains.from_last.Goals as goal

pub loop-left-init : goal.loop-left-init
loop-left-init c =
    let e = tree c.args.first.now in
    let os = c.args.operands.items in
    let o = c.args.last in
    from_the_last c.args.span e (map operand os) (operand o)
    ∙ ap (λ (x : Chained). left_before c.args.span (type_of e) os o x) (sym (back_of_none c.in_ok-acc.acc (type_of (tree o.tree)) c.in_ok-acc.ensures))

pub returns-in_err-acc-2 : goal.returns-in_err-acc-2
returns-in_err-acc-2 c =
    let e = tree c.args.first.now in
    let right = c.loop-left.right in
    let after = chained_back c.loop-left.acc in
    let s = c.in-Some.left.operator.start in
    let t = plain_type c.type_of.result.now in
    let whole = from_right c.args.span e (map operand c.args.operands.items ++ operand c.args.last ∷ []) in
    stops chained_back chained_back c.from_residual-in_err-acc-2.result c.in_err-acc-2.field-0.0 (preceded s t (operand right) after) whole c.from_residual-in_err-acc-2.ensures.1
    (λ f p. step_stopped c.args.span (type_of e) whole c.loop-left.before.items c.pop.new.self.items c.in-Some.left right after f t c.loop-left.invariant c.in-Some.ensures.items c.type_of.ensures p)
    c.in_err-acc-2.ensures

pub loop-left-preserved : goal.loop-left-preserved
loop-left-preserved c =
    let e = tree c.args.first.now in
    let whole = from_right c.args.span e (map operand c.args.operands.items ++ operand c.args.last ∷ []) in
    step_taken c.args.span (type_of e) whole c.loop-left.before.items c.pop.new.self.items c.in-Some.left c.loop-left.right (chained_back c.loop-left.acc) (chained_back c.in_ok-acc-2.acc)
    (plain_type c.type_of.result.now) c.loop-left.invariant c.in-Some.ensures.items c.type_of.ensures c.in_ok-acc-2.ensures

pub returns : goal.returns
returns c =
    let e = tree c.args.first.now in
    let os = c.loop-left.before in
    let right = c.loop-left.right in
    let after = chained_back c.loop-left.acc in
    let whole = from_right c.args.span e (map operand c.args.operands.items ++ operand c.args.last ∷ []) in
    let popped : vec_len os ≡ 0 = none_popped (vec_len os) (vec_len c.pop.new.self) c.pop.result c.in_default.not-Some c.pop.ensures.cases in
    let none : os.items ≡ [] = none_there os.items (omega (arith, popped, os.ok.0)) in
    subst (Passes chained_back c.preceded-2.result) (sym (step_last c.args.span (type_of e) whole os.items right after c.loop-left.invariant none))
    (subst (λ (t : PlainType). Passes chained_back c.preceded-2.result (preceded c.args.span t (operand right) after)) c.type_of-2.ensures c.preceded-2.ensures)
