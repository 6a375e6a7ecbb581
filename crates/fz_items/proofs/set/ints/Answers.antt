use Rattle.std.proofs.Common.{List, ℤ, ap, ◌∙◌, sym, arith, rules, subst, Some, ◌++◌, ◌∷◌, []}
use Rattle.std.proofs.lemmas.Int.{to_z-of_z}
use mir.Syntax.{w64}
use mir.Val.{SFits}
use Rattle.fz_items.proofs.IntLists.{HasRead, begins, goes_on, ends, fails, fails_along}
use Rattle.fz_items.proofs.set.ints.Goals as goal

pub items-init : goal.items-init
items-init c =
    let P : List ℤ → Type 0 = λ xs. HasRead c.args.bytes.now xs c.args.bytes.now in
    subst P (sym c.new-items.ensures.items) (begins c.args.bytes.now)

pub returns-in-Err : goal.returns-in-Err
returns-in-Err c =
    fails_along c.in-Err.miss _ _ c.in-Err.ensures.reads (fails c.args.bytes.now c.items.items.items c.items.rest.now c.items.invariant)

pub items-preserved : goal.items-preserved
items-preserved c =
    let fits : SFits w64 c.in-Ok.read.0 = search rules in
    let P : List ℤ → Type 0 = λ xs. HasRead c.args.bytes.now xs c.in-Some.next.now in
    subst P (sym (c.in_ok-push.ensures.items ∙ ap (λ (y : ℤ). c.items.items.items ++ y ∷ []) (to_z-of_z w64 c.in-Ok.read.0 fits)))
    (goes_on c.args.bytes.now c.items.items.items c.items.rest.now (c.in-Ok.read.1).now c.in-Some.next.now c.in-Ok.read.0 c.items.invariant (omega (arith, c.in-Some.ensures.shorter, c.in-Ok.ensures.shorter)) c.in-Ok.ensures.reads (sym c.in-Some.ensures.value))

pub returns-in-None : goal.returns-in-None
returns-in-None c =
    let fits : SFits w64 c.in-Ok.read.0 = search rules in
    ends c.args.bytes.now c.items.items.items c.items.rest.now (c.in-Ok.read.1).now c.in-Ok.read.0 c.items.invariant c.in-Ok.ensures.shorter c.in-Ok.ensures.reads (sym c.in-None.ensures.value)
    ∙ ap (λ (xs : List ℤ). Some (xs, (c.in-Ok.read.1).now)) (sym (c.in_ok-push.ensures.items ∙ ap (λ (y : ℤ). c.items.items.items ++ y ∷ []) (to_z-of_z w64 c.in-Ok.read.0 fits)))
