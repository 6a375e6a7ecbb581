use Rattle.std.proofs.Common.{◌≡◌, ◌∙◌, ◌-◌, ◌++◌, false, length, map, take, refl, sym, ap, arith, rules}
use Rattle.mz_core.specs.Tree.{root_coercions}
use Rattle.mz_core.specs.TreeViews.{tree, step}
use Rattle.mz_meaning.specs.Chains.{same_level}
use Rattle.mz_eval_chains.specs.Innermosts.{operator_of}
use Rattle.mz_eval_chains.proofs.Heads.{list_by_last, no_level}
use Rattle.mz_eval_chains.proofs.Layers.{last_of_chain, last_of_other, last_coerced, other_end}
use Rattle.mz_eval_chains.proofs.chains.+with_last.Goals as goal
use Rattle.mz_eval_chains.proofs.chains.+with_last.Goals.{then-count-eq0-via-then-count-eq0, then-count-eq0-via-else-count-eq0+then-not-is_appended}

pub returns-in_ok-ended-in-Chain : goal.returns-in_ok-ended-in-Chain
returns-in_ok-ended-in-Chain t c =
    let s = c.args.s.now in
    let all = c.as_slice-steps.result.now in
    let x = c.index-steps-count.result in
    last_of_chain c.args.at (step s) (root_coercions (tree s.operand)) c.args.e.now c.deref.result.now _ _ all (take (length all - 1) all) x c.place_after-place.result _ _ _ c.in-Chain.is c.deref.ensures c.as_slice-steps.ensures.value (search rules)
    (list_by_last (length all) all (take (length all - 1) all) x refl c.if-count-eq0.false c.index-steps-count.is refl)
    c.in_ok-begun-in-Chain.ensures c.place_after-place.ensures c.in_ok-ended-in-Chain.ensures

pub returns-in_ok-under-in-Coerce : goal.returns-in_ok-under-in-Coerce
returns-in_ok-under-in-Coerce t c =
    let s = c.args.s.now in
    other_end _ _ _ _ (last_coerced c.args.at (step s) (root_coercions (tree s.operand)) c.args.e.now c.deref-in-Coerce.result.now _ _ c.in-Coerce.is c.deref-in-Coerce.ensures) c.in_ok-under-in-Coerce.ensures

pub returns-then-count-eq0 : goal.returns-then-count-eq0
returns-then-count-eq0 t c =
    let s = c.args.s.now in
    let all = c.as_slice-steps.result.now in
    let other : same_level 12 (map step all) ≡ false =
    elim c.then-count-eq0.branch [ then-count-eq0-via-then-count-eq0 w ↦ sym (no_level 12 all (omega (arith, w.if-count-eq0.true))) | then-count-eq0-via-else-count-eq0+then-not-is_appended w ↦ search rules ] in
    c.in_ok-plain-in-Chain.ensures
    ∙ ap (λ os. map operator_of c.args.all.items ++ os) (last_of_other c.args.at (step s) (root_coercions (tree s.operand)) c.args.e.now _ _ all c.in-Chain.is c.as_slice-steps.ensures.value other)
