use Rattle.std.proofs.Common.{◌≡◌, ◌∙◌, ◌++◌, ◌*◌, ◌-◌, List, suc, ap, sym, arith, rules, append_assoc, append-nil, map, drop, to_z, of_z, w64}
use Rattle.std.proofs.lemmas.Int.{to_z-of_z}
use Rattle.mz_operations.specs.Bounds.{Bound}
use Rattle.mz_index.specs.Places.{count_of}
use Rattle.mz_eval_cells.specs.Views.{known_bound}
use Rattle.mz_eval_access.specs.Places.{places_of}
use Rattle.mz_eval_access.specs.StepsPlaces.{reach, runs, steps_between}
use Rattle.mz_eval_access.proofs.Reached.{sweep_runs, runs_step, runs_none}
use Rattle.mz_eval_access.proofs.placing.+reaching.Goals as goal

pub with_swept-loop-left-init : goal.with_swept-loop-left-init
with_swept-loop-left-init t c =
    let go : List Bound → List Bound = reach c.args.ranges.now c.args.ends.now in
    let each = count_of c.args.ranges.now in
    let xs = places_of c.args.p in
    let low = to_z-of_z w64 c.args.r.0 (search rules) in
    let first = to_z-of_z w64 c.overlap-reached.result.0 (search rules) in
    let rest =
    c.from_index-rest.ensures each c.count_in-each.ensures
    ∙ ap (λ z. drop (steps_between z (to_z w64 (of_z w64 c.overlap-reached.result.0)) * each) xs) low
    ∙ ap (λ z. drop (steps_between c.args.r.0 z * each) xs) first in
    ap (λ s. map known_bound c.args.out.items ++ s)
    (sweep_runs go c.args.r c.args.e c.overlap-reached.result each _ xs _ c.overlap-reached.ensures c.length_of-left.ensures.value rest)

pub with_swept-loop-left-preserved : goal.with_swept-loop-left-preserved
with_swept-loop-left-preserved t c =
    let go : List Bound → List Bound = reach c.args.ranges.now c.args.ends.now in
    let each = count_of c.args.ranges.now in
    let left = c.loop-left.left in
    let next : left ≡ suc (left - 1) = omega (arith, c.loop-left-test.true) in
    let before = map known_bound c.loop-left.all.items in
    let first = go (places_of c.loop-left.rest) in
    let tail = runs go each (left - 1) (places_of c.after-rest.result) in
    c.loop-left.invariant
    ∙ ap (λ s. before ++ s) (runs_step go each left (left - 1) (places_of c.loop-left.rest) next ∙ ap (λ p. first ++ runs go each (left - 1) p) (sym (c.after-rest.ensures each c.count_in-each.ensures)))
    ∙ sym (append_assoc before first tail)
    ∙ ap (λ s. s ++ tail) (sym c.in_ok-all.ensures)

pub with_swept-returns : goal.with_swept-returns
with_swept-returns t c =
    let go : List Bound → List Bound = reach c.args.ranges.now c.args.ends.now in
    let each = count_of c.args.ranges.now in
    sym (c.loop-left.invariant ∙ ap (λ s. map known_bound c.loop-left.all.items ++ s) (runs_none go each c.loop-left.left (places_of c.loop-left.rest) (omega (arith, c.loop-left-test.false))) ∙ append-nil (map known_bound c.loop-left.all.items))
