use Rattle.std.proofs.Common.{◌≡◌, ◌+◌, ◌*◌, ◌-◌, ◌<◌, Some, length, drop, map, slice_index_or, sym, ap, subst, arith}
use Rattle.std.specs.List.{list_all}
use Rattle.mz_arena.specs.Values.{arith_term}
use Rattle.mz_arena.specs.Values as terms
use Rattle.mz_operations.specs.declared.row.Arith.TheVariants as arith_row
use Rattle.mz_operations.specs.Views.{number_of_bool}
use Rattle.mz_symbol.specs.Makes.{GoesOnBy}
use Rattle.glob_nodes.specs.declared.nodes.Compare.TheVariants.{Differ}
use Rattle.glob_nodes.specs.Says.{Gives, num, compares, pair_count}
use Rattle.glob_nodes.proofs.Telling.{given_step, tail_is, drop_all, goes_more}
use Rattle.glob_nodes.proofs.Counting.{count_term, given_from, gives_like}
use Rattle.glob_count.specs.Senses.{distinct_among}
use Rattle.glob_count.proofs.Meanings.{distinct_goes}
use Rattle.glob_count.proofs.Costs.{distinct_room, distinct_most}
use Rattle.glob_count.proofs.values.distinct.Goals as goal

pub loop-k-init : goal.loop-k-init
loop-k-init c = (
  given_from _ c.args.run.now c.number.new.run _ _ c.in_ok-acc.acc c.in_ok-acc.ensures.goes c.in_ok-acc.ensures.gives
      (λ r. ap (λ is. count_term (distinct_among (map (num r) is))) (sym (drop_all c.args.ids.now))),
  omega arith,
)

pub loop-k-preserved : goal.loop-k-preserved
loop-k-preserved c =
    let low : 0 < c.loop-k.k = omega (arith, c.loop-k-test.true) in (
      given_step (20 * (length (drop c.loop-k.k c.args.ids.now) + pair_count (drop c.loop-k.k c.args.ids.now))) (12 * length (drop c.loop-k.k c.args.ids.now) + 8) _ c.args.run.now c.loop-k.run c.one_more.new.run
          (λ r. count_term (distinct_among (map (num r) (drop c.loop-k.k c.args.ids.now))))
          _
          (λ r t. arith_term arith_row.Add (Some (terms.number (number_of_bool (list_all (λ y. compares Differ (num r (slice_index_or c.args.ids.now (c.loop-k.k - 1) 0)) (num r y)) (drop c.loop-k.k c.args.ids.now))))) t)
          c.loop-k.acc c.in_ok-acc-2.acc
          (distinct_room c.args.ids.now c.loop-k.k c.loop-k.invariant.1 low)
          c.loop-k.invariant.0
          (subst (λ ys. GoesOnBy (12 * length ys + 8) c.loop-k.run c.one_more.new.run) (tail_is c.loop-k.k c.args.ids.now) c.in_ok-acc-2.ensures.goes)
          (subst (λ ys. Gives c.loop-k.run c.one_more.new.run (λ r. arith_term arith_row.Add (Some (terms.number (number_of_bool (list_all (λ y. compares Differ (num r (slice_index_or c.args.ids.now (c.loop-k.k - 1) 0)) (num r y)) ys)))) (r.term c.loop-k.acc)) c.in_ok-acc-2.acc) (tail_is c.loop-k.k c.args.ids.now) c.in_ok-acc-2.ensures.gives)
          (λ r. distinct_goes r c.args.ids.now c.loop-k.k c.loop-k.invariant.1 low),
      omega (arith, c.loop-k.invariant.1),
    )

pub returns-in_err-acc-2-clause-goes : goal.returns-in_err-acc-2-clause-goes
returns-in_err-acc-2-clause-goes c =
    let low : 0 < c.loop-k.k = omega (arith, c.loop-k-test.true) in
    goes_more (20 * (length (drop c.loop-k.k c.args.ids.now) + pair_count (drop c.loop-k.k c.args.ids.now))) (12 * length (drop c.loop-k.k c.args.ids.now) + 8) _ c.args.run.now c.loop-k.run c.one_more.new.run
    (distinct_most c.args.ids.now c.loop-k.k c.loop-k.invariant.1 low)
    c.loop-k.invariant.0.goes
    (subst (λ ys. GoesOnBy (12 * length ys + 8) c.loop-k.run c.one_more.new.run) (tail_is c.loop-k.k c.args.ids.now) c.one_more.ensures.goes)

pub returns-clause-goes : goal.returns-clause-goes
returns-clause-goes c =
    let first : c.loop-k.k ≡ 0 = omega (arith, c.loop-k-test.false) in
    subst (λ i. GoesOnBy (20 * (length (drop i c.args.ids.now) + pair_count (drop i c.args.ids.now))) c.args.run.now c.loop-k.run) first c.loop-k.invariant.0.goes

pub returns-clause-gives : goal.returns-clause-gives
returns-clause-gives c =
    let first : c.loop-k.k ≡ 0 = omega (arith, c.loop-k-test.false) in
    gives_like _ _ (λ r. count_term (distinct_among (map (num r) (drop c.loop-k.k c.args.ids.now)))) _ _ (λ r. ap (λ i. count_term (distinct_among (map (num r) (drop i c.args.ids.now)))) first) c.loop-k.invariant.0.gives
