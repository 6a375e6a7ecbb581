use Rattle.std.proofs.Common.{◌≡◌, ◌∙◌, ◌*◌, ◌-◌, ◌<◌, pos, Some, length, drop, map, slice_index_or, refl, ap, rules, arith}
use Rattle.std.proofs.lemmas.Int.{to_z-of_z}
use mir.Syntax.{w64}
use Rattle.mz_arena.specs.Values.{cons_term}
use Rattle.mz_arena.specs.Values as terms
use Rattle.glob_nodes.proofs.Telling.{given_step, room_left, room_all, no_room, goes_more, goes_less}
use Rattle.glob_nodes.proofs.Counting.{given_from, gives_like}
use Rattle.glob_graph.specs.Automata.{as_state}
use Rattle.glob_graph.specs.Walks.{values_list}
use Rattle.glob_graph.proofs.Letterwise.{steps_begin, steps_go}
use Rattle.glob_graph.proofs.automata.list_of_steps.Goals as goal

pub loop-k-init : goal.loop-k-init
loop-k-init c = (
  given_from (8 * (length c.args.cells.now - length c.args.cells.now)) c.args.run.now c.made.new.run _ _ c.in_ok-acc.acc c.in_ok-acc.ensures.goes c.in_ok-acc.ensures.gives (λ r. steps_begin c.args.m.now c.args.cells.now),
  omega arith,
)

pub loop-k-preserved : goal.loop-k-preserved
loop-k-preserved c =
    let low : 0 < c.loop-k.k = omega (arith, c.loop-k-test.true) in (
      given_step (8 * (length c.args.cells.now - c.loop-k.k)) 8 _ c.args.run.now c.loop-k.run c.before-in-loop-k.new.run
          (λ r. values_list (map (as_state c.args.m.now.states) (drop c.loop-k.k c.args.cells.now)))
          _
          (λ r t. cons_term (Some (terms.number (as_state c.args.m.now.states (slice_index_or c.args.cells.now (c.loop-k.k - 1) (pos 0))))) t)
          c.loop-k.acc c.in_ok-acc-2.acc
          (room_left 8 (length c.args.cells.now) c.loop-k.k c.loop-k.invariant.1 low)
          c.loop-k.invariant.0 c.in_ok-acc-2.ensures.goes
          (gives_like _ _ _ (λ r. cons_term (Some (terms.number (as_state c.args.m.now.states (slice_index_or c.args.cells.now (c.loop-k.k - 1) (pos 0))))) (r.term c.loop-k.acc)) c.in_ok-acc-2.acc (λ r. ap (λ n. cons_term (Some (terms.number (as_state c.args.m.now.states n))) (r.term c.loop-k.acc)) (to_z-of_z w64 (slice_index_or c.args.cells.now (c.loop-k.k - 1) (pos 0)) (search rules))) c.in_ok-acc-2.ensures.gives)
          (λ r. steps_go c.args.m.now (slice_index_or c.args.cells.now (c.loop-k.k - 1) (pos 0)) c.args.cells.now c.loop-k.k c.loop-k.invariant.1 low refl),
      omega (arith, c.loop-k.invariant.1),
    )

pub returns-in_err-acc-2-clause-goes : goal.returns-in_err-acc-2-clause-goes
returns-in_err-acc-2-clause-goes c = goes_more (8 * (length c.args.cells.now - c.loop-k.k)) 8 _ _ _ _ (room_all 8 (length c.args.cells.now) c.loop-k.k c.loop-k.invariant.1 (omega (arith, c.loop-k-test.true))) c.loop-k.invariant.0.goes c.before-in-loop-k.ensures.goes

pub returns-clause-goes : goal.returns-clause-goes
returns-clause-goes c = goes_less _ _ c.args.run.now c.loop-k.run (no_room 8 (length c.args.cells.now) c.loop-k.k) c.loop-k.invariant.0.goes

pub returns-clause-gives : goal.returns-clause-gives
returns-clause-gives c =
    let start : c.loop-k.k ≡ 0 = omega (arith, c.loop-k-test.false) in
    gives_like _ _ (λ r. values_list (map (as_state c.args.m.now.states) (drop c.loop-k.k c.args.cells.now))) _ _ (λ r. ap (λ i. values_list (map (as_state c.args.m.now.states) (drop i c.args.cells.now))) start ∙ ap (λ cs. values_list (map (as_state c.args.m.now.states) cs)) c.requires) c.loop-k.invariant.0.gives
