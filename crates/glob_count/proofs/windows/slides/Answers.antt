use Rattle.std.proofs.Common.{◌≡◌, ◌∙◌, suc, ◌+◌, ◌*◌, ◌-◌, ◌<◌, ◌&&◌, true, length, drop, take, sym, ap, subst, arith}
use Rattle.std.specs.List.{list_all}
use Rattle.mz_globals.specs.Lists.{windows_from}
use Rattle.glob_nodes.specs.StepsEach.{Told}
use Rattle.glob_nodes.proofs.Telling.{told_from, told_step, tells_of, tells_like, room_left, room_all, no_room, goes_less, goes_more}
use Rattle.glob_count.specs.Windows.{sum_fits}
use Rattle.glob_count.proofs.Sliding.{no_window, one_window_more, window_room}
use Rattle.glob_count.proofs.windows.slides.Goals as goal

pub loop-i-init : goal.loop-i-init
loop-i-init c = (
  subst (λ i. Told ((4 * c.args.seq + 24) * ((suc (length c.args.ids.now) - c.args.seq) - i)) c.args.run.now c.truth.new.run (λ r. list_all (λ w. sum_fits r c.args.low c.args.up w) (windows_from ((suc (length c.args.ids.now) - c.args.seq) - i) c.args.seq (drop i c.args.ids.now))) c.in_ok-acc.acc) (sym c.windows_in-i.ensures)
      (told_from _ c.args.run.now c.truth.new.run (λ r. true) _ c.in_ok-acc.acc c.in_ok-acc.ensures.goes c.in_ok-acc.ensures.says (λ r. no_window (λ w. sum_fits r c.args.low c.args.up w) (suc (length c.args.ids.now) - c.args.seq) c.args.seq c.args.ids.now)),
  omega (arith, c.windows_in-i.ensures),
)

pub loop-i-preserved : goal.loop-i-preserved
loop-i-preserved c =
    let low : 0 < c.loop-i.i = omega (arith, c.loop-i-test.true) in (
      told_step ((4 * c.args.seq + 24) * ((suc (length c.args.ids.now) - c.args.seq) - c.loop-i.i)) (4 * c.args.seq + 24) _ c.args.run.now c.loop-i.run c.one_window.new.run
          (λ r. list_all (λ w. sum_fits r c.args.low c.args.up w) (windows_from ((suc (length c.args.ids.now) - c.args.seq) - c.loop-i.i) c.args.seq (drop c.loop-i.i c.args.ids.now)))
          _
          (λ r b. sum_fits r c.args.low c.args.up (take ((c.loop-i.i - 1) + c.args.seq - (c.loop-i.i - 1)) (drop (c.loop-i.i - 1) c.args.ids.now)) && b)
          c.loop-i.acc c.in_ok-acc-2.acc
          (room_left (4 * c.args.seq + 24) (suc (length c.args.ids.now) - c.args.seq) c.loop-i.i c.loop-i.invariant.1 low)
          c.loop-i.invariant.0
          (goes_less _ _ c.loop-i.run c.one_window.new.run (window_room (c.loop-i.i - 1) c.args.seq c.args.ids.now) c.in_ok-acc-2.ensures.goes)
          (tells_of _ _ _ _ c.in_ok-acc-2.ensures.says)
          (λ r. one_window_more (λ w. sum_fits r c.args.low c.args.up w) (suc (length c.args.ids.now) - c.args.seq) c.loop-i.i c.args.seq c.args.ids.now c.loop-i.invariant.1 low),
      omega (arith, c.loop-i.invariant.1),
    )

pub returns-in_err-acc-2-clause-goes : goal.returns-in_err-acc-2-clause-goes
returns-in_err-acc-2-clause-goes c = goes_more ((4 * c.args.seq + 24) * ((suc (length c.args.ids.now) - c.args.seq) - c.loop-i.i)) (4 * c.args.seq + 24) _ c.args.run.now c.loop-i.run c.one_window.new.run (room_all (4 * c.args.seq + 24) (suc (length c.args.ids.now) - c.args.seq) c.loop-i.i c.loop-i.invariant.1 (omega (arith, c.loop-i-test.true))) c.loop-i.invariant.0.goes
    (goes_less _ _ c.loop-i.run c.one_window.new.run (window_room (c.loop-i.i - 1) c.args.seq c.args.ids.now) c.one_window.ensures.goes)

pub returns-clause-goes : goal.returns-clause-goes
returns-clause-goes c = goes_less _ _ c.args.run.now c.loop-i.run (no_room (4 * c.args.seq + 24) (suc (length c.args.ids.now) - c.args.seq) c.loop-i.i) c.loop-i.invariant.0.goes

pub returns-clause-tells : goal.returns-clause-tells
returns-clause-tells c =
    let first : c.loop-i.i ≡ 0 = omega (arith, c.loop-i-test.false) in
    let whole : (suc (length c.args.ids.now) - c.args.seq) - 0 ≡ suc (length c.args.ids.now) - c.args.seq = omega arith in
    tells_like _ _ (λ r. list_all (λ w. sum_fits r c.args.low c.args.up w) (windows_from ((suc (length c.args.ids.now) - c.args.seq) - c.loop-i.i) c.args.seq (drop c.loop-i.i c.args.ids.now))) _ _
    (λ r. ap (λ i. list_all (λ w. sum_fits r c.args.low c.args.up w) (windows_from ((suc (length c.args.ids.now) - c.args.seq) - i) c.args.seq (drop i c.args.ids.now))) first
    ∙ ap (λ n. list_all (λ w. sum_fits r c.args.low c.args.up w) (windows_from n c.args.seq c.args.ids.now)) whole)
    c.loop-i.invariant.0.tells
