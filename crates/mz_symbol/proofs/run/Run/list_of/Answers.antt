use Rattle.std.proofs.Common.{◌+◌, ◌*◌, length, arith}
use Rattle.mz_symbol.specs.StepsCons.{items_at}
use Rattle.mz_symbol.proofs.ChoiceLaws.{adds_most}
use Rattle.mz_symbol.proofs.ConsLaws.{lists_none, lists_more, lists_all, adds_more, adds_same}
use Rattle.mz_symbol.proofs.run.Run.list_of.Goals as goal

pub loop-i-init : goal.loop-i-init
loop-i-init c = (
  adds_most 0 (8 * 0) c.args.self.now c.empty_list.new.self (omega arith) c.in_ok-list.ensures.adds,
  lists_none c.empty_list.new.self.arena c.args.of (items_at c.args.self.now c.args.line) c.item_count-count.result c.in_ok-list.list c.item_count-count.ensures c.in_ok-list.ensures.is,
)

pub loop-i-preserved : goal.loop-i-preserved
loop-i-preserved c =
    let a = c.in_ok-list-2.ensures in
    let old = c.args.self.now in
    let i = c.loop-i.i in (
      adds_more i (i + 1) old c.loop-i.self c.one_more.new.self (omega arith) c.loop-i.invariant.0 a.adds,
      lists_more old c.loop-i.self c.one_more.new.self c.args.of c.args.line c.item_count-count.result i (i + 1) 8 c.loop-i.list c.in_ok-list-2.list (omega arith) (omega (arith, c.loop-i-test.true)) c.loop-i.invariant.0.lines c.loop-i.invariant.1 a.adds a.more,
    )

pub returns-in_err-list-clause-adds : goal.returns-in_err-list-clause-adds
returns-in_err-list-clause-adds c = adds_most 0 (8 * length (items_at c.args.self.now c.args.line)) c.args.self.now c.empty_list.new.self (omega arith) c.empty_list.ensures.adds

pub returns-in_err-list-2-clause-adds : goal.returns-in_err-list-2-clause-adds
returns-in_err-list-2-clause-adds c = adds_more c.loop-i.i (length (items_at c.args.self.now c.args.line)) c.args.self.now c.loop-i.self c.one_more.new.self (omega (arith, c.loop-i-test.true, c.item_count-count.ensures)) c.loop-i.invariant.0 c.one_more.ensures.adds

pub returns-clause-adds : goal.returns-clause-adds
returns-clause-adds c = adds_same c.loop-i.i (length (items_at c.args.self.now c.args.line)) c.args.self.now c.loop-i.self (omega (arith, c.loop-i-test.false, c.loop-i.auto.i-end, c.item_count-count.ensures)) c.loop-i.invariant.0

pub returns-clause-listed : goal.returns-clause-listed
returns-clause-listed c = lists_all c.loop-i.self.arena c.args.of (items_at c.args.self.now c.args.line) c.item_count-count.result c.loop-i.i c.loop-i.list (omega (arith, c.loop-i-test.false, c.loop-i.auto.i-end)) c.loop-i.invariant.1
