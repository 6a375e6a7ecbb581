use Rattle.std.proofs.Common.{IfOk, sym, subst}
use Rattle.mz_symbol.specs.Readings.{Reading, Reads}
use Rattle.mz_symbol_arrays.specs.StepsLines.{IsSeen, seen_as}
use Rattle.mz_symbol_arrays.proofs.lines.seen.seen_option.Goals as goal

pub returns-in-Forall-clause-seen : goal.returns-in-Forall-clause-seen
returns-in-Forall-clause-seen c = subst (λ w. IfOk c.true_or_absent.result (λ s. (r : Reading) → Reads r c.true_or_absent.new.run → IsSeen r c.args.run.now c.true_or_absent.new.run (seen_as w) c.args.item s)) (sym c.in-Forall.is) c.true_or_absent.ensures.seen

pub returns-in-Exists-clause-seen : goal.returns-in-Exists-clause-seen
returns-in-Exists-clause-seen c = subst (λ w. IfOk c.true_and_there.result (λ s. (r : Reading) → Reads r c.true_and_there.new.run → IsSeen r c.args.run.now c.true_and_there.new.run (seen_as w) c.args.item s)) (sym c.in-Exists.is) c.true_and_there.ensures.seen

pub returns-in-Count-clause-seen : goal.returns-in-Count-clause-seen
returns-in-Count-clause-seen c = subst (λ w. IfOk c.true_and_there-in-Count.result (λ s. (r : Reading) → Reads r c.true_and_there-in-Count.new.run → IsSeen r c.args.run.now c.true_and_there-in-Count.new.run (seen_as w) c.args.item s)) (sym c.in-Count.is) c.true_and_there-in-Count.ensures.seen
