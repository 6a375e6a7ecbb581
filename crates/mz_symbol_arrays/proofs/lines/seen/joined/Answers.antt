use Rattle.std.proofs.Common.{sym, subst}
use Rattle.mz_symbol_arrays.specs.StepsLines.{IsJoined}
use Rattle.mz_symbol_arrays.proofs.SeenLaws.{forall_joined, exists_joined, xorall_joined, count_joined}
use Rattle.mz_symbol_arrays.proofs.lines.seen.joined.Goals as goal

pub returns-in_ok-both-in-Forall-clause-joined : goal.returns-in_ok-both-in-Forall-clause-joined
returns-in_ok-both-in-Forall-clause-joined c r h = subst (λ w. IsJoined r c.args.run.now c.logic.new.run w c.args.acc c.args.truth c.in_ok-both-in-Forall.both) (sym c.in-Forall.is) (forall_joined r c.args.run.now c.logic.new.run c.args.acc c.args.truth c.in_ok-both-in-Forall.both (c.in_ok-both-in-Forall.ensures.means r h))

pub returns-in_ok-either-in-Exists-clause-joined : goal.returns-in_ok-either-in-Exists-clause-joined
returns-in_ok-either-in-Exists-clause-joined c r h = subst (λ w. IsJoined r c.args.run.now c.logic-in-Exists.new.run w c.args.acc c.args.truth c.in_ok-either-in-Exists.either) (sym c.in-Exists.is) (exists_joined r c.args.run.now c.logic-in-Exists.new.run c.args.acc c.args.truth c.in_ok-either-in-Exists.either (c.in_ok-either-in-Exists.ensures.means r h))

pub returns-in_ok-one-in-Xorall-clause-joined : goal.returns-in_ok-one-in-Xorall-clause-joined
returns-in_ok-one-in-Xorall-clause-joined c r h = subst (λ w. IsJoined r c.args.run.now c.logic-in-Xorall.new.run w c.args.acc c.args.truth c.in_ok-one-in-Xorall.one) (sym c.in-Xorall.is) (xorall_joined r c.args.run.now c.logic-in-Xorall.new.run c.args.acc c.args.truth c.in_ok-one-in-Xorall.one (c.in_ok-one-in-Xorall.ensures.means r h))

pub returns-in_ok-sum-in-Count-clause-joined : goal.returns-in_ok-sum-in-Count-clause-joined
returns-in_ok-sum-in-Count-clause-joined c r h = subst (λ w. IsJoined r c.args.run.now c.arith.new.run w c.args.acc c.args.truth c.in_ok-sum-in-Count.sum) (sym c.in-Count.is) (count_joined r c.args.run.now c.ordinal.new.run c.arith.new.run c.args.acc c.args.truth c.in_ok-bit-in-Count.bit c.in_ok-sum-in-Count.sum (c.in_ok-bit-in-Count.ensures.means r (c.in_ok-sum-in-Count.ensures.goes.back r h)) (c.in_ok-sum-in-Count.ensures.means r h))
