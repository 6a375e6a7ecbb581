use Rattle.std.proofs.Common.{pos, Some, sym, ap, ◌∙◌, arith, rules}
use Rattle.std.proofs.lemmas.Int.{to_z-of_z}
use Rattle.std.specs.Int.{w128}
use Rattle.mz_eval_globals.proofs.Outside.{sum_found, sum_passed}
use Rattle.mz_eval_globals.proofs.apply.sums.sums_outside.Goals as goal

pub returns-in-Some : goal.returns-in-Some
returns-in-Some c =
    ap Some (to_z-of_z w128 c.in-Some.n (search rules)) ∙ sum_found c.args.es.now c.args.fs.now c.loop-k.k (pos 0, pos 0) (pos 0, pos 0) c.in-Some.n _ (omega arith) (omega arith) (sym c.sum_outside.ensures ∙ c.in-Some.is) c.loop-k.invariant.1

pub loop-k-preserved : goal.loop-k-preserved
loop-k-preserved c =
    (omega arith, sum_passed c.args.es.now c.args.fs.now c.loop-k.k (pos 0, pos 0) (pos 0, pos 0) _ (omega arith) (omega arith) (sym c.sum_outside.ensures ∙ c.in_default.is) c.loop-k.invariant.1)
