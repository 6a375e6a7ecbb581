use Rattle.std.proofs.Common.{◌-◌, suc, length, Some, sym, ap, ◌∙◌, arith, rules}
use Rattle.std.proofs.lemmas.Int.{to_z-of_z}
use Rattle.std.specs.Int.{w128}
use Rattle.mz_eval_globals.proofs.Outside.{window_found}
use Rattle.mz_eval_globals.proofs.apply.sums.windows_of.Goals as goal

pub returns-in-Some : goal.returns-in-Some
returns-in-Some c =
    ap Some (to_z-of_z w128 c.in-Some.n (search rules)) ∙ window_found (suc (length c.args.es.now) - c.args.size) c.loop-k.k c.args.size c.args.es.now c.in-Some.n _ (omega arith) (sym c.whole_outside.ensures ∙ c.in-Some.is) c.loop-k.invariant
