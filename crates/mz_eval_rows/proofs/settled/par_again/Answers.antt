use Rattle.std.proofs.Common.{◌∙◌, sym}
use Rattle.mz_eval_rows.proofs.SettledLaws.{par_settled}
use Rattle.mz_eval_rows.proofs.settled.par_again.Goals as goal

pub returns : goal.returns
returns c = par_settled c.args.k.now c.in_ok-same.same (sym c.is_par.ensures ∙ c.if-not-is_par.false) c.in_ok-same.ensures.of
