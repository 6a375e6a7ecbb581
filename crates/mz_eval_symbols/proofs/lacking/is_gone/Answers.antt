use Rattle.std.proofs.Common.{◌∙◌, sym}
use Rattle.mz_eval_symbols.proofs.LackingLaws.{gone}
use Rattle.mz_eval_symbols.proofs.lacking.is_gone.Goals as goal

pub returns : goal.returns
returns c q t h = gone c.args.nodes.now c.args.s c.in-Some.p (sym c.is_number_base.ensures ∙ c.if-not-is_number_base.false) (c.is_plain.ensures c.if-not-is_plain.false) c.in-Some.ensures (c.in_ok-is.ensures q) t h
