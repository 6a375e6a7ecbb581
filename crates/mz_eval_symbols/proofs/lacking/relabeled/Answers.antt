use Rattle.std.proofs.Common.{◌∙◌, sym}
use Rattle.mz_eval_symbols.proofs.LackingLaws.{alike}
use Rattle.mz_eval_symbols.proofs.lacking.relabeled.Goals as goal

pub returns : goal.returns
returns c = alike c.args.nodes.now c.args.b c.args.s (sym c.is_single.ensures ∙ c.if-not-is_single.false) (c.in_ok-is.ensures c.if-not-is.false)
