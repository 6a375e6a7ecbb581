use Rattle.std.proofs.Common.{◌∙◌, sym}
use Rattle.mz_eval_symbols.proofs.lacking.is_lacking.Goals as goal

pub returns : goal.returns
returns c q = record { single = sym c.is_single.ensures ∙ c.if-not-is_single.false; occurs = c.in-Some.o; at = sym c.occurring.ensures ∙ c.in-Some.is; lacks = c.in_ok-is.ensures q }
