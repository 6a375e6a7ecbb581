use Rattle.std.proofs.Common.{◌∙◌, sym}
use Rattle.mz_eval_symbols.proofs.Lists.{one_longer}
use Rattle.mz_eval_symbols.proofs.casts.with_fitted.Goals as goal

pub returns-clause-more : goal.returns-clause-more
returns-clause-more c t h = record { source = c.in-Some.s; at = sym c.nth.ensures ∙ c.in-Some.is; symbol = c.in_ok-x.x; stands = (c.in_ok-x.ensures t h).item; list = c.in_ok-push.ensures.items }

pub returns-clause-count : goal.returns-clause-count
returns-clause-count c = one_longer c.args.all.items c.push.new.self.items _ c.in_ok-push.ensures.items
