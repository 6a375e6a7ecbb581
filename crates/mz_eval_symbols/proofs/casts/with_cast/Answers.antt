use Rattle.std.proofs.Common.{◌∙◌, sym}
use Rattle.mz_eval_symbols.proofs.Lists.{one_longer}
use Rattle.mz_eval_symbols.proofs.casts.with_cast.Goals as goal

pub returns-clause-more : goal.returns-clause-more
returns-clause-more c r h =
    let e = c.in_ok-x.ensures.cast r h in
    record {
      same = e.same;
      more = record { source = c.in-Some.s; at = sym c.nth.ensures ∙ c.in-Some.is; symbol = c.in_ok-x.x; stands = e.cast; list = c.in_ok-push.ensures.items };
    }

pub returns-clause-count : goal.returns-clause-count
returns-clause-count c = one_longer c.args.all.items c.push.new.self.items _ c.in_ok-push.ensures.items
