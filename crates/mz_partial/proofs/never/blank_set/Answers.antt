use Rattle.mz_partial.proofs.Testing.{blank_set}
use Rattle.mz_partial.proofs.never.blank_set.Goals as goal

pub returns : goal.returns
returns c = blank_set c.args.arena.now c.set_const.new.self c.in_ok-t.t c.in_ok-set.set c.set_const.ensures.extends c.len-count.ensures.arena c.in_ok-t.ensures.made c.in_ok-set.ensures c.set_const.ensures.charged
