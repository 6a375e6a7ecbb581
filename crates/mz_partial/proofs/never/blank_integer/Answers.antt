use Rattle.mz_partial.proofs.Testing.{blank_number}
use Rattle.mz_partial.proofs.never.blank_integer.Goals as goal

pub returns : goal.returns
returns c = blank_number c.args.arena.now c.integer.new.arena c.in_ok-t.t c.in_ok-t.ensures
