use Rattle.mz_partial.proofs.Testing.{never_parted}
use Rattle.mz_partial.proofs.never.never.Goals as goal

pub returns : goal.returns
returns c = never_parted c.args.arena.now c.blank.new.arena c.nowhere.new.arena c.args.id c.in_ok-term.term c.in_ok-no.no c.requires.arena c.requires.never c.requires.partial c.in_ok-term.ensures c.in_ok-no.ensures
