use Rattle.mz_model.proofs.Names.{still_readable}
use Rattle.mz_model.proofs.declarations.with_name.Goals as goal

pub returns-clause-readable : goal.returns-clause-readable
returns-clause-readable c = still_readable c.args.names.now (record { list = c.push.new.self; env = c.set_cell.new.self; parts = c.in_ok-parts.parts }) c.args.h c.in_ok-cell.cell c.requires.readable c.requires.next c.in_ok-cell.ensures.seen c.in_ok-set_cell.ensures.seen c.in_ok-push.ensures.items
