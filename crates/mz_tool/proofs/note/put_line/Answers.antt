use Rattle.mz_tool.proofs.Sinks.{joined}
use Rattle.mz_tool.proofs.note.put_line.Goals as goal

pub returns : goal.returns
returns g c = rw (joined c.args.file.now c.args.line.now c.args.col.now c.args.kind.now c.args.gap.now c.args.number.now) c.put_pieces.ensures
