use Rattle.mz_expr.proofs.Descents.{below_room}
use Rattle.mz_expr.proofs.parser.descent.Descent.inside.Goals as goal

pub reader-requires : goal.reader-requires
reader-requires g c = c.requires.calls.callable _ _ _ (below_room c.args.cur.now.room c.args.self.now.room c.args.entry c.args.self.now.entry c.requires.below)
