use Rattle.std.proofs.Common.{◌<◌, subst, sym}
use Rattle.mz_expr.specs.Descent.{extent}
use Rattle.mz_expr.proofs.Descents.{below_level}
use Rattle.mz_expr.proofs.parser.descent.Descent.operand.Goals as goal

pub reader-requires : goal.reader-requires
reader-requires g c =
    let below = below_level c.args.cur.now.room c.args.self.now.room c.args.l c.args.self.now.entry c.requires.below in
    c.requires.calls.callable _ _ c.tighter.result (subst (λ e. extent c.args.cur.now.room e < extent c.args.self.now.room c.args.self.now.entry) (sym c.tighter.ensures) below)
