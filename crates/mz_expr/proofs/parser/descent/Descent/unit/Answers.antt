use Rattle.std.proofs.Common.{arith}
use Rattle.mz_expr.specs.declared.parser.descent.Entry.TheVariants as entry_is
use Rattle.mz_expr.proofs.Descents.{room_bound}
use Rattle.mz_expr.proofs.parser.descent.Descent.unit.Goals as goal

pub inside-requires : goal.inside-requires
inside-requires g c =
    let bound = room_bound c.args.cur.now.room c.args.self.now.room entry_is.Unit c.args.self.now.entry c.requires.below in
    record { calls = c.requires.calls; below = omega (arith, bound, c.in_ok-push-in-Some.ensures.ok, c.pass-at.ensures.room) }
