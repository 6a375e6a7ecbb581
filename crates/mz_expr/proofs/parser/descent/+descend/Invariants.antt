use Rattle.mz_expr.specs.Descent.{extent}
use Rattle.mz_expr.proofs.parser.descent.+descend.Given as goal

-- Each token that is opened leaves less room, and at one room the calls go down the entries.
abbrev pub decreases-descend : goal.decreases-descend
decreases-descend l = extent l.cur.now.room l.entry
