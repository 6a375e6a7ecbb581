use Rattle.std.proofs.Common.{◌≡◌, ◌+◌, ◌-◌, length}
use Rattle.fz_program.specs.Arguments.{Plain}
use Rattle.flat_reif.specs.States.{plain_args, put_at}
use Rattle.flat_reif.proofs.table.reach.Given as goal

abbrev pub invariant-longer : goal.invariant-longer
invariant-longer l = (p : Plain) → put_at (plain_args l.args.items) l.id p ≡ put_at (plain_args l.fn.args.items) l.id p

abbrev pub decreases-longer : goal.decreases-longer
decreases-longer l = (l.id + 1) - length l.args.items
