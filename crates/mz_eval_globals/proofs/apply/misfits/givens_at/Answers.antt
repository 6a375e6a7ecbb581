use Rattle.std.proofs.Common.{arith}
use Rattle.mz_eval_globals.specs.Views.{plain_given}
use Rattle.mz_eval_globals.proofs.Parts.{rest_of, part_of}
use Rattle.mz_eval_globals.proofs.apply.misfits.givens_at.Goals as goal

pub returns-then-p-rest : goal.returns-then-p-rest
returns-then-p-rest c = rest_of plain_given c.args.p.first c.args.p.count c.args.gs.now (omega (arith, c.if-p-rest.true))

pub returns : goal.returns
returns c = part_of plain_given c.args.p.first c.args.p.count c.args.gs.now
