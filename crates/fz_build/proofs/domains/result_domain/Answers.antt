use Rattle.std.proofs.Common.{map}
use Rattle.fz_program.specs.Arguments.{argument}
use Rattle.fz_program.specs.Flat.{variable}
use Rattle.fz_build.proofs.Held.{result_held}
use Rattle.fz_build.proofs.domains.result_domain.Goals as goal

pub returns-clause-holds : goal.returns-clause-holds
returns-clause-holds c = result_held c.found.result (map variable c.args.vars.now) c.args.name (map argument c.args.inputs.now) c.requires.vars c.requires.inputs c.found.ensures.is
