use Rattle.fz_program.specs.Flat.{has_variable}
use Rattle.std.proofs.Common.{◌∙◌, sym}
use Rattle.fz_program.proofs.Tests.{any_arguments}
use Rattle.fz_program.proofs.arguments.is_definition.Goals as goal

pub returns-in-Some : goal.returns-in-Some
returns-in-Some c = rw c.in-Some.is (c.have_variable.ensures ∙ sym (any_arguments (has_variable c.in-Some.k) c.args.args.now))
