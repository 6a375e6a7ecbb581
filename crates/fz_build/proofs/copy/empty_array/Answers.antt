use Rattle.std.proofs.Common.{ap, ◌∙◌}
use Rattle.fz_program.specs.Arguments.{array, plains}
use Rattle.fz_build.proofs.Copies.{array_opened}
use Rattle.fz_build.proofs.copy.empty_array.Goals as goal

pub returns : goal.returns
returns c = array_opened c.new.result ∙ ap (λ xs. array (plains xs)) c.new.ensures.items
