use Rattle.std.proofs.Common.{ap}
use Rattle.fz_program.specs.declared.program.Arg.{the_lemmas}
use Rattle.fz_program.specs.Arguments.{array}
use Rattle.fz_build.proofs.Copies.{same_plains}
use Rattle.fz_build.proofs.copy.copied.Goals as goal

pub returns-in_ok-copied_elements-in-Array : goal.returns-in_ok-copied_elements-in-Array
returns-in_ok-copied_elements-in-Array c =
    let copy = c.in_ok-copied_elements-in-Array.field-0 in
    rw c.in-Array.is (simp the_lemmas (ap array (same_plains copy.items c.deref.result.now c.in-Array.items.items c.in_ok-copied_elements-in-Array.ensures c.deref.ensures.value)))
