use Rattle.fz_program.specs.declared.program.Arg.{the_lemmas}
use Rattle.std.proofs.Common.{ap}
use Rattle.std.specs.List.{list_any}
use Rattle.fz_program.specs.Arguments.{plain}
use Rattle.fz_program.specs.Flat.{is_variable}
use Rattle.std.proofs.Common.{◌∙◌, sym}
use Rattle.fz_program.proofs.Tests.{any_plains}
use Rattle.fz_program.proofs.arguments.has_variable.Goals as goal

pub returns-in-Array : goal.returns-in-Array
returns-in-Array c =
    let test = is_variable c.args.k in
    rw c.in-Array.is (simp the_lemmas (c.is_among.ensures ∙ ap (λ xs. list_any (λ a. test (plain a)) xs) c.deref.ensures.value ∙ sym (any_plains test c.in-Array.items.items)))
