use Rattle.fz_program.specs.declared.program.Arg.{the_lemmas}
use Rattle.std.proofs.Common.{ap}
use Rattle.std.specs.List.{list_all}
use Rattle.fz_program.specs.Arguments.{plain}
use Rattle.fz_program.specs.Flat.{is_constant}
use Rattle.std.proofs.Common.{◌∙◌, sym}
use Rattle.fz_program.proofs.Tests.{all_plains}
use Rattle.fz_program.proofs.arguments.are_all_constant.Goals as goal

pub returns-in-Array : goal.returns-in-Array
returns-in-Array c =
    let test = is_constant c.args.kind in
    rw c.in-Array.is (simp the_lemmas (c.are_constant.ensures ∙ ap (λ xs. list_all (λ a. test (plain a)) xs) c.deref.ensures.value ∙ sym (all_plains test c.in-Array.items.items)))
