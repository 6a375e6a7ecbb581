use Rattle.std.proofs.Common.{◌≡◌, ◌++◌, take, flat_map}
use Rattle.fz_program.specs.Flat.{variable}
use Rattle.fz_text.specs.Spelling.{variable_line}
use Rattle.fz_text.proofs.spell.push_variables.Given as goal

abbrev pub invariant-loop-v : goal.invariant-loop-v
invariant-loop-v l =
    l.out.items ≡ l.initial.out.items ++ flat_map (λ v. variable_line (variable v)) (take l.v-index l.vars)
