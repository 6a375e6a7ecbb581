use Rattle.std.proofs.Common.{◌≡◌, ◌++◌, ◌∷◌, take, map, flat_map}
use Rattle.fz_program.specs.Flat.{labels_of, variable}
use Rattle.fz_program.specs.Arguments.{plain}
use Rattle.fz_text.specs.Spelling.{plain_text}
use Rattle.fz_text.proofs.spell.push_more_plains.Given as goal

abbrev pub invariant-loop-a : goal.invariant-loop-a
invariant-loop-a l = l.out.items ≡ l.initial.out.items ++ flat_map (λ x. 44 ∷ plain_text (labels_of (map variable l.vars)) (plain x)) (take l.a-index l.items)
