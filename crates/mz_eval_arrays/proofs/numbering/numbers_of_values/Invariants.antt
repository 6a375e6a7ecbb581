use Rattle.std.proofs.Common.{◌≡◌, [], map, drop}
use Rattle.mz_value.specs.Contents.{content}
use Rattle.mz_meaning.specs.Cells.{par_value}
use Rattle.mz_eval_arrays.specs.StepsJoining.{numbers_in, values_from}
use Rattle.mz_eval_arrays.proofs.numbering.numbers_of_values.Given as goal

abbrev pub invariant-loop-x : goal.invariant-loop-x
invariant-loop-x l = values_from [] (numbers_in (map (λ x. par_value (content x)) l.items)) ≡ values_from l.all.items (numbers_in (map (λ x. par_value (content x)) (drop l.x-index l.items)))
