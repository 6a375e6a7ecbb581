use Rattle.std.proofs.Common.{◌≡◌, map, drop}
use Rattle.mz_value.specs.Contents.{content}
use Rattle.mz_builtin_values.specs.StepsTexts.{all_texts}
use Rattle.mz_builtin_values.proofs.texts.are_texts.Given as goal

abbrev pub invariant-loop-x : goal.invariant-loop-x
invariant-loop-x l = all_texts (map content (drop l.x-index l.items)) ≡ all_texts (map content l.items)
