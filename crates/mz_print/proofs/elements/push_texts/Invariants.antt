use Rattle.std.proofs.Common.{◌≡◌, ◌++◌, map, drop}
use Rattle.std.specs.List.{flat_map}
use Rattle.mz_value.specs.Contents.{content}
use Rattle.mz_value.specs.Shown.{bytes_of}
use Rattle.mz_print.proofs.elements.push_texts.Given as goal

abbrev pub invariant-loop-x : goal.invariant-loop-x
invariant-loop-x l = l.fn.out.items ++ flat_map bytes_of (map content l.items) ≡ l.out.items ++ flat_map bytes_of (map content (drop l.x-index l.items))
