use Rattle.std.proofs.Common.{◌≡◌, ◌++◌, map, take}
use Rattle.std.specs.String.{string_bytes}
use Rattle.std.specs.List.{flat_map}
use Rattle.mz_value.specs.Contents.{content}
use Rattle.mz_value.specs.Shown.{bytes_of}
use Rattle.mz_value.proofs.text.push_more.Given as goal

abbrev pub invariant-loop-part : goal.invariant-loop-part
invariant-loop-part l = string_bytes l.out ≡ string_bytes l.fn.out ++ flat_map (λ t. string_bytes l.between ++ t) (map bytes_of (map content (take l.part-index l.parts)))
