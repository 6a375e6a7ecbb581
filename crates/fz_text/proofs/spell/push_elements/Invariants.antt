use Rattle.std.proofs.Common.{◌≡◌, ◌++◌, ◌∷◌, take, drop, flat_map}
use Rattle.mz_value.specs.Ranges.{AreCanonical}
use Rattle.fz_text.specs.Spelling.{numbers, elements}
use Rattle.fz_text.proofs.spell.push_elements.Given as goal

abbrev pub invariant-loop-r : goal.invariant-loop-r
invariant-loop-r l =
    (l.out.items ≡ l.fn.out.items ++ numbers (flat_map elements (l.fn.first ∷ take l.r-index l.rest))) × AreCanonical (drop l.r-index l.rest)
