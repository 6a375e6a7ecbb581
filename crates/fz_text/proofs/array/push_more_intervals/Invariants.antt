use Rattle.std.proofs.Common.{◌≡◌, ◌++◌, ◌∷◌, take, flat_map}
use Rattle.fz_text.specs.Spelling.{interval}
use Rattle.fz_text.proofs.array.push_more_intervals.Given as goal

abbrev pub invariant-loop-r : goal.invariant-loop-r
invariant-loop-r l = l.out.items ≡ l.initial.out.items ++ flat_map (λ x. 44 ∷ interval x) (take l.r-index l.ranges)
