use Rattle.std.proofs.Common.{◌≡◌, ◌++◌, ◌∷◌, take, map, flat_map}
use Rattle.fz_program.specs.Flat.{labels_of, variable}
use Rattle.fz_text.specs.Spelling.{label_at}
use Rattle.fz_text.proofs.array.push_more_labels.Given as goal

abbrev pub invariant-loop-k : goal.invariant-loop-k
invariant-loop-k l = l.out.items ≡ l.initial.out.items ++ flat_map (λ x. 44 ∷ label_at (labels_of (map variable l.vars)) x) (take l.k-index l.items)
