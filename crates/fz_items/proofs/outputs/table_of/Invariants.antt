use Rattle.std.proofs.Common.{drop, map}
use Rattle.std.specs.HashMap.{get_by_text}
use Rattle.fz_items.specs.Forms.{form, forms}
use Rattle.fz_items.proofs.NameBytes.{FindsAll}
use Rattle.fz_items.proofs.outputs.table_of.Given as goal

abbrev pub invariant-loop-k : goal.invariant-loop-k
invariant-loop-k l = FindsAll (get_by_text l.table) l.k (drop l.k (map form l.shapes)) (forms l.shapes)
