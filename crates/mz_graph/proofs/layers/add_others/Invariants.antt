use Rattle.std.proofs.Common.{◌≡◌, ◌++◌, drop}
use Rattle.std.specs.List.{flat_map}
use Rattle.mz_graph.specs.StepsLayers.{other}
use Rattle.mz_graph.proofs.layers.add_others.Given as goal

abbrev pub invariant-loop-h : goal.invariant-loop-h
invariant-loop-h l = l.fn.row.items ++ flat_map (other l.of.items l.own l.first) l.functions ≡ l.row.items ++ flat_map (other l.of.items l.own l.first) (drop l.h-index l.functions)
