use Rattle.std.proofs.Common.{◌≡◌, map, drop, is_none}
use Rattle.std.specs.List.{list_any}
use Rattle.std.specs.Option.{option_map}
use Rattle.mz_core.specs.TreeViews.{tree}
use Rattle.mz_model_unbounded.proofs.walk.some_nothing.Given as goal

abbrev pub invariant-loop-m : goal.invariant-loop-m
invariant-loop-m l = list_any is_none (map (option_map tree) l.ms) ≡ list_any is_none (map (option_map tree) (drop l.m-index l.ms))
