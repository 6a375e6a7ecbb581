use Rattle.std.proofs.Common.{◌≡◌, ◌++◌, map, drop}
use Rattle.mz_meaning.specs.Domains.{domain_bound}
use Rattle.mz_symbol.specs.Symbols.{domain_of}
use Rattle.mz_eval_cells.specs.Views.{known_bound}
use Rattle.mz_model_roots.proofs.array_cells.bounds.Given as goal

abbrev pub invariant-loop-f : goal.invariant-loop-f
invariant-loop-f l = map domain_bound (map domain_of l.places) ≡ map known_bound l.all.items ++ map domain_bound (map domain_of (drop l.f-index l.places))
