-- Mirror of src/; private clauses only.
use Rattle.std.specs.Prelude.{List, [], replicate, Option, None, if◌then◌else◌}
use Rattle.std.specs.Option.{option_map}
use Rattle.mz_base.specs.declared.fault.Span.{Span}
use Rattle.mz_value.specs.Ranges.{Range}
use Rattle.mz_core.specs.Types.{PlainType}
use Rattle.mz_operations.specs.Arrays.{place_count}
use Rattle.mz_operations.specs.Bounds.{Bound}
use Rattle.mz_operations.specs.Bounds as bounds
use Rattle.mz_meaning.specs.Cells.{Bare, Cell, Sure, Var, length_of}
use Rattle.mz_meaning.specs.Domains.{Domain, domain_over, domain_bound}
use Rattle.mz_meaning.specs.Runs.{Run}
use Rattle.mz_meaning.specs.Arrays.{Want, declared_ranges, fitted_to, own_ranges}
use Rattle.mz_meaning.specs.Lets.{all_declared, choose_places, free_array, no_choices}

-- an array with these bounds at each place
abbrev pub filled : List Range → Bound → Cell
filled ix b = Var (bounds.many ix (replicate (place_count ix) b)) None

abbrev pub bound_over : PlainType → List Range → Bound
bound_over t u = domain_bound (domain_over t u)

abbrev pub chosen_array : PlainType → List Want → Want → Option Domain → Run (Cell × Sure)
chosen_array t ws x d = if all_declared ws then free_array Bare t (declared_ranges ws []) x d else no_choices t (declared_ranges ws [])

-- an array whose places are chosen within a domain, if there is one
abbrev pub chosen_over : PlainType → List Range → Option (List Range) → Run (Cell × Sure)
chosen_over t ix u = choose_places Bare t ix (place_count ix) (option_map (domain_over t) u)

-- an array under its declared index sets
abbrev pub fitted_whole : Span → List Want → Cell → Run Cell
fitted_whole at ws c = fitted_to at ws (own_ranges c) (length_of c) c
