use Rattle.std.proofs.Common.{◌≡◌, ◌<◌, List, [], ◌∷◌, map, length, sym, ap, ◌∙◌, refl, arith}
use Rattle.std.specs.Prelude.{Some}
use Rattle.std.specs.Option.{option_map}
use Rattle.mz_value.specs.Ranges.{Range}
use Rattle.mz_operations.specs.Bounds.{Bound, intersection_of_all}
use Rattle.mz_operations.specs.RowBounds.{each, as_upper}
use Rattle.mz_eval_cells.specs.Views.{known_bound}
use Rattle.mz_eval_row_bounds.proofs.uppers.intersection_of.Goals as goal

each_of_none : each as_upper [] ≡ Some []
unfolding each
each_of_none = refl

-- nothing is common to no set
none_at_all : {X : Type 0} (view : X → Bound) (xs : List X) (r : List Range) → length xs < 1 → r ≡ [] → Some r ≡ option_map intersection_of_all (each as_upper (map view xs))
none_at_all view [] r l e = ap Some e ∙ sym (ap (option_map intersection_of_all) each_of_none)
none_at_all view (x ∷ xs) r l e = absurd (omega arith)

pub returns-in_ok-range-in-empty : goal.returns-in_ok-range-in-empty
returns-in_ok-range-in-empty c = none_at_all known_bound c.args.all.now c.in_ok-range-in-empty.field-0 c.in-empty.len_below c.in_ok-range-in-empty.ensures
