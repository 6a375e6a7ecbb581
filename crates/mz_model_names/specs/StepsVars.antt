-- Mirror of src/variables.rt; private clauses only.
use Rattle.std.specs.Prelude.{Bool, true, false, not, ◌&&◌, is_some, List}
use Rattle.std.specs.List.{list_all}
use Rattle.mz_core.specs.declared.types.Base.{Base}
use Rattle.mz_core.specs.Order.{same_base}
use Rattle.mz_symbol.specs.declared.types.Free.{Free}

abbrev pub same_truth : Bool → Bool → Bool
same_truth true b = b
same_truth false b = not b

-- a place of a base, an option or not
abbrev pub is_over : Base → Bool → Free → Bool
is_over b o f = same_base f.symbol.base b && same_truth (is_some f.symbol.occurs) o

abbrev pub each_over : Base → Bool → List Free → Bool
each_over b o fs = list_all (λ f. is_over b o f) fs
