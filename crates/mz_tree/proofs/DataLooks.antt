-- One layer of what the values of data files stand for: the only place where their fold is opened.
use Rattle.std.proofs.Common.{◌≡◌, ◌∙◌, List, [], ◌∷◌, Vec, Global, map, refl, ap}
use Rattle.mz_tree.specs.declared.data.Datum.{Datum, Datum-F}
use Rattle.mz_tree.specs.declared.data.Datum.TheOpen as open_datum
use Rattle.mz_tree.specs.declared.data.Datum.TheViews.{out-Datum}
use Rattle.mz_tree.specs.declared.data.Datum.TheFolds as folds
use Rattle.mz_tree.specs.Data as pure
use Rattle.mz_tree.specs.Data.{Value, value, datum_step, datum_seen}

lines_mapped : (f : Vec Datum Global → Vec Value Global) (g : Vec Value Global → List Value) (h : Vec Datum Global → List Value) (ls : List (Vec Datum Global)) → ((l : Vec Datum Global) → g (f l) ≡ h l) → map g (map f ls) ≡ map h ls
lines_mapped f g h [] e = refl
lines_mapped f g h (l ∷ ls) e = rw (e l, lines_mapped f g h ls e) refl

datum_case : (d : Datum-F Datum) → datum_step (folds.map-Datum Datum Value value d) ≡ datum_seen d
datum_case (open_datum.Rows ls) = ap (λ t. pure.rows (pure.lines t)) (lines_mapped _ _ (λ l. map value l.items) ls.items (λ l. refl))
datum_case d = refl

pub value_is : (d : Datum) → value d ≡ datum_seen (out-Datum d)
unfolding value
value_is d = folds.fold_out-Datum Value datum_step d ∙ datum_case (out-Datum d)
