-- Numbers that stand in a list at a par integer.
use Rattle.std.proofs.Common.{◌≡◌, ◌∙◌, ℕ, true, false, ◌&&◌, [], ◌∷◌, map, Option, Some, None, MatchOption, Global, Vec, refl, sym, ap, subst}
use Rattle.std.specs.Prelude.{ℤ}
use Rattle.std.specs.declared.rc.Rc.{Rc}
use Rattle.std.specs.Option.{option_and_then, option_map}
use Rattle.mz_core.specs.declared.types.Base.{Base}
use Rattle.mz_core.specs.Types.{PlainType}
use Rattle.mz_core.specs.Order.{no_dims}
use Rattle.mz_interval.specs.Ends.{Ends}
use Rattle.mz_index.specs.Places.{place_of}
use Rattle.mz_operations.specs.Bounds as bounds
use Rattle.mz_meaning.specs.Arrays.{access_cell, indices_in}
use Rattle.mz_meaning.specs.Cells.{Var, all_par, held, is_par, typed, value_of}
use Rattle.mz_symbol.specs.declared.types.Symbol.{Symbol}
use Rattle.mz_symbol.specs.Runs.{Run}
use Rattle.mz_symbol.specs.Readings.{Reading, Reads}
use Rattle.mz_eval_cells.specs.declared.types.Known.{Known}
use Rattle.mz_eval_cells.specs.declared.types.Known.TheVariants as known
use Rattle.mz_eval_cells.specs.declared.types.VarItems.{VarItems}
use Rattle.mz_eval_cells.specs.Views.{all_seen, cell_of, cells_of, seen}
use Rattle.mz_eval_symbols.specs.Steps.{argued, item_cast}
use Rattle.mz_eval_access.specs.Places.{IsPlaceOf, list_ranges, reached_bound}
use Rattle.mz_eval_elements.specs.ElementCells.{element_value}
use Rattle.mz_eval_elements.specs.StepsElements.{IsSureItem, IsSureItemOf, at_kind}
use Rattle.mz_eval_elements.proofs.ElementLaws.{open_typed}
use Rattle.mz_eval_elements.proofs.PlaceLaws.{kind_told, row_placed}

pub sure_told : (s : Run) (ix : Rc (Vec (ℤ × ℤ) Global) Global) (xs : Rc VarItems Global) (a : Known) (n : ℕ) (y : Option (Symbol × Option Base)) → a ≡ known.Row ix xs → MatchOption y (Unit {0}) (IsSureItemOf s xs.value n) → MatchOption y (Unit {0}) (IsSureItem s a n)
sure_told s ix xs a n None e h = h
sure_told s ix xs a n (Some y) e h = λ r k b o at p q.
    subst (λ c. option_and_then (place_of (list_ranges c)) (indices_in (map value_of (cells_of at))) ≡ Some n → element_value r b o c at ≡ at_kind r b o (option_map (item_cast y.1) (argued r.term y.0))) (sym e)
    (λ u. row_placed r b o ix.value.items xs.value at n p u ∙ h r k b o) q

pub number_typed : (r : Reading) (t : PlainType) (a i k : Known) (n : ℕ) (e : Ends) (y : Symbol × Option Base) (s : Run) → (is_par (cell_of a) && all_par (cells_of (i ∷ []))) ≡ false → no_dims t.dims ≡ true → is_par (cell_of i) ≡ true → IsPlaceOf (list_ranges a) (cell_of i) n → reached_bound t (cell_of a) (cell_of i ∷ []) ≡ bounds.number e → IsSureItem s a n y → Reads r s → cell_of k ≡ Var (bounds.one (bounds.number e)) None → value_of (seen r k) ≡ held r.mode (option_map (item_cast y.1) (argued r.term y.0))
    → typed r.mode false t (access_cell r.mode t (seen r a) (all_seen r (i ∷ []))) ≡ typed r.mode false t (seen r k)
number_typed r t a i k n e y s p d par place bound sure h c v =
    open_typed r t a (i ∷ []) (bounds.number e) t.base t.opt k p d (sym bound) refl refl
    (sure r h t.base t.opt (i ∷ []) (ap (λ b. b && true) par) place ∙ kind_told r t.base t.opt k (option_map (item_cast y.1) (argued r.term y.0)) v) c
