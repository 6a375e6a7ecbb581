-- Mirror of src/places.rt and src/arrays.rt; private clauses only.
use Rattle.std.specs.Prelude.{◌≡◌, ◌+◌, ◌*◌, ℕ, List, [], ◌∷◌, ◌++◌, Bool, true, false, length, map, take}
use Rattle.mz_value.specs.Ranges.{Range}
use Rattle.mz_core.specs.declared.types.Base.{Base}
use Rattle.mz_meaning.specs.Cells.{Var, held}
use Rattle.mz_meaning.specs.Domains.{Domain, domains_bounds}
use Rattle.mz_instance.specs.Parts.{is_subset_sort, sort_of}
use Rattle.mz_instance.specs.Instance.{IsTruthOver}
use Rattle.mz_model_meaning.specs.Decoded.{is_shape, AreShaped}
use Rattle.mz_symbol.specs.declared.types.Free.{Free}
use Rattle.mz_symbol.specs.declared.types.Symbol.{Symbol}
use Rattle.mz_symbol.specs.Symbols.{domain_of, free_ids}
use Rattle.mz_symbol.specs.Runs.{Run}
use Rattle.mz_symbol.specs.Readings.{Reading}
use Rattle.mz_symbol.specs.Makes.{GoesOn}
use Rattle.mz_symbol_rows.specs.OptionValues.{IsWholeOf}
use Rattle.mz_model_state.specs.Hands.{View, ManyPlaces, kind_domains, array_value}
use Rattle.mz_model_roots.specs.Placed.{place_over, HaveNodes, Keeps, MakesPlaces}

-- what is asked of a domain besides its set's being canonical
pub record IsSuited (d : Domain) : Type 0 where
  pub base : is_shape d.base ≡ true
  pub truth : IsTruthOver (sort_of d.base) d.set
  pub allowed : d.opt ≡ true → is_subset_sort (sort_of d.base) ≡ false

-- some places are made, and those over the rest of the sets are not yet
pub record AreSoFar (old new : Run) (k next : ℕ) (b : Base) (o : Bool) (all rest : List (List Range)) (fs : List Free) : Type 0 where
  pub makes : MakesPlaces (8 * length fs) old new
  pub count : length fs + length rest ≡ length all
  pub number : next ≡ k + length (free_ids fs)
  pub domains : map domain_of fs ++ map (place_over b o) rest ≡ map (place_over b o) all
  pub shaped : AreShaped (map domain_of fs)
  pub nodes : HaveNodes new k fs

abbrev pub symbols_of : List Free → List Symbol
symbols_of fs = map (λ f. f.symbol) fs

-- each symbol stands for that of a place
abbrev pub AreWholeOf : Run → List Free → List Symbol → Type 0
AreWholeOf s [] [] = Unit {0}
AreWholeOf s (f ∷ fs) (x ∷ xs) = IsWholeOf s f.symbol x × AreWholeOf s fs xs
AreWholeOf s fs xs = ⊥

-- so do those of the first n places
pub record AreWholeSoFar (old new : Run) (fs : List Free) (n : ℕ) (xs : List Symbol) : Type 0 where
  pub goes : GoesOn old new
  pub keeps : Keeps old new
  pub whole : AreWholeOf new (take n fs) xs

-- the cell of an array whose elements are this line
pub record IsArrayOver (line : ℕ) (v : View) (ix : List Range) (fs : List Free) : Type 0 where
  pub cell : (r : Reading) → v r ≡ Var (domains_bounds (kind_domains (ManyPlaces ix fs))) (held r.mode (array_value ix (r.line line)))
