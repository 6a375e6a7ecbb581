-- Mirror of src/names.rt; private clauses only.
use Rattle.std.specs.Prelude.{◌≡◌, ℕ, List, ◌∷◌, ◌++◌, drop, Some, slice_get}
use Rattle.mz_core.specs.Tree.{Decl}
use Rattle.mz_arena.specs.Instances.{ParValue}
use Rattle.mz_meaning.specs.Walk.{ordered, with_decl}
use Rattle.mz_print.specs.Output.{OutputName}
use Rattle.mz_print_model.specs.Names.{names_with}

-- a declaration's name is added, and what follows has the values from the second place on
pub record IsNextName (d : Decl) (vs : List ParValue) (at : ℕ) (before : List OutputName) (next : ℕ) (after : List OutputName) : Type 0 where
  pub added : List OutputName
  pub is : after ≡ before ++ added
  pub by : (ds : List Decl) (xs : List OutputName) → names_with ds (drop next vs) ≡ Some xs → names_with (d ∷ ds) (drop at vs) ≡ Some (added ++ xs)

-- the same of the declaration with this number, if there is one
pub record IsNextAt (all : List Decl) (vs : List ParValue) (k at : ℕ) (before : List OutputName) (next : ℕ) (after : List OutputName) : Type 0 where
  pub added : List OutputName
  pub is : after ≡ before ++ added
  pub by : (ds : List Decl) (xs : List OutputName) → names_with ds (drop next vs) ≡ Some xs → names_with (with_decl ds (slice_get all k)) (drop at vs) ≡ Some (added ++ xs)

-- with the names of the declarations with the rest of the numbers these are the names of all
pub record AreNamesSoFar (all : List Decl) (vs : List ParValue) (ks rest : List ℕ) (at : ℕ) (so_far : List OutputName) : Type 0 where
  pub by : (xs : List OutputName) → names_with (ordered all rest) (drop at vs) ≡ Some xs → names_with (ordered all ks) vs ≡ Some (so_far ++ xs)
