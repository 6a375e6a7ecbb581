-- The variables of declarations, one after the other.
use Rattle.std.specs.Prelude.{◌≡◌, ℕ, List, [], ◌∷◌, drop, slice_get}
use Rattle.mz_core.specs.Tree.{Decl}
use Rattle.mz_arena.specs.Instances.{ModelVar}
use Rattle.mz_meaning.specs.Walk.{ordered, with_decl}
use Rattle.mz_model_meaning.specs.Modeled.{AreVarsOf}

-- what follows has the variables from the second place on, so with this declaration those from the first place on
pub record IsNextOf (d : Decl) (vs : List ModelVar) (at next : ℕ) : Type 0 where
  pub by : (ds : List Decl) → AreVarsOf ds (drop next vs) → AreVarsOf (d ∷ ds) (drop at vs)

-- the same of the declaration with this number, if there is one
pub record AreNextAt (all : List Decl) (vs : List ModelVar) (k at next : ℕ) : Type 0 where
  pub by : (ds : List Decl) → AreVarsOf ds (drop next vs) → AreVarsOf (with_decl ds (slice_get all k)) (drop at vs)

-- where the variables from this place on are those of the declarations with the rest of the numbers, all are those of all
pub record AreVarsFrom (all : List Decl) (vs : List ModelVar) (ks rest : List ℕ) (at : ℕ) : Type 0 where
  pub by : AreVarsOf (ordered all rest) (drop at vs) → AreVarsOf (ordered all ks) vs
