-- What the evaluation of an expression keeps, in the language's own words.
use Rattle.std.specs.Prelude.{◌≡◌, ℕ, [], Bool, true, not, Option, Some}
use Rattle.mz_value.specs.Contents.{Content}
use Rattle.mz_value.specs.Contents as values
use Rattle.mz_core.specs.Tree.{Tree, type_of, inner_tree, root_coercions}
use Rattle.mz_meaning.specs.Runs.{Answer, Out, Stopped, State}
use Rattle.mz_meaning.specs.Cells.{Given, Env, is_par, is_truth, value_of}
use Rattle.mz_meaning.specs.Contexts.{Context}
use Rattle.mz_meaning.specs.Forms.{World}
use Rattle.mz_meaning.specs.Evaluation.{eval}

-- where a run goes through, this holds of what it gives
abbrev pub OnOut : {A : Type 0} → Answer A → (A → Type 0) → Type 0
OnOut (Out x s) P = P x
OnOut (Stopped f) P = Unit {0}

-- a value that is there, and is false or true
abbrev pub IsTruth : Option Content → Type 0
IsTruth (Some (values.bool b)) = Unit {0}
IsTruth _ = ⊥

-- a Boolean that is no option is never undefined
abbrev pub BooleansAreDefined : Type 0
BooleansAreDefined =
    (w : World) (f : ℕ → Content) → w.mode ≡ Given f → (levels : ℕ) (ctx : Context) (e : Tree) (env : Env) (s : State) → root_coercions e ≡ [] → is_truth (type_of (inner_tree e)) ≡ true → OnOut (eval w levels ctx e env s) (λ c. IsTruth (value_of c))

-- par where the type isn't var
abbrev pub IsMarked : Bool → Bool → Type 0
IsMarked v p = p ≡ not v

-- an expression of a par type has a par cell, and one of a var type has none
abbrev pub CellsHaveTheirMark : Type 0
CellsHaveTheirMark =
    (w : World) (levels : ℕ) (ctx : Context) (e : Tree) (env : Env) (s : State) (v : Bool) → root_coercions e ≡ [] → (type_of (inner_tree e)).var ≡ v → OnOut (eval w levels ctx e env s) (λ c. IsMarked v (is_par c))
