-- The top-level names of a model, as its walks declare them.
use Rattle.std.specs.Prelude.{◌≡◌, refl, ℕ, pos, Bool, true, false, List, [], ◌∷◌, map, Option, Some, None}
use Rattle.std.specs.Option.{option_map}
use Rattle.mz_value.specs.Contents.{Content}
use Rattle.mz_core.specs.Program.{PlainProgram}
use Rattle.mz_core.specs.Tree.{Decl}
use Rattle.mz_arena.specs.Instances.{ModelVar, ParValue}
use Rattle.mz_meaning.specs.Runs.{Answer, Out, Stopped, start}
use Rattle.mz_meaning.specs.Cells.{Par, Given}
use Rattle.mz_meaning.specs.Contexts.{Positive}
use Rattle.mz_meaning.specs.Walk.{Limits, Assignment, Walked, ordered, walk}
use Rattle.mz_meaning.specs.Written.{int, var_int, num, plain, decl, i}
use Rattle.mz_model_meaning.specs.Decoded.{named}
use Rattle.mz_model_meaning.specs.Modeled.{names_of}
use Rattle.mz_print.specs.Output.{OutputName, output_names}

-- ---- what walks find

-- a walk goes through, and declares these names, with the domains of these variables
abbrev pub HasNames : List Decl → List ModelVar → List OutputName → Answer Walked → Type 0
HasNames ds vars xs (Out out end) = (map named out.names ≡ names_of ds vars) × (output_names out.names ≡ xs)
HasNames ds vars xs (Stopped f) = ⊥

-- EACH WALK over the model does, whatever values its variables have and whatever is chosen
pub record FindsNames (l : Limits) (p : PlainProgram) (vars : List ModelVar) (xs : List OutputName) : Type 0 where
  pub each : (a : Assignment) (c : ℕ → Content) → HasNames (ordered p.decls p.order) vars xs (walk Positive l (Given c) a p start)

-- ---- by the values of par names

abbrev pub variable : ℕ → OutputName
variable slot = record { slot = slot; fixed = None }

abbrev pub par_name : ℕ → Content → OutputName
par_name slot v = record { slot = slot; fixed = Some (Par (Some v)) }

abbrev pub with_name : OutputName → Option (List OutputName) → Option (List OutputName)
with_name x xs = option_map (λ ys. x ∷ ys) xs

-- a par name takes the next value, and a decision variable none
abbrev pub next_with : Bool → ℕ → (List ParValue → Option (List OutputName)) → List ParValue → Option (List OutputName)
next_with true slot rest vs = with_name (variable slot) (rest vs)
next_with false slot rest [] = None
next_with false slot rest (v ∷ vs) = with_name (par_name slot v.value) (rest vs)

-- the names of declarations, with these values of the par names among them; None where there aren't as many
unfoldable pub names_with : List Decl → List ParValue → Option (List OutputName)
names_with [] [] = Some []
names_with [] (v ∷ vs) = None
names_with (d ∷ ds) vs = next_with d.ty.ty.var d.slot (names_with ds) vs

-- int: n = 2; var int: x;
abbrev two_names : List Decl
two_names = decl 5 0 (plain int) (Some (num 9 (pos 2))) ∷ decl 21 1 (plain var_int) None ∷ []

pub one_value : names_with two_names (record { slot = 0; value = i (pos 2) } ∷ []) ≡ Some (par_name 0 (i (pos 2)) ∷ variable 1 ∷ [])
unfolding names_with
one_value = refl

pub no_value : names_with two_names [] ≡ None
unfolding names_with
no_value = refl

pub two_values : names_with two_names (record { slot = 0; value = i (pos 2) } ∷ record { slot = 1; value = i (pos 3) } ∷ []) ≡ None
unfolding names_with
two_values = refl
