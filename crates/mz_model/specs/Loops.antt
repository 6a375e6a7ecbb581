-- How the loops over declarations and constraints go on and end, and what an objective is.
use Rattle.std.specs.Prelude.{ℕ, List, [], map, Option, Some, None, Result, Vec}
use Rattle.std.specs.Global.{Global}
use Rattle.mz_base.specs.declared.stop.Stop.{Stop}
use Rattle.mz_core.specs.Tree.{Tree}
use Rattle.mz_meaning.specs.Cells.{Cell}
use Rattle.mz_meaning.specs.Walk.{ordered}
use Rattle.mz_symbol.specs.Runs.{Run}
use Rattle.mz_symbol.specs.Readings.{Reading}
use Rattle.mz_eval_cells.specs.declared.types.Known.{Known}
use Rattle.mz_eval_cells.specs.Views.{seen}
use Rattle.mz_model_state.specs.Hands as hands
use Rattle.mz_model_state.specs.Hands.{WalkStops}
use Rattle.mz_model_state.specs.Progress.{IsAmong}
use Rattle.mz_model.specs.declared.types.Task.{Task}
use Rattle.mz_model.specs.declared.types.HeldConstraint.{HeldConstraint}
use Rattle.mz_model.specs.Walks.{limits_of, program_of, held_constraint, Ends, IsUpTo}

-- the declarations with these numbers
pub record NumbersEnd (t : Task) (old new : Run) (before after : List hands.HeldName) (all : List ℕ) (x : Result (Unit {0}) Stop) : Type 0 where
  pub by : IsUpTo t old before (ordered (program_of t).decls all) → Ends x (λ _. IsUpTo t new after []) (λ f. WalkStops (limits_of t) (program_of t) f new after)

-- those with the rest of the numbers are still to come
pub record AreToCome (t : Task) (old now : Run) (before after : List hands.HeldName) (all rest : List ℕ) : Type 0 where
  pub by : IsUpTo t old before (ordered (program_of t).decls all) → IsUpTo t now after (ordered (program_of t).decls rest)

-- these constraints
pub record ConstraintsEnd (t : Task) (old new : Run) (ns : List hands.HeldName) (all : List Tree) (x : Result (Vec HeldConstraint Global) Stop) : Type 0 where
  pub by : IsAmong (limits_of t) (program_of t) old ns [] all → Ends x (λ cs. IsAmong (limits_of t) (program_of t) new ns (map held_constraint cs.items) []) (λ f. WalkStops (limits_of t) (program_of t) f new ns)

-- some of them are in hand, and the rest is still to come
pub record AreInHand (t : Task) (old now : Run) (ns : List hands.HeldName) (all : List Tree) (cs : List HeldConstraint) (rest : List Tree) : Type 0 where
  pub by : IsAmong (limits_of t) (program_of t) old ns [] all → IsAmong (limits_of t) (program_of t) now ns (map held_constraint cs) rest

-- all names are declared, and all constraints are in hand
pub record WalkEnds (t : Task) (new : Run) (ns : List hands.HeldName) (x : Result (Vec HeldConstraint Global) Stop) : Type 0 where
  pub ends : Ends x (λ cs. IsAmong (limits_of t) (program_of t) new ns (map held_constraint cs.items) []) (λ f. WalkStops (limits_of t) (program_of t) f new ns)

-- the objective's cell, if there is one
abbrev pub aim_seen : Reading → Option Known → Option Cell
aim_seen r None = None
aim_seen r (Some k) = Some (seen r k)
