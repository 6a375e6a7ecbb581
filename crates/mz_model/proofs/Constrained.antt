-- The loop over the constraints, in source order.
use Rattle.std.proofs.Common.{◌≡◌, ℕ, ◌+◌, ◌<◌, List, [], ◌∷◌, ◌++◌, map, length, drop, get_or, Result, Ok, Err, refl, sym, ap, subst}
use Rattle.std.specs.Prelude.{IsErrAnd, Vec}
use Rattle.std.specs.Global.{Global}
use Rattle.std.proofs.lemmas.List.{drop_more}
use Rattle.mz_base.specs.declared.stop.Stop.{Stop}
use Rattle.mz_base.specs.declared.stop.Stop.TheVariants.{Refused, Memory}
use Rattle.mz_core.specs.TreeViews.{tree}
use Rattle.mz_core.specs.declared.tree.Core.{Core}
use Rattle.mz_symbol.specs.Runs.{Run}
use Rattle.mz_model_state.specs.Hands as hands
use Rattle.mz_model_state.specs.Progress.{IsAmong}
use Rattle.mz_model.specs.declared.types.Task.{Task}
use Rattle.mz_model.specs.declared.types.HeldConstraint.{HeldConstraint}
use Rattle.mz_model.specs.Walks.{limits_of, program_of, held_constraint, ConstraintEnds}
use Rattle.mz_model.specs.Loops.{ConstraintsEnd, AreInHand}

with_one : (cs : List HeldConstraint) (c : HeldConstraint) → map held_constraint cs ++ held_constraint c ∷ [] ≡ map held_constraint (cs ++ c ∷ [])
with_one [] c = refl
with_one (x ∷ cs) c = ap (λ ks. held_constraint x ∷ ks) (with_one cs c)

-- one more constraint
pub one_more_in_hand : (t : Task) (old mid new : Run) (ns : List hands.HeldName) (all : List Core) (cs : List HeldConstraint) (c : HeldConstraint) (i : ℕ) (d : Core) → i < length all → AreInHand t old mid ns (map tree all) cs (map tree (drop i all)) → ConstraintEnds t mid new ns (tree (get_or all i d)) (Ok c) → AreInHand t old new ns (map tree all) (cs ++ c ∷ []) (map tree (drop (i + 1) all))
one_more_in_hand t old mid new ns all cs c i d low so ends = record {
  by = λ h.
      subst (λ ks. IsAmong (limits_of t) (program_of t) new ns ks (map tree (drop (i + 1) all))) (with_one cs c)
      (ends.by (map held_constraint cs) (map tree (drop (i + 1) all)) (subst (λ es. IsAmong (limits_of t) (program_of t) mid ns (map held_constraint cs) (map tree es)) (drop_more all i d low) (so.by h)));
}

pub stops_here : (t : Task) (old mid new : Run) (ns : List hands.HeldName) (all : List Core) (cs : List HeldConstraint) (i : ℕ) (d : Core) (e : Stop) → i < length all → AreInHand t old mid ns (map tree all) cs (map tree (drop i all)) → ConstraintEnds t mid new ns (tree (get_or all i d)) (Err e) → ConstraintsEnd t old new ns (map tree all) (Err e)
stops_here t old mid new ns all cs i d Memory low so ends = record { by = λ h. tt }
stops_here t old mid new ns all cs i d (Refused f) low so ends = record { by = λ h. ends.by (map held_constraint cs) (map tree (drop (i + 1) all)) (subst (λ es. IsAmong (limits_of t) (program_of t) mid ns (map held_constraint cs) (map tree es)) (drop_more all i d low) (so.by h)) }

pub constraints_stop : (t : Task) (old mid new : Run) (ns : List hands.HeldName) (all : List Core) (cs : List HeldConstraint) (i : ℕ) (d : Core) (x : Result (Vec HeldConstraint Global) Stop) (e : Stop) → i < length all → AreInHand t old mid ns (map tree all) cs (map tree (drop i all)) → ConstraintEnds t mid new ns (tree (get_or all i d)) (Err e) → IsErrAnd x (λ z. z ≡ e) → ConstraintsEnd t old new ns (map tree all) x
constraints_stop t old mid new ns all cs i d (Ok o) e low so ends same = absurd same
constraints_stop t old mid new ns all cs i d (Err z) e low so ends same = subst (λ z. ConstraintsEnd t old new ns (map tree all) (Err z)) (sym same) (stops_here t old mid new ns all cs i d e low so ends)

pub all_in_hand : (t : Task) (old new : Run) (ns : List hands.HeldName) (all rest : List Core) (cs : Vec HeldConstraint Global) → rest ≡ [] → AreInHand t old new ns (map tree all) cs.items (map tree rest) → ConstraintsEnd t old new ns (map tree all) (Ok cs)
all_in_hand t old new ns all rest cs none so = record { by = λ h. subst (λ es. IsAmong (limits_of t) (program_of t) new ns (map held_constraint cs.items) (map tree es)) none (so.by h) }

pub none_in_hand : (t : Task) (s : Run) (ns : List hands.HeldName) (all : List Core) (cs : List HeldConstraint) → cs ≡ [] → AreInHand t s s ns (map tree all) cs (map tree all)
none_in_hand t s ns all cs none = record { by = λ h. subst (λ ks. IsAmong (limits_of t) (program_of t) s ns (map held_constraint ks) (map tree all)) (sym none) h }
