-- All declarations, and then all constraints.
use Rattle.std.proofs.Common.{◌≡◌, ◌∙◌, ℕ, List, [], ◌∷◌, map, Result, Ok, Err, sym, ap, subst}
use Rattle.std.specs.Prelude.{IsErrAnd, Vec}
use Rattle.std.specs.Global.{Global}
use Rattle.mz_base.specs.declared.stop.Stop.{Stop}
use Rattle.mz_base.specs.declared.stop.Stop.TheVariants.{Refused, Memory}
use Rattle.mz_core.specs.Program.{plain_program}
use Rattle.mz_core.specs.TreeViews.{tree}
use Rattle.mz_core.specs.declared.tree.Core.{Core}
use Rattle.mz_meaning.specs.Walk.{ordered}
use Rattle.mz_symbol.specs.Runs.{Run}
use Rattle.mz_model_state.specs.Hands as hands
use Rattle.mz_model_state.specs.Progress.{IsAmong, AllNames}
use Rattle.mz_model.specs.declared.types.Task.{Task}
use Rattle.mz_model.specs.declared.types.HeldConstraint.{HeldConstraint}
use Rattle.mz_model.specs.Walks.{limits_of, program_of, IsUpTo}
use Rattle.mz_model.specs.Loops.{NumbersEnd, ConstraintsEnd, WalkEnds}

-- the numbers and the constraints are the program's
order_is : (t : Task) (all : List ℕ) → all ≡ t.program.now.order.items → (program_of t).order ≡ all
unfolding plain_program
order_is t all is = sym is

constraints_are : (t : Task) (all : List Core) → all ≡ t.program.now.constraints.items → (program_of t).constraints ≡ map tree all
unfolding plain_program
constraints_are t all is = ap (λ es. map tree es) (sym is)

pub walked_on : AllNames → (t : Task) (old mid new : Run) (before after : List hands.HeldName) (order : List ℕ) (all : List Core) (x : Result (Vec HeldConstraint Global) Stop) → order ≡ t.program.now.order.items → all ≡ t.program.now.constraints.items → IsUpTo t old before (ordered (program_of t).decls (program_of t).order) → NumbersEnd t old mid before after order (Ok tt) → ConstraintsEnd t mid new after (map tree all) x → WalkEnds t new after x
walked_on names t old mid new before after order all x same these begun declared constrained =
    let up = declared.by (subst (λ ks. IsUpTo t old before (ordered (program_of t).decls ks)) (order_is t order same) begun) in
    record {
      ends = constrained.by (subst (IsAmong (limits_of t) (program_of t) mid after []) (constraints_are t all these) (names (limits_of t) (program_of t) mid up.first after up.between));
    }

stops_with : (t : Task) (old new : Run) (before after : List hands.HeldName) (order : List ℕ) (e : Stop) → order ≡ t.program.now.order.items → IsUpTo t old before (ordered (program_of t).decls (program_of t).order) → NumbersEnd t old new before after order (Err e) → WalkEnds t new after (Err e)
stops_with t old new before after order Memory same begun ends = record { ends = tt }
stops_with t old new before after order (Refused f) same begun ends = record { ends = ends.by (subst (λ ks. IsUpTo t old before (ordered (program_of t).decls ks)) (order_is t order same) begun) }

pub walked_not : (t : Task) (old new : Run) (before after : List hands.HeldName) (order : List ℕ) (x : Result (Vec HeldConstraint Global) Stop) (e : Stop) → order ≡ t.program.now.order.items → IsUpTo t old before (ordered (program_of t).decls (program_of t).order) → NumbersEnd t old new before after order (Err e) → IsErrAnd x (λ z. z ≡ e) → WalkEnds t new after x
walked_not t old new before after order (Ok v) e same begun ends is = absurd is
walked_not t old new before after order (Err z) e same begun ends is = subst (λ z. WalkEnds t new after (Err z)) (sym is) (stops_with t old new before after order e same begun ends)
