-- The cell of an `if` with its value, and what it costs.
use Rattle.std.proofs.Common.{◌≡◌, ◌∙◌, ℕ, Err, sym, ap, subst}
use Rattle.mz_base.specs.declared.stop.Stop.{Stop}
use Rattle.mz_base.specs.declared.stop.Stop.TheVariants.{Refused, Memory}
use Rattle.std.specs.Prelude.{Result}
use Rattle.mz_meaning.specs.Runs as runs
use Rattle.mz_meaning.specs.Runs.{State, Answer}
use Rattle.mz_symbol.specs.Runs.{Run}
use Rattle.mz_symbol.specs.Makes.{GoesOn, GoesOnBy, MeetsAt, Spares}
use Rattle.mz_symbol_rows.proofs.GoingOn.{goes_drawn}
use Rattle.mz_eval_branches.specs.BranchLines.{fold_charge}

-- a refusal is the same, whatever is seen of a result
pub same_refusal : {A C B : Type 0} (f : A → B) (g : C → B) (e : Stop) (s u : State) (a : Answer B) → MeetsAt f (Err e) s a → MeetsAt g (Err e) u a
same_refusal f g (Refused x) s u a h = h
same_refusal f g Memory s u a h = tt

-- the same run, from the same state
pub same_run : {A B : Type 0} (see : A → B) (x : Result A Stop) (s u v : State) (m n : runs.Run B) → u ≡ v → m ≡ n → MeetsAt see x s (n v) → MeetsAt see x s (m u)
same_run see x s u v m n p q h = subst (λ w. MeetsAt see x s (m w)) (sym p) (subst (λ f. MeetsAt see x s (f v)) (sym q) h)

-- ---- what it costs

pub goes_charged : (n m : ℕ) (old mid new : Run) → n ≡ m → Spares n old mid → GoesOnBy m mid new → GoesOn old new
goes_charged n m old mid new e f g = goes_drawn n old mid new f (subst (λ k. GoesOnBy k mid new) (sym e) g)

pub charge_told : (n c d k : ℕ) → n ≡ fold_charge c k → c ≡ d → n ≡ fold_charge d k
charge_told n c d k e f = e ∙ ap (λ x. fold_charge x k) f
