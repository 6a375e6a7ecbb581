-- How the call ends.
use Rattle.std.proofs.Common.{ℕ, ◌+◌, ◌≤◌, Result, Err, Ok, IfOk, subst}
use Rattle.mz_base.specs.declared.stop.Stop.{Stop}
use Rattle.mz_base.specs.declared.stop.Stop.TheVariants.{Refused, Memory}
use Rattle.mz_meaning.specs.Runs.{Run, State, Answer}
use Rattle.mz_meaning.specs.Kinds.{StopsAtEvaluation, IsEvaluation}
use Rattle.mz_core.specs.Tree.{Tree}
use Rattle.mz_meaning.specs.Cells.{Cell, Env}
use Rattle.mz_meaning.specs.Contexts.{Untested}
use Rattle.mz_meaning.specs.Forms.{World}
use Rattle.mz_meaning.specs.Evaluation.{eval}
use Rattle.mz_eval_scopes.specs.Runs.{Meets, at_work}
use Rattle.mz_eval.specs.Answers.{StopsAtFewKinds}
use Rattle.mz_meaning_laws.specs.Spending.{EndsWithin}
use Rattle.mz_meaning_laws.proofs.Budgets.{ends_within}

pub meets_few : {A B : Type 0} (see : A → B) (r : Result A Stop) (n : ℕ) (s : State) (run : Run B) → IsEvaluation run → Meets see r n (run s) → StopsAtFewKinds r
meets_few see (Ok x) n s run w h = tt
meets_few see (Err (Refused f)) n s run w h = subst StopsAtEvaluation h (w.by s)
meets_few see (Err Memory) n s run w h = tt

meets_within : {A B : Type 0} (see : A → B) (r : Result A Stop) (n b : ℕ) (a : Answer B) → EndsWithin b a → Meets see r n a → IfOk r (λ _. n ≤ b + 1)
meets_within see (Ok x) n b a w h = subst (EndsWithin b) h w
meets_within see (Err e) n b a w h = tt

pub within_budget : {A : Type 0} (see : A → Cell) (r : Result A Stop) (n : ℕ) (w : World) (left : ℕ) (e : Tree) (env : Env) (k : ℕ) → k ≤ w.budget + 1 → Meets see r n (eval w left Untested e env (at_work k)) → IfOk r (λ _. n ≤ w.budget + 1)
within_budget see r n w left e env k h m = meets_within see r n w.budget (eval w left Untested e env (at_work k)) (ends_within w left e env (at_work k) h) m
