-- Cells as those of nodes of a type.
use Rattle.std.proofs.Common.{◌≡◌, Bool, false, Result, Ok, Err, ap}
use Rattle.mz_base.specs.declared.fault.Span.{Span}
use Rattle.mz_base.specs.declared.stop.Stop.{Stop}
use Rattle.mz_base.specs.declared.stop.Stop.TheVariants.{Refused, Memory}
use Rattle.mz_core.specs.Types.{PlainType}
use Rattle.mz_meaning.specs.Runs.{State, Answer, then_do, give, spend}
use Rattle.mz_meaning.specs.Forms.{World, done}
use Rattle.mz_meaning.specs.Cells.{Cell, Mode, typed}
use Rattle.mz_symbol.specs.Makes.{MeetsAt}
use Rattle.mz_eval_chains.proofs.Runs.{then_again}
use Rattle.mz_eval.specs.Nodes.{typed_by}

-- what is told of a cell holds of it with its type
pub stamps : {A : Type 0} (see : A → Cell) (m : Mode) (name : Bool) (t : PlainType) (x : Result A Stop) (s : State) (a : Answer Cell) → MeetsAt see x s a → MeetsAt (λ k. typed m name t (see k)) x s (then_do a (λ c. give (typed m name t c)))
stamps see m name t (Ok k) s a h = ap (λ b. then_do b (λ c. give (typed m name t c))) h
stamps see m name t (Err (Refused f)) s a h = ap (λ b. then_do b (λ c. give (typed m name t c))) h
stamps see m name t (Err Memory) s a h = tt

-- a node's work before its type, and after it
pub done_typed : (w : World) (at : Span) (t : PlainType) (c : Cell) (s : State) → typed_by w t (done w at c) s ≡ done w at (typed w.mode false t c) s
done_typed w at t c s = then_again (spend w.budget at 1 s) (λ _. give c) (λ y. give (typed w.mode false t y))
