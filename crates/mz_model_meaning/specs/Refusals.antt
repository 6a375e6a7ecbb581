-- THE BOUNDARY OF THE WALK where it stops: one walk tells how all end.
use Rattle.std.specs.Prelude.{◌≡◌, ℕ, Bool, true}
use Rattle.mz_base.specs.declared.fault.Fault.{Fault}
use Rattle.mz_base.specs.declared.kind.Kind.{Kind}
use Rattle.mz_base.specs.declared.kind.Kind.TheVariants as kind
use Rattle.mz_value.specs.Contents.{Content}
use Rattle.mz_core.specs.Program.{PlainProgram}
use Rattle.mz_meaning.specs.Kinds.{is_evaluation_kind}
use Rattle.mz_meaning.specs.Runs.{State, Answer, Out, Stopped, start}
use Rattle.mz_meaning.specs.Cells.{Given}
use Rattle.mz_meaning.specs.Contexts.{Positive}
use Rattle.mz_meaning.specs.Walk.{Limits, Assignment, Walked, walk}
use Rattle.mz_meaning.specs.Solutions.{Solves}

-- the kinds at which a walk may stop
abbrev pub is_walk_kind : Kind → Bool
is_walk_kind kind.ParUndefined = true
is_walk_kind kind.UnboundedSet = true
is_walk_kind kind.FreeInContext = true
is_walk_kind k = is_evaluation_kind k

-- some walk over the model stops at this fault
pub record StopsOnce (l : Limits) (p : PlainProgram) (f : Fault) : Type 0 where
  pub assignment : Assignment
  pub choices : ℕ → Content
  pub stops : walk Positive l (Given choices) assignment p start ≡ Stopped f

-- each walk over the model stops at this fault, which is of a walk's kinds, and nothing solves the model
pub record Stops (l : Limits) (p : PlainProgram) (f : Fault) : Type 0 where
  pub kind : is_walk_kind f.kind ≡ true
  pub stops : (a : Assignment) (c : ℕ → Content) → walk Positive l (Given c) a p start ≡ Stopped f
  pub none : (a : Assignment) → Solves l p a → ⊥

-- some walk over the model goes through
pub record GoesOnce (l : Limits) (p : PlainProgram) : Type 0 where
  pub assignment : Assignment
  pub choices : ℕ → Content
  pub out : Walked
  pub end : State
  pub goes : walk Positive l (Given choices) assignment p start ≡ Out out end

abbrev pub EndsAfter : {A : Type 0} → ℕ → Answer A → Type 0
EndsAfter n (Out x s) = s.work ≡ n
EndsAfter n (Stopped f) = ⊥

-- each walk over the model goes through, with this work
pub record Goes (l : Limits) (p : PlainProgram) (work : ℕ) : Type 0 where
  pub goes : (a : Assignment) (c : ℕ → Content) → EndsAfter work (walk Positive l (Given c) a p start)

-- ---- laws

abbrev pub StopsAlways : Type 0
StopsAlways = (l : Limits) (p : PlainProgram) (f : Fault) → StopsOnce l p f → Stops l p f

abbrev pub GoesAlways : Type 0
GoesAlways = (l : Limits) (p : PlainProgram) (g : GoesOnce l p) → Goes l p g.end.work

-- a model of which a walk goes through isn't refused
abbrev pub IsNotRefused : Type 0
IsNotRefused = (l : Limits) (p : PlainProgram) (f : Fault) → GoesOnce l p → StopsOnce l p f → ⊥
