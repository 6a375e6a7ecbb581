-- How all walks over a model end where one does.
use Rattle.std.proofs.Common.{◌≡◌, ◌∙◌, ℕ, ap, sym}
use Rattle.mz_base.specs.declared.fault.Fault.{Fault}
use Rattle.mz_value.specs.Contents.{Content}
use Rattle.mz_core.specs.Program.{PlainProgram}
use Rattle.mz_meaning.specs.Runs.{State, Answer, Out, Stopped, start}
use Rattle.mz_meaning.specs.Cells.{Given}
use Rattle.mz_meaning.specs.Contexts.{Positive}
use Rattle.mz_meaning.specs.Walk.{Limits, Assignment, Walked, walk}
use Rattle.mz_meaning_laws.specs.Outlines.{outline_walked}
use Rattle.mz_meaning_laws.specs.Independence.{AreSameAnswers}
use Rattle.mz_meaning_laws.proofs.Consequences.{walks_are_alike}
use Rattle.mz_model_meaning.specs.Refusals.{StopsOnce, Stops, GoesOnce, Goes, EndsAfter}
use Rattle.mz_model_meaning.proofs.Faults.{kinds}

stops_too : (r q : Answer Walked) (f : Fault) → r ≡ Stopped f → AreSameAnswers outline_walked r q → q ≡ Stopped f
stops_too (Out x s) q f e same = absurd (cc)
stops_too (Stopped g) (Out y t) f e same = absurd same
stops_too (Stopped g) (Stopped h) f e same = cc

pub all_stop : (l : Limits) (p : PlainProgram) (f : Fault) → StopsOnce l p f → (a : Assignment) (c : ℕ → Content) → walk Positive l (Given c) a p start ≡ Stopped f
all_stop l p f once a c = stops_too (walk Positive l (Given once.choices) once.assignment p start) (walk Positive l (Given c) a p start) f once.stops ((walks_are_alike l p once.assignment a once.choices c).by start)

pub stops : (l : Limits) (p : PlainProgram) (f : Fault) → StopsOnce l p f → Stops l p f
stops l p f once = record {
  kind = kinds l p once.assignment once.choices f once.stops;
  stops = all_stop l p f once;
  none = λ a solves. let e = sym (all_stop l p f once a solves.1.choices) ∙ solves.1.runs in absurd (cc);
}

pub not_refused : (l : Limits) (p : PlainProgram) (f : Fault) → GoesOnce l p → StopsOnce l p f → ⊥
not_refused l p f goes once = let e = sym goes.goes ∙ all_stop l p f once goes.assignment goes.choices in absurd (cc)

ends_after : (r q : Answer Walked) (x : Walked) (s : State) → r ≡ Out x s → AreSameAnswers outline_walked r q → EndsAfter s.work q
ends_after (Stopped f) q x s e same = absurd (cc)
ends_after (Out y t) (Stopped f) x s e same = absurd same
ends_after (Out y t) (Out z u) x s e same = ap (λ (s : State). s.work) (sym same.1) ∙ (let o : t ≡ s = cc in ap (λ (s : State). s.work) o)

pub goes : (l : Limits) (p : PlainProgram) (g : GoesOnce l p) → Goes l p g.end.work
goes l p g = record { goes = λ a c. ends_after (walk Positive l (Given g.choices) g.assignment p start) (walk Positive l (Given c) a p start) g.out g.end g.goes ((walks_are_alike l p g.assignment a g.choices c).by start) }
