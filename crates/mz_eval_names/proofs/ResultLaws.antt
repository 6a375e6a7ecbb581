-- The arguments and the results of calls.
use Rattle.std.proofs.Common.{◌≡◌, ◌∙◌, Bool, List, sym, ap}
use Rattle.mz_base.specs.declared.fault.Span.{Span}
use Rattle.mz_core.specs.Types.{PlainType}
use Rattle.mz_meaning.specs.Arrays as arrays
use Rattle.mz_meaning.specs.Calls.{argument_suits}
use Rattle.mz_meaning.specs.Cells.{Cell, Sure, both_sure, guarded}
use Rattle.mz_meaning.specs.Lets as lets
use Rattle.mz_meaning.specs.Runs.{State, Answer, Out, then_do}
use Rattle.mz_symbol.specs.Runs.{Run}
use Rattle.mz_symbol.specs.Readings.{Reading, Reads, state_of}
use Rattle.mz_symbol.specs.Makes.{GoesOnBy}
use Rattle.mz_symbol_rows.proofs.RowLaws.{out_both}
use Rattle.mz_eval_cells.specs.declared.types.Known.{Known}
use Rattle.mz_eval_cells.specs.Views.{seen}
use Rattle.mz_eval_guards.specs.declared.types.Guard.{Guard}
use Rattle.mz_eval_guards.specs.Guards.{IsCell, IsGuard, guard_seen}
use Rattle.mz_eval_names.specs.Names.{argument_fitted}
use Rattle.mz_eval_names.specs.Steps.{local_out}

pub suited_means : (a b : Bool) (r : Reading) (at : Span) (ws : List arrays.Want) (w : arrays.Want) (c : Cell) (f : Known) (g : Guard) (s t : State) → ((s : State) → arrays.fitted at ws c s ≡ Out (seen r f) s) → guard_seen r g ≡ both_sure (lets.all_have_sets ws) (argument_suits a b w (seen r f)) → s ≡ t → argument_fitted a b at ws w c s ≡ Out (seen r f, guard_seen r g) t
suited_means a b r at ws w c f g s t fits h e =
    ap (λ (x : Answer Cell). then_do x (λ (y : Cell) (u : State). local_out y (both_sure (lets.all_have_sets ws) (argument_suits a b w y)) u)) (fits s)
    ∙ ap (λ (q : Sure). local_out (seen r f) q s) (sym h)
    ∙ ap (λ (u : State). local_out (seen r f) (guard_seen r g) u) e

pub result_means : (old one two new : Run) (t : PlainType) (holds own all : Guard) (c x : Known) (f : Reading → Sure) (r : Reading) → IsGuard old one f own → GoesOnBy 0 one two → IsGuard one two (λ r. both_sure (guard_seen r holds) (guard_seen r own)) all → GoesOnBy 0 two new → IsCell two new (λ r. guarded r.mode t (guard_seen r all) (seen r c)) x → Reads r new → Out (guarded r.mode t (both_sure (guard_seen r holds) (f r)) (seen r c)) (state_of r old) ≡ Out (seen r x) (state_of r new)
result_means old one two new t holds own all c x f r i g j h k q =
    let last = h.back r q in
    let first = g.back r last in
    out_both
    (ap (λ (s : Sure). guarded r.mode t s (seen r c)) (ap (both_sure (guard_seen r holds)) (sym (i.is r first)) ∙ sym (j.is r last)) ∙ sym (k.is r q))
    (i.same r first ∙ j.same r last ∙ k.same r q)
