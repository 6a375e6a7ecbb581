-- One more name by the form of its declaration.
use Rattle.std.proofs.Common.{◌≡◌, ◌∙◌, ℕ, List, [], ◌∷◌, ◌++◌, refl, sym, ap}
use Rattle.mz_base.specs.declared.fault.Fault.{Fault}
use Rattle.mz_core.specs.Program.{PlainProgram}
use Rattle.mz_core.specs.Tree.{Decl}
use Rattle.mz_arena.specs.Values.{Term}
use Rattle.mz_meaning.specs.Contexts.{Positive}
use Rattle.mz_meaning.specs.Evaluation.{eval}
use Rattle.mz_meaning.specs.Runs.{State, Answer, Out, Stopped, then_do}
use Rattle.mz_meaning.specs.Walk.{Limits, Assignment, Declared, levels, names_env, variable}
use Rattle.mz_symbol.specs.Runs.{Run}
use Rattle.mz_symbol.specs.Readings.{Reading, Reads, state_of}
use Rattle.mz_model_state.specs.Hands.{View, kind_domains, HeldName, cell_at, name_at, names_at, AllAssigned, IsAssigned}
use Rattle.mz_model_state.specs.Loops.{world_after, name_run, IsNextName, IsNameFault}
use Rattle.mz_model_state.specs.Variables.{VariablesSeen}
use Rattle.mz_model_state.specs.Forms.{NameForm, ParForm, VarForm, declared_as}
use Rattle.mz_model_state.specs.Names.{form_run, HasForm, FormStops, par_held, var_form, IsMadeVar, VarIsNext}
use Rattle.mz_model_state.proofs.Forms.{declared_by_form}

abbrev after_form : Reading → Assignment → Decl → Answer NameForm → Answer Declared
after_form r a d x = then_do x (λ x s. Out (declared_as r.mode a d.slot x) s)

run_by_form : (l : Limits) (p : PlainProgram) (r : Reading) (a : Assignment) (ns : List HeldName) (d : Decl) (s : State) → name_run l p r a ns d s ≡ after_form r a d (form_run l p r ns d s)
run_by_form l p r a ns d s = declared_by_form (world_after l p r ns) (eval (world_after l p r ns) levels) Positive a d (names_env (names_at r ns)) s

pub form_faults : (l : Limits) (p : PlainProgram) (old new : Run) (ns : List HeldName) (d : Decl) (f : Fault) → FormStops l p old new ns d f → IsNameFault l p old new ns d f
form_faults l p old new ns d f h = record {
  back = h.back;
  stops = λ r a reads assigned. run_by_form l p r a ns d (state_of r old) ∙ ap (after_form r a d) (h.stops r reads);
}

pub par_is_next : (l : Limits) (p : PlainProgram) (old new : Run) (ns : List HeldName) (d : Decl) (v : View) → HasForm l p old new ns d (λ r. ParForm (v r)) → IsNextName l p old new ns d (par_held d.slot v)
par_is_next l p old new ns d v h = record {
  back = h.back;
  means = λ r a reads assigned. run_by_form l p r a ns d (state_of r old) ∙ ap (after_form r a d) (h.means r reads);
}

last_assigned : (t : ℕ → Term) (a : Assignment) (ns : List HeldName) (n : HeldName) → AllAssigned t a (ns ++ n ∷ []) → IsAssigned t a n.slot n.kind
last_assigned t a [] n h = h.0
last_assigned t a (m ∷ ns) n h = last_assigned t a ns n h.1

pub var_is_next : VariablesSeen → VarIsNext
var_is_next seen l p old mid new ns d n form slot made = record {
  back = λ r reads. form.back r (made.back r reads);
  means = λ r a reads assigned.
      run_by_form l p r a ns d (state_of r old)
      ∙ ap (after_form r a d) (form.means r (made.back r reads))
      ∙ ap (λ k. Out (variable r.mode a k (kind_domains n.kind) (cell_at r n.value)) (state_of r mid)) (sym slot)
      ∙ ap (λ s. Out (variable r.mode a n.slot (kind_domains n.kind) (cell_at r n.value)) s) (made.same r reads)
      ∙ ap (λ x. Out x (state_of r new)) (seen new n r a made.cell reads (λ g. last_assigned r.term a ns n (assigned g)));
}
