-- ONE MORE NAME in hand, by the form of its declaration: a par name, or a variable with its places.
use Rattle.std.specs.Prelude.{◌≡◌, ℕ, List, [], Option, Some, None}
use Rattle.mz_base.specs.declared.fault.Fault.{Fault}
use Rattle.mz_core.specs.Program.{PlainProgram}
use Rattle.mz_core.specs.Tree.{Decl}
use Rattle.mz_meaning.specs.Contexts.{Positive}
use Rattle.mz_meaning.specs.Evaluation.{eval}
use Rattle.mz_meaning.specs.Runs as runs
use Rattle.mz_meaning.specs.Runs.{Out, Stopped}
use Rattle.mz_meaning.specs.Walk.{Limits, levels, names_env}
use Rattle.mz_symbol.specs.Runs.{Run}
use Rattle.mz_symbol.specs.Readings.{Reading, Reads, state_of}
use Rattle.mz_model_state.specs.Hands.{View, ParName, kind_domains, HeldName, cell_at, names_at}
use Rattle.mz_model_state.specs.Loops.{ReadBack, world_after, IsNextName, IsNameFault}
use Rattle.mz_model_state.specs.Variables.{HasCell}
use Rattle.mz_model_state.specs.Forms.{NameForm, ParForm, VarForm, form_in}

-- the evaluation of the next declaration, after these names
abbrev pub form_run : Limits → PlainProgram → Reading → List HeldName → Decl → runs.Run NameForm
form_run l p r ns d = form_in (world_after l p r ns) (eval (world_after l p r ns) levels) Positive d (names_env (names_at r ns))

-- a declaration has this form, under each reading
pub record HasForm (l : Limits) (p : PlainProgram) (old new : Run) (ns : List HeldName) (d : Decl) (v : Reading → NameForm) : Type 0 where
  pub back : ReadBack old new
  pub means : (r : Reading) → Reads r new → form_run l p r ns d (state_of r old) ≡ Out (v r) (state_of r new)

-- its evaluation stops
pub record FormStops (l : Limits) (p : PlainProgram) (old new : Run) (ns : List HeldName) (d : Decl) (f : Fault) : Type 0 where
  pub back : ReadBack old new
  pub stops : (r : Reading) → Reads r new → form_run l p r ns d (state_of r old) ≡ Stopped f

abbrev pub FormFaults : Type 0
FormFaults = (l : Limits) (p : PlainProgram) (old new : Run) (ns : List HeldName) (d : Decl) (f : Fault) → FormStops l p old new ns d f → IsNameFault l p old new ns d f

-- ---- par names

abbrev pub par_held : ℕ → View → HeldName
par_held slot v = record { slot = slot; kind = ParName; cell = v; value = Some v; roots = [] }

abbrev pub ParIsNext : Type 0
ParIsNext = (l : Limits) (p : PlainProgram) (old new : Run) (ns : List HeldName) (d : Decl) (v : View) → HasForm l p old new ns d (λ r. ParForm (v r)) → IsNextName l p old new ns d (par_held d.slot v)

-- ---- variables

-- its domains and its value are those of the form
abbrev pub var_form : HeldName → Reading → NameForm
var_form n r = VarForm (kind_domains n.kind) (cell_at r n.value)

-- places, a cell and roots are made, which costs no work
pub record IsMadeVar (mid new : Run) (n : HeldName) : Type 0 where
  pub back : ReadBack mid new
  pub same : (r : Reading) → Reads r new → state_of r mid ≡ state_of r new
  pub cell : HasCell new n n.kind

abbrev pub VarIsNext : Type 0
VarIsNext = (l : Limits) (p : PlainProgram) (old mid new : Run) (ns : List HeldName) (d : Decl) (n : HeldName) → HasForm l p old mid ns d (var_form n) → n.slot ≡ d.slot → IsMadeVar mid new n → IsNextName l p old new ns d n
