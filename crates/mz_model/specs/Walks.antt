-- What the code of the walk has in hand, and how each of its steps goes on.
use Rattle.std.specs.Prelude.{◌≡◌, ℕ, List, [], ◌∷◌, ◌++◌, map, Result, Ok, Err}
use Rattle.mz_base.specs.declared.fault.Fault.{Fault}
use Rattle.mz_base.specs.declared.stop.Stop.{Stop}
use Rattle.mz_base.specs.declared.stop.Stop.TheVariants.{Refused, Memory}
use Rattle.mz_core.specs.Program.{PlainProgram, plain_program}
use Rattle.mz_core.specs.Tree.{Tree, Decl}
use Rattle.mz_meaning.specs.Cells as cells
use Rattle.mz_meaning.specs.Walk.{Limits, names_env, ordered}
use Rattle.mz_symbol.specs.Runs.{Run}
use Rattle.mz_symbol.specs.Readings.{Reading}
use Rattle.mz_eval_cells.specs.Views.{seen}
use Rattle.mz_eval_scopes.specs.Views.{env_cells_by}
use Rattle.mz_model_state.specs.Hands as hands
use Rattle.mz_model_state.specs.Hands.{names_at, SlotsFrom, WalkStops}
use Rattle.mz_model_state.specs.Names.{HasForm, FormStops}
use Rattle.mz_model_state.specs.Progress.{IsBetween, IsAmong}
use Rattle.mz_model_names.specs.Formed.{form_seen}
use Rattle.mz_model_names.specs.declared.forms.Form.{Form}
use Rattle.mz_model_names.specs.Named.{IsNameOver, held_name}
use Rattle.mz_model.specs.declared.types.Task.{Task}
use Rattle.mz_model.specs.declared.types.Names.{Names}
use Rattle.mz_model.specs.declared.types.HeldConstraint.{HeldConstraint}

abbrev pub limits_of : Task → Limits
limits_of t = record { budget = t.budget; int_range = t.int_range }

abbrev pub program_of : Task → PlainProgram
program_of t = plain_program t.program.now

-- ---- what is in hand

abbrev pub names_of : Names → List hands.HeldName
names_of ns = map held_name ns.list.items

-- each slot has the cell of its name, under each reading; how many parts the names have is tested at the end
pub record AreReadable (ns : Names) : Type 0 where
  pub cells : (r : Reading) → env_cells_by (seen r) ns.env ≡ names_env (names_at r (names_of ns))
  pub slots : SlotsFrom 0 (names_of ns)

abbrev pub held_constraint : HeldConstraint → hands.HeldConstraint
held_constraint c = record { cell = λ r. seen r c.cell; roots = c.roots.items }

-- ---- how a step ends: it goes on, it stops at a fault, or memory ran out

abbrev pub Ends : {A : Type 0} → Result A Stop → (A → Type 0) → (Fault → Type 0) → Type 0
Ends (Ok x) goes stops = goes x
Ends (Err (Refused f)) goes stops = stops f
Ends (Err Memory) goes stops = Unit {0}

-- the form of the next declaration, or where its evaluation stops
abbrev pub FormEnds : Task → Run → Run → List hands.HeldName → Decl → Result Form Stop → Type 0
FormEnds t old new ns d x = Ends x (λ f. HasForm (limits_of t) (program_of t) old new ns d (λ r. form_seen d.ty.ty r f)) (FormStops (limits_of t) (program_of t) old new ns d)

-- a name of this form is made for a declaration, and is the last in hand
pub record IsAdded (mid new : Run) (before after : List hands.HeldName) (d : Decl) (f : Form) : Type 0 where
  pub name : hands.HeldName
  pub is : after ≡ before ++ name ∷ []
  pub made : IsNameOver d.ty.ty f mid new name
  pub slot : name.slot ≡ d.slot

-- the names of all declarations but the rest
pub record IsUpTo (t : Task) (s : Run) (ns : List hands.HeldName) (rest : List Decl) : Type 0 where
  pub first : List Decl
  pub between : IsBetween (limits_of t) (program_of t) s first rest ns

-- one more declaration
pub record DeclarationEnds (t : Task) (old new : Run) (before after : List hands.HeldName) (d : Decl) (x : Result (Unit {0}) Stop) : Type 0 where
  pub by : (rest : List Decl) → IsUpTo t old before (d ∷ rest) → Ends x (λ _. IsUpTo t new after rest) (λ f. WalkStops (limits_of t) (program_of t) f new after)

-- the declaration with this number, if there is one
pub record NumberEnds (t : Task) (old new : Run) (before after : List hands.HeldName) (k : ℕ) (x : Result (Unit {0}) Stop) : Type 0 where
  pub by : (ks : List ℕ) → IsUpTo t old before (ordered (program_of t).decls (k ∷ ks)) → Ends x (λ _. IsUpTo t new after (ordered (program_of t).decls ks)) (λ f. WalkStops (limits_of t) (program_of t) f new after)

-- one more constraint
pub record ConstraintEnds (t : Task) (old new : Run) (ns : List hands.HeldName) (e : Tree) (x : Result HeldConstraint Stop) : Type 0 where
  pub by : (cs : List hands.HeldConstraint) (rest : List Tree) → IsAmong (limits_of t) (program_of t) old ns cs (e ∷ rest) → Ends x (λ c. IsAmong (limits_of t) (program_of t) new ns (cs ++ held_constraint c ∷ []) rest) (λ f. WalkStops (limits_of t) (program_of t) f new ns)
