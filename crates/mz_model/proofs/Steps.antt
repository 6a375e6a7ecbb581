-- The steps of the walk: the world of a step, the form of a declaration, and a constraint.
use Rattle.std.proofs.Common.{◌≡◌, ◌∙◌, ℕ, ℤ, List, [], ◌∷◌, ◌++◌, length, map, Result, Ok, Err, refl, sym, ap, subst}
use Rattle.std.specs.Prelude.{IsErrAnd, Vec}
use Rattle.std.specs.Global.{Global}
use Rattle.mz_base.specs.declared.stop.Stop.{Stop}
use Rattle.mz_base.specs.declared.stop.Stop.TheVariants.{Refused, Memory}
use Rattle.mz_value.specs.Contents.{case_names}
use Rattle.mz_core.specs.Program.{function, plain_program}
use Rattle.mz_core.specs.Tree.{Tree, Decl}
use Rattle.mz_meaning.specs.Cells.{Cell, Env, Mode}
use Rattle.mz_meaning.specs.Contexts.{Positive}
use Rattle.mz_meaning.specs.Evaluation.{eval}
use Rattle.mz_meaning.specs.Forms.{World}
use Rattle.mz_meaning.specs.Runs as runs
use Rattle.mz_meaning.specs.Runs.{Out}
use Rattle.mz_meaning.specs.Walk.{levels}
use Rattle.mz_symbol.specs.Runs.{Run}
use Rattle.mz_symbol.specs.Readings.{Reading, Reads, state_of}
use Rattle.mz_symbol.specs.Makes.{MeetsAt}
use Rattle.mz_eval_cells.specs.declared.types.Known.{Known}
use Rattle.mz_eval_cells.specs.Views.{seen}
use Rattle.mz_eval_scopes.specs.Views.{text_entry, env_cells_by}
use Rattle.mz_model_state.specs.Hands as hands
use Rattle.mz_model_state.specs.Loops.{ReadBack, world_after}
use Rattle.mz_model_names.specs.Named.{view, AreRootsOfConstraint}
use Rattle.mz_model_state.specs.Forms.{NameForm, form_in}
use Rattle.mz_model_state.specs.Names.{HasForm, FormFaults}
use Rattle.mz_model_state.specs.Progress.{IsBetween, OneMoreName, OneMoreConstraint, DeclarationHalts, ConstraintHalts}
use Rattle.mz_model_names.specs.declared.forms.Form.{Form}
use Rattle.mz_model_names.specs.Formed.{form_seen}
use Rattle.mz_model.specs.declared.types.Task.{Task}
use Rattle.mz_model.specs.declared.types.Names.{Names}
use Rattle.mz_model.specs.declared.types.HeldConstraint.{HeldConstraint}
use Rattle.mz_model.specs.Walks.{limits_of, program_of, names_of, held_constraint, AreReadable, IsAdded, FormEnds, DeclarationEnds, ConstraintEnds}

-- ---- the world in which names are declared

abbrev world_with : Task → ℤ → Mode → Env → World
world_with t n m top = record { functions = map function t.program.now.functions.items; cases = case_names t.program.now.cases; texts = map text_entry t.program.now.texts.items; budget = t.budget; int_range = n; top = top; mode = m }

pub world_is : (t : Task) (ns : Names) (n : ℤ) (r : Reading) → n ≡ t.int_range → AreReadable ns → world_with t n r.mode (env_cells_by (seen r) ns.env) ≡ world_after (limits_of t) (program_of t) r (names_of ns)
unfolding plain_program
world_is t ns n r e cells = ap (λ k. world_with t k r.mode (env_cells_by (seen r) ns.env)) e ∙ ap (world_with t t.int_range r.mode) (cells.cells r)

-- ---- the form of a declaration

abbrev form_at : World → Decl → runs.Run NameForm
form_at w d = form_in w (eval w levels) Positive d w.top

-- in the world of a reading
form_met : (r : Reading) (d : Decl) (x : Result Form Stop) (s : runs.State) (v w : World) (t : runs.State) → v ≡ w → MeetsAt (form_seen d.ty.ty r) x s (form_at v d t) → MeetsAt (form_seen d.ty.ty r) x s (form_at w d t)
form_met r d x s v w t same h = subst (λ w. MeetsAt (form_seen d.ty.ty r) x s (form_at w d t)) same h

pub form_ends : (t : Task) (ns : Names) (d : Decl) (old new : Run) (w : Reading → World) (x : Result Form Stop) → ((r : Reading) → w r ≡ world_after (limits_of t) (program_of t) r (names_of ns)) → ReadBack old new → ((r : Reading) → Reads r new → MeetsAt (form_seen d.ty.ty r) x (state_of r new) (form_at (w r) d (state_of r old))) → FormEnds t old new (names_of ns) d x
form_ends t ns d old new w (Ok f) world back means = record { back = back; means = λ r h. form_met r d (Ok f) (state_of r new) (w r) (world_after (limits_of t) (program_of t) r (names_of ns)) (state_of r old) (world r) (means r h) }
form_ends t ns d old new w (Err (Refused f)) world back means = record { back = back; stops = λ r h. form_met r d (Err (Refused f)) (state_of r new) (w r) (world_after (limits_of t) (program_of t) r (names_of ns)) (state_of r old) (world r) (means r h) }
form_ends t ns d old new w (Err Memory) world back means = tt

-- ---- one more declaration

pub declared_on : OneMoreName → (t : Task) (old mid new : Run) (ns after : List hands.HeldName) (d : Decl) (f : Form) → HasForm (limits_of t) (program_of t) old mid ns d (λ r. form_seen d.ty.ty r f) → IsAdded mid new ns after d f → d.slot ≡ length ns → DeclarationEnds t old new ns after d (Ok tt)
declared_on more t old mid new ns after d f form added next = record {
  by = λ rest h. record {
    first = h.first ++ d ∷ [];
    between =
        subst (IsBetween (limits_of t) (program_of t) new (h.first ++ d ∷ []) rest) (sym added.is)
        (more (limits_of t) (program_of t) old new h.first rest ns d added.name h.between (record {
          name = added.made.next (limits_of t) (program_of t) old ns d form added.slot;
          rooted = added.made.rooted ns;
          is = record { slot = added.slot; var = added.made.var };
          slot = added.slot ∙ next;
          shaped = added.made.shaped;
        }));
  };
}

pub declared_stops : FormFaults → DeclarationHalts → (t : Task) (old new : Run) (ns : List hands.HeldName) (d : Decl) (e : Stop) → FormEnds t old new ns d (Err e) → DeclarationEnds t old new ns ns d (Err e)
declared_stops faults halts t old new ns d (Refused f) h = record { by = λ rest so. halts (limits_of t) (program_of t) old new so.first rest ns d f so.between (faults (limits_of t) (program_of t) old new ns d f h) }
declared_stops faults halts t old new ns d Memory h = record { by = λ rest so. tt }

pub declared_not : FormFaults → DeclarationHalts → (t : Task) (old new : Run) (ns : List hands.HeldName) (d : Decl) (x : Result (Unit {0}) Stop) (e : Stop) → FormEnds t old new ns d (Err e) → IsErrAnd x (λ z. z ≡ e) → DeclarationEnds t old new ns ns d x
declared_not faults halts t old new ns d (Ok o) e h same = absurd same
declared_not faults halts t old new ns d (Err z) e h same = subst (λ z. DeclarationEnds t old new ns ns d (Err z)) (sym same) (declared_stops faults halts t old new ns d e h)

-- ---- a constraint

abbrev cell_at : World → Tree → runs.Run Cell
cell_at w e = eval w levels Positive e w.top

abbrev pub nothing : Unit {0}
nothing = tt

pub out_state : {A : Type 0} (x y : A) (s t : runs.State) → Out x s ≡ Out y t → s ≡ t
out_state x y s t h = cc

pub constraint_done : OneMoreConstraint → (t : Task) (ns : Names) (e : Tree) (old mid new : Run) (w : Reading → World) (k : Known) (o : Vec ℕ Global) → ((r : Reading) → w r ≡ world_after (limits_of t) (program_of t) r (names_of ns)) → ReadBack old mid → ((r : Reading) → Reads r mid → cell_at (w r) e (state_of r old) ≡ Out (seen r k) (state_of r mid)) → ReadBack mid new → ((r : Reading) → Reads r new → Out nothing (state_of r mid) ≡ Out nothing (state_of r new)) → AreRootsOfConstraint new (view k) o.items → ConstraintEnds t old new (names_of ns) e (Ok (record { cell = k; roots = o }))
constraint_done more t ns e old mid new w k o world back means on stays roots = record {
  by = λ cs rest among.
      more (limits_of t) (program_of t) old new (names_of ns) cs e rest (held_constraint (record { cell = k; roots = o })) among
      (record {
        back = λ r h. back r (on r h);
        means = λ r h.
            ap (λ w. cell_at w e (state_of r old)) (sym (world r))
            ∙ means r (on r h)
            ∙ ap (λ s. Out (seen r k) s) (out_state nothing nothing (state_of r mid) (state_of r new) (stays r h));
      })
      (roots.by (held_constraint (record { cell = k; roots = o })) refl refl);
}

pub constraint_fault : ConstraintHalts → (t : Task) (ns : Names) (e : Tree) (old new : Run) (w : Reading → World) (x : Stop) → ((r : Reading) → w r ≡ world_after (limits_of t) (program_of t) r (names_of ns)) → ReadBack old new → ((r : Reading) → Reads r new → MeetsAt {A = Known} (seen r) (Err x) (state_of r new) (cell_at (w r) e (state_of r old))) → ConstraintEnds t old new (names_of ns) e (Err x)
constraint_fault halts t ns e old new w Memory world back means = record { by = λ cs rest among. tt }
constraint_fault halts t ns e old new w (Refused f) world back means = record {
  by = λ cs rest among.
      halts (limits_of t) (program_of t) old new (names_of ns) cs e rest f among
      (record { back = back; stops = λ r h. ap (λ w. cell_at w e (state_of r old)) (sym (world r)) ∙ means r h });
}

pub constraint_ends : ConstraintHalts → (t : Task) (ns : Names) (e : Tree) (old new : Run) (w : Reading → World) (x : Result HeldConstraint Stop) (d : Stop) → ((r : Reading) → w r ≡ world_after (limits_of t) (program_of t) r (names_of ns)) → ReadBack old new → ((r : Reading) → Reads r new → MeetsAt {A = Known} (seen r) (Err d) (state_of r new) (cell_at (w r) e (state_of r old))) → IsErrAnd x (λ y. y ≡ d) → ConstraintEnds t old new (names_of ns) e x
constraint_ends halts t ns e old new w (Ok c) d world back means is = absurd is
constraint_ends halts t ns e old new w (Err y) d world back means is = subst (λ y. ConstraintEnds t old new (names_of ns) e (Err y)) (sym is) (constraint_fault halts t ns e old new w d world back means)
