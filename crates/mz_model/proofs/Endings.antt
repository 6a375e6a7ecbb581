-- How a walk ends.
use Rattle.std.proofs.Common.{◌≡◌, ◌∙◌, ℕ, ◌+◌, ◌<◌, List, [], ◌∷◌, ◌++◌, length, map, drop, Option, Some, None, Result, Ok, Err, get_or, append_assoc, append-nil, refl, sym, ap, subst, arith}
use Rattle.std.specs.Prelude.{IsErrAnd, Vec}
use Rattle.std.specs.Global.{Global}
use Rattle.std.proofs.lemmas.List.{drop_more}
use Rattle.mz_base.specs.declared.stop.Stop.{Stop}
use Rattle.mz_base.specs.declared.stop.Stop.TheVariants.{Refused, Memory}
use Rattle.mz_core.specs.Program.{Goal, goal, plain_program}
use Rattle.mz_arena.specs.declared.instance.Instance.{Instance}
use Rattle.mz_arena.specs.declared.instance.InstanceGoal.{InstanceGoal}
use Rattle.mz_arena.specs.declared.instance.InstanceGoal.TheVariants.{Minimize, Maximize}
use Rattle.mz_arena.specs.Instances.{instance}
use Rattle.mz_meaning.specs.Cells.{Cell}
use Rattle.mz_meaning.specs.Contexts.{Positive}
use Rattle.mz_meaning.specs.Forms.{World}
use Rattle.mz_meaning.specs.Runs as runs
use Rattle.mz_meaning.specs.Runs.{Out}
use Rattle.mz_meaning.specs.Walk.{aim, ordered}
use Rattle.mz_meaning.specs.Unbounded.{first_unbounded}
use Rattle.mz_model_meaning.specs.Modeled.{HasGoalOf, AreVarsOf, Modeled}
use Rattle.mz_symbol.specs.Runs.{Run, IsRun}
use Rattle.mz_symbol.specs.Readings.{Reading, Reads, state_of}
use Rattle.mz_symbol.specs.Makes.{MeetsAt}
use Rattle.mz_eval_cells.specs.declared.types.Known.{Known}
use Rattle.mz_model_state.specs.Hands as hands
use Rattle.mz_model_state.specs.Hands.{AreVars, SlotsFrom, IsAimed, name_roots, constraint_roots, cell_at}
use Rattle.mz_model_state.specs.Loops.{ReadBack, world_after}
use Rattle.mz_model_state.specs.Tested.{IsTested}
use Rattle.mz_model_state.specs.Progress.{Begins, HaltedStops, ObjectiveHalts, ClosedModels}
use Rattle.mz_model_names.specs.declared.types.HeldName.{HeldName}
use Rattle.mz_model_names.specs.Named.{held_name, view_if}
use Rattle.mz_model_names.specs.Closed.{IsClosing}
use Rattle.mz_model.specs.declared.types.HeldConstraint.{HeldConstraint}
use Rattle.mz_model.specs.declared.types.Names.{Names}
use Rattle.mz_model.specs.declared.types.Task.{Task}
use Rattle.mz_model.specs.Walks.{AreReadable, limits_of, names_of, program_of, held_constraint, IsUpTo}
use Rattle.mz_model.specs.Loops.{WalkEnds, aim_seen}
use Rattle.mz_model.specs.Ending.{WalkHalts, StopHalts, hand_of, IsAimOf, IsAim, AimEnds, IsInHand, EndsFrom, ModelEnds, AreNumberedFrom}

-- ---- a refusal

pub slots_start : (all : List HeldName) → AreNumberedFrom all 0
slots_start all = record { by = λ h. h }

pub slots_step : (all : List HeldName) (i : ℕ) (d : HeldName) → i < length all → (get_or all i d).label.slot ≡ i → AreNumberedFrom all i → AreNumberedFrom all (i + 1)
slots_step all i d low is so = record { by = λ rest. so.by (subst (λ hs. SlotsFrom i (map held_name hs)) (sym (drop_more all i d low)) (is, subst (λ k. SlotsFrom k (map held_name (drop (i + 1) all))) (omega arith) rest)) }

drop_all : (hs : List HeldName) → drop (length hs) hs ≡ []
drop_all [] = refl
drop_all (h ∷ hs) = drop_all hs

pub slots_end : (all : List HeldName) (i : ℕ) → i ≡ length all → AreNumberedFrom all i → SlotsFrom 0 (map held_name all)
slots_end all i last so = so.by (subst (λ hs. SlotsFrom i (map held_name hs)) (sym (ap (λ k. drop k all) last ∙ drop_all all)) tt)

pub halted_stops : HaltedStops → (t : Task) (s : Run) (ns : List hands.HeldName) (x : Stop) → IsRun s → AreVars s ns → SlotsFrom 0 ns → WalkHalts t s ns x → StopHalts t x
halted_stops law t s ns (Refused f) is vars slots h = law (limits_of t) (program_of t) f s ns (record { run = is; vars = vars; slots = slots }) h
halted_stops law t s ns Memory is vars slots h = tt

pub stops_end : (t : Task) (x : Stop) → StopHalts t x → ModelEnds (limits_of t) (program_of t) (Err x)
stops_end t (Refused f) h = h
stops_end t Memory h = tt

-- ---- the objective

pub aimed_least : (s : Run) (k : Option Known) (id : ℕ) → IsAimOf s (view_if k) id → IsAimed s (view_if k) (Minimize id)
aimed_least s None id h = h
aimed_least s (Some k) id h = h

pub aimed_greatest : (s : Run) (k : Option Known) (id : ℕ) → IsAimOf s (view_if k) id → IsAimed s (view_if k) (Maximize id)
aimed_greatest s None id h = h
aimed_greatest s (Some k) id h = h

abbrev aim_at : World → Goal → runs.Run (Option Cell)
aim_at w g = aim w Positive g

seen_at : (r : Reading) (k : Option Known) → aim_seen r k ≡ cell_at r (view_if k)
seen_at r None = refl
seen_at r (Some k) = refl

goal_is : (t : Task) → (program_of t).goal ≡ goal t.program.now.goal
unfolding plain_program
goal_is t = refl

pub aim_is : (t : Task) (ns : List hands.HeldName) (old mid new : Run) (w : Reading → World) (k : Option Known) (g : InstanceGoal) → ((r : Reading) → w r ≡ world_after (limits_of t) (program_of t) r ns) → ReadBack old mid → ((r : Reading) → Reads r mid → aim_at (w r) (goal t.program.now.goal) (state_of r old) ≡ Out (aim_seen r k) (state_of r mid)) → ReadBack mid new → ((r : Reading) → Reads r new → state_of r mid ≡ state_of r new) → HasGoalOf (goal t.program.now.goal) g → IsAimed new (view_if k) g → IsAim t old new ns g
aim_is t ns old mid new w k g world back means on same has aimed = record {
  view = view_if k;
  goal = subst (λ x. HasGoalOf x g) (sym (goal_is t)) has;
  aimed = aimed;
  evaluated = λ cs. record {
    back = λ r h. back r (on r h);
    means = λ r h.
        ap (λ w. aim_at w (program_of t).goal (state_of r old)) (sym (world r))
        ∙ ap (λ x. aim_at (w r) x (state_of r old)) (goal_is t)
        ∙ means r (on r h)
        ∙ ap (λ c. Out c (state_of r mid)) (seen_at r k)
        ∙ ap (λ s. Out (cell_at r (view_if k)) s) (same r h);
  };
}

pub aim_fails : (t : Task) (ns : List hands.HeldName) (old new : Run) (w : Reading → World) (x : Result InstanceGoal Stop) (d : Stop) → ((r : Reading) → w r ≡ world_after (limits_of t) (program_of t) r ns) → ReadBack old new → ((r : Reading) → Reads r new → MeetsAt {A = Option Known} (aim_seen r) (Err d) (state_of r new) (aim_at (w r) (goal t.program.now.goal) (state_of r old))) → IsErrAnd x (λ y. y ≡ d) → AimEnds t old new ns x
aim_fails t ns old new w (Ok g) d world back means is = absurd is
aim_fails t ns old new w (Err y) d world back means is = subst (λ (y : Stop). AimEnds t old new ns (Err y)) (sym is) (by d means)
  where
    by : (d : Stop) → ((r : Reading) → Reads r new → MeetsAt {A = Option Known} (aim_seen r) (Err d) (state_of r new) (aim_at (w r) (goal t.program.now.goal) (state_of r old))) → AimEnds t old new ns (Err d)
    by Memory means = tt
    by (Refused f) means = record {
      back = back;
      stops = λ r h.
          ap (λ w. aim_at w (program_of t).goal (state_of r old)) (sym (world r))
          ∙ ap (λ x. aim_at (w r) x (state_of r old)) (goal_is t)
          ∙ means r h;
    }

pub aim_halts : ObjectiveHalts → (t : Task) (old new : Run) (names : Names) (cs : List HeldConstraint) (s : Stop) → EndsFrom t old names cs → AimEnds t old new (names_of names) (Err s) → WalkHalts t new (names_of names) s
aim_halts law t old new names cs (Refused f) from h = law (limits_of t) (program_of t) old new (names_of names) (map held_constraint cs) f from.among h
aim_halts law t old new names cs Memory from h = tt

-- ---- the instance

pub roots_start : (cs : List HeldConstraint) (all : List ℕ) → all ≡ [] → constraint_roots (map held_constraint cs) ≡ all ++ constraint_roots (map held_constraint cs)
roots_start cs all none = ap (λ rs. rs ++ constraint_roots (map held_constraint cs)) (sym none)

pub roots_step : (cs : List HeldConstraint) (all more : List ℕ) (i : ℕ) (d : HeldConstraint) → i < length cs → constraint_roots (map held_constraint cs) ≡ all ++ constraint_roots (map held_constraint (drop i cs)) → more ≡ all ++ (get_or cs i d).roots.items → constraint_roots (map held_constraint cs) ≡ more ++ constraint_roots (map held_constraint (drop (i + 1) cs))
roots_step cs all more i d low so is =
    so
    ∙ ap (λ ks. all ++ constraint_roots (map held_constraint ks)) (drop_more cs i d low)
    ∙ sym (append_assoc all ((get_or cs i d).roots.items) (constraint_roots (map held_constraint (drop (i + 1) cs))))
    ∙ ap (λ rs. rs ++ constraint_roots (map held_constraint (drop (i + 1) cs))) (sym is)

pub roots_end : (cs rest : List HeldConstraint) (all : List ℕ) → rest ≡ [] → constraint_roots (map held_constraint cs) ≡ all ++ constraint_roots (map held_constraint rest) → all ≡ constraint_roots (map held_constraint cs)
roots_end cs rest all none so = sym (so ∙ ap (λ ks. all ++ constraint_roots (map held_constraint ks)) none ∙ append-nil all)

pub in_hand : (t : Task) (old new : Run) (names : Names) (cs : List HeldConstraint) (g : InstanceGoal) → EndsFrom t old names cs → AimEnds t old new (names_of names) (Ok g) → IsInHand t new (names_of names) cs g
in_hand t old new names cs g from h = record { before = old; among = from.among; aim = h }

pub closed_models : ClosedModels → (t : Task) (s : Run) (ns : List hands.HeldName) (names : List HeldName) (cs : List HeldConstraint) (roots : List ℕ) (g : InstanceGoal) (inst : Instance) → map held_name names ≡ ns → roots ≡ constraint_roots (map held_constraint cs) → IsInHand t s ns cs g → IsClosing s names roots g inst → AreVarsOf (ordered (program_of t).decls (program_of t).order) (instance inst).vars → Modeled (limits_of t) (program_of t) (instance inst)
closed_models law t s ns names cs roots g inst same rooted h c declared =
    let i = subst (λ ns. IsInHand t s ns cs g) (sym same) h in
    law (limits_of t) (program_of t) i.before (hand_of s (map held_name names) cs i.aim.view) (instance inst) (record {
      walk = i.among;
      objective = i.aim.evaluated cs;
      run = c.run;
      vars = c.vars;
      goal = subst (HasGoalOf (program_of t).goal) (sym c.goal) i.aim.goal;
      aimed = subst (IsAimed s i.aim.view) (sym c.goal) i.aim.aimed;
      arena = c.arena;
      roots = c.roots ∙ ap (λ rs. name_roots (map held_name names) ++ rs) rooted;
      pars = c.pars;
      made = c.made;
      counted = c.counted;
      declared = declared;
      tested = subst (λ g. IsTested s (instance inst).vars (instance inst).roots g) (sym c.goal) c.tested;
    })

-- ---- the whole walk

pub begun : Begins → (t : Task) (s : Run) (ns : List hands.HeldName) → s ≡ record { work = 0; weight = 0; saved = 0; arena = []; choices = []; lines = [] } → ns ≡ [] → first_unbounded (program_of t) ≡ None → IsUpTo t s ns (ordered (program_of t).decls (program_of t).order)
begun law t s ns is none bounded =
    subst (λ ns. IsUpTo t s ns (ordered (program_of t).decls (program_of t).order)) (sym none)
    (record { first = []; between = law (limits_of t) (program_of t) s (ap (λ (s : Run). s.work) is) (ap (λ (s : Run). s.weight) is) (ap (λ (s : Run). s.choices) is) bounded })

pub walk_halts : (t : Task) (s : Run) (ns : List hands.HeldName) (x : Stop) → WalkEnds t s ns (Err x) → WalkHalts t s ns x
walk_halts t s ns (Refused f) h = h.ends
walk_halts t s ns Memory h = tt

pub walk_goes : (t : Task) (s : Run) (names : Names) (cs : Vec HeldConstraint Global) → AreReadable names → WalkEnds t s (names_of names) (Ok cs) → EndsFrom t s names cs.items
walk_goes t s names cs readable h = record { readable = readable; among = h.ends }
