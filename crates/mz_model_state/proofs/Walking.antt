-- One declaration more, one constraint more, and the whole walk.
use Rattle.std.proofs.Common.{◌≡◌, ◌∙◌, ℕ, pos, List, [], ◌∷◌, ◌++◌, Option, Some, None, refl, sym, ap}
use Rattle.std.proofs.lemmas.List.{map-append}
use Rattle.mz_base.specs.declared.fault.Fault.{Fault}
use Rattle.mz_base.specs.declared.fault.Span.{Span}
use Rattle.mz_base.specs.declared.kind.Kind.TheVariants.{UnboundedSet}
use Rattle.mz_core.specs.Program.{PlainProgram}
use Rattle.mz_core.specs.Tree.{Tree, Decl}
use Rattle.mz_arena.specs.Values.{Term}
use Rattle.mz_meaning.specs.Cells.{Cell, Mode, Blank, Given}
use Rattle.mz_meaning.specs.Contexts.{Positive}
use Rattle.mz_meaning.specs.Runs.{State, Answer, Out, then_do, loop, fault, start}
use Rattle.mz_meaning.specs.Unbounded.{first_unbounded}
use Rattle.mz_meaning.specs.Walk.{Limits, Assignment, Declared, Walked, bounded, ordered, declare, constrain, walk}
use Rattle.mz_symbol.specs.declared.types.Free.{Free}
use Rattle.mz_symbol.specs.Runs.{Run}
use Rattle.mz_symbol.specs.Readings.{Reading, Reads, taken_in, weight_in, state_of}
use Rattle.mz_model_state.specs.Hands.{HeldName, HeldConstraint, Hand, name_at, names_at, cells_at, walked_at, AllAssigned, Assigned, WalkStops}
use Rattle.mz_model_state.specs.Loops.{world_after, after_names, after_constraints, IsDeclared, IsNextName, IsNameFault, IsConstrained, IsNextConstraint, IsConstraintFault, IsObjective, IsObjectiveFault}

-- ---- the start

start_is : (m : Mode) (work weight : ℕ) (cs : List Free) → work ≡ 0 → weight ≡ 0 → cs ≡ [] → start ≡ record { work = work; taken = taken_in m cs; weight = weight_in m weight }
start_is (Blank n) work weight cs e f g = ap (λ (k : ℕ). record { work = k; taken = []; weight = 0 }) (sym e)
start_is (Given f) work weight cs e h g = rw e (rw h (rw g refl))

-- a walk from its start
abbrev walk_from : Limits → PlainProgram → Reading → Assignment → Option Span → State → Answer Walked
walk_from l p r a o s = then_do (bounded o s) (λ _ s. then_do (loop (declare Positive l r.mode a p) [] (ordered p.decls p.order) s) (after_names l p r))

pub started : (l : Limits) (p : PlainProgram) (s : Run) → s.work ≡ 0 → s.weight ≡ 0 → s.choices ≡ [] → first_unbounded p ≡ None → IsDeclared l p s [] (ordered p.decls p.order)
started l p s work weight choices none = record {
  so_far = λ r a reads assigned. ap (λ o. walk_from l p r a o start) none ∙ ap (walk_from l p r a None) (start_is r.mode s.work s.weight s.choices work weight choices);
}

pub unbounded : (l : Limits) (p : PlainProgram) (s : Run) (at : Span) → first_unbounded p ≡ Some at → WalkStops l p (fault UnboundedSet at (pos 0)) s []
unbounded l p s at some = λ r a reads assigned. ap (λ o. walk_from l p r a o start) some

-- ---- declarations

pub first_assigned : (t : ℕ → Term) (a : Assignment) (ns ms : List HeldName) → AllAssigned t a (ns ++ ms) → AllAssigned t a ns
first_assigned t a [] ms h = tt
first_assigned t a (n ∷ ns) ms h = (h.0, first_assigned t a ns ms h.1)

-- what is left to do, from the answer of the next declaration on
abbrev after_name : Limits → PlainProgram → Reading → Assignment → List HeldName → List Decl → Answer Declared → Answer Walked
after_name l p r a ns rest x = then_do (then_do (then_do x (λ x s. Out (names_at r ns ++ x ∷ []) s)) (λ xs. loop (declare Positive l r.mode a p) xs rest)) (after_names l p r)

pub one_more : (l : Limits) (p : PlainProgram) (old new : Run) (ns : List HeldName) (d : Decl) (rest : List Decl) (n : HeldName) → IsDeclared l p old ns (d ∷ rest) → IsNextName l p old new ns d n → IsDeclared l p new (ns ++ n ∷ []) rest
one_more l p old new ns d rest n before next = record {
  so_far = λ r a reads assigned.
      before.so_far r a (next.back r reads) (λ given. first_assigned r.term a ns (n ∷ []) (assigned given))
      ∙ ap (after_name l p r a ns rest) (next.means r a reads assigned)
      ∙ ap (λ xs. then_do (loop (declare Positive l r.mode a p) xs rest (state_of r new)) (after_names l p r)) (sym (map-append (name_at r) ns (n ∷ [])));
}

pub one_stops : (l : Limits) (p : PlainProgram) (old new : Run) (ns : List HeldName) (d : Decl) (rest : List Decl) (f : Fault) → IsDeclared l p old ns (d ∷ rest) → IsNameFault l p old new ns d f → WalkStops l p f new ns
one_stops l p old new ns d rest f before next = λ r a reads assigned. before.so_far r a (next.back r reads) assigned ∙ ap (after_name l p r a ns rest) (next.stops r a reads assigned)

-- ---- constraints

pub all_declared : (l : Limits) (p : PlainProgram) (s : Run) (ns : List HeldName) → IsDeclared l p s ns [] → IsConstrained l p s ns [] p.constraints
all_declared l p s ns before = record { so_far = before.so_far }

-- what is left to do, from the answer of the next constraint on
abbrev after_constraint : Limits → PlainProgram → Reading → List HeldName → List HeldConstraint → List Tree → Answer Cell → Answer Walked
after_constraint l p r ns cs rest x = then_do (then_do (then_do x (λ c s. Out (cells_at r cs ++ c ∷ []) s)) (λ cells. loop (constrain (world_after l p r ns) Positive) cells rest)) (after_constraints l p r (names_at r ns))

pub one_constraint : (l : Limits) (p : PlainProgram) (old new : Run) (ns : List HeldName) (cs : List HeldConstraint) (e : Tree) (rest : List Tree) (c : HeldConstraint) → IsConstrained l p old ns cs (e ∷ rest) → IsNextConstraint l p old new ns e c → IsConstrained l p new ns (cs ++ c ∷ []) rest
one_constraint l p old new ns cs e rest c before next = record {
  so_far = λ r a reads assigned.
      before.so_far r a (next.back r reads) assigned
      ∙ ap (after_constraint l p r ns cs rest) (next.means r reads)
      ∙ ap (λ cells. then_do (loop (constrain (world_after l p r ns) Positive) cells rest (state_of r new)) (after_constraints l p r (names_at r ns))) (sym (map-append (λ (c : HeldConstraint). c.cell r) cs (c ∷ [])));
}

pub constraint_stops : (l : Limits) (p : PlainProgram) (old new : Run) (ns : List HeldName) (cs : List HeldConstraint) (e : Tree) (rest : List Tree) (f : Fault) → IsConstrained l p old ns cs (e ∷ rest) → IsConstraintFault l p old new ns e f → WalkStops l p f new ns
constraint_stops l p old new ns cs e rest f before next = λ r a reads assigned. before.so_far r a (next.back r reads) assigned ∙ ap (after_constraint l p r ns cs rest) (next.stops r reads)

-- ---- the objective

abbrev after_objective : Reading → List HeldName → List HeldConstraint → Answer (Option Cell) → Answer Walked
after_objective r ns cs x = then_do x (λ o s. Out (record { names = names_at r ns; constraints = cells_at r cs; objective = o }) s)

pub objective_stops : (l : Limits) (p : PlainProgram) (old new : Run) (ns : List HeldName) (cs : List HeldConstraint) (f : Fault) → IsConstrained l p old ns cs [] → IsObjectiveFault l p old new ns f → WalkStops l p f new ns
objective_stops l p old new ns cs f before next = λ r a reads assigned. before.so_far r a (next.back r reads) assigned ∙ ap (after_objective r ns cs) (next.stops r reads)

pub whole_walk : (l : Limits) (p : PlainProgram) (old : Run) (h : Hand) → IsConstrained l p old h.names h.constraints [] → IsObjective l p old h → (r : Reading) (a : Assignment) → Reads r h.run → Assigned r a h.names → walk Positive l r.mode a p start ≡ Out (walked_at r h) (state_of r h.run)
whole_walk l p old h before next r a reads assigned = before.so_far r a (next.back r reads) assigned ∙ ap (after_objective r h.names h.constraints) (next.means r reads)
