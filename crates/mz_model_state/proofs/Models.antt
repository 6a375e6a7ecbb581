-- The boundary of the walk, by what the walk has in hand.
use Rattle.std.proofs.Common.{◌≡◌, ◌∙◌, ℕ, ℤ, List, [], ◌∷◌, ◌++◌, map, Option, Some, None, true, refl, sym, ap, subst}
use Rattle.std.specs.Option.{option_map}
use Rattle.mz_value.specs.Contents.{Content}
use Rattle.mz_value.specs.Contents as values
use Rattle.mz_core.specs.Program.{PlainProgram}
use Rattle.mz_arena.specs.declared.instance.InstanceGoal.{InstanceGoal}
use Rattle.mz_arena.specs.declared.instance.InstanceGoal.TheVariants.{Satisfy, Minimize, Maximize}
use Rattle.mz_arena.specs.Entries.{Entry}
use Rattle.mz_arena.specs.Instances.{Instance}
use Rattle.mz_arena.specs.Numbering.{by_id, local_ids}
use Rattle.mz_arena.specs.Terms.{term}
use Rattle.mz_arena.specs.Values.{Values, Term, number, set, numbers, sets, empty, as_number}
use Rattle.mz_meaning.specs.Domains.{Domain}
use Rattle.mz_meaning.specs.Solutions.{Each, MatchesValue, IsMet, Aims}
use Rattle.mz_meaning.specs.Walk.{Limits, Assignment, ordered}
use Rattle.mz_instance.specs.Instance.{IsInstance, IsTruthOver}
use Rattle.mz_instance.specs.Parts.{Sort, Whole, Truth, Subset, truths, sort_of, AreNodes}
use Rattle.mz_instance.specs.Solved.{AreTrue, GoalAt, Holds}
use Rattle.mz_model_meaning.specs.Decoded.{Named, named, IsShaped, AreShaped, all_parts, Tells, Chooses}
use Rattle.mz_model_meaning.specs.Modeled.{AreVarsOf, names_in, IsWalked, Modeled}
use Rattle.mz_symbol.specs.Choices.{IsChoosable, AreChoosable}
use Rattle.mz_symbol.specs.Runs.{Run, taken}
use Rattle.mz_symbol.specs.Readings.{Reading, IsGiven, Reads, reading, state_of}
use Rattle.mz_symbol.proofs.ReadingLaws.{choices_read}
use Rattle.mz_model_state.specs.Hands.{View, HeldName, HeldConstraint, cell_at, names_at, cells_at, named_as, AllAssigned, AllTrue, AreRootedNames, AreRooted, IsAimed, Hand, walked_at, name_roots, constraint_roots, IsHeld}
use Rattle.mz_model_state.proofs.Names.{all_assigned}

-- ---- choosable domains are shaped

truth_over : (s : Sort) (u : List _) → (s ≡ Truth → u ≡ truths) → IsTruthOver s u
truth_over Truth u h = h refl
truth_over Whole u h = tt
truth_over Subset u h = tt

shaped : (d : Domain) → IsChoosable d → IsShaped d
shaped d c = record {
  base = c.base;
  part = record { truth = truth_over (sort_of d.base) d.set c.truth; canonical = c.canonical; limited = c.limited };
  allowed = c.allowed;
}

all_shaped : (ds : List Domain) → AreChoosable ds → AreShaped ds
all_shaped [] c = tt
all_shaped (d ∷ ds) c = (shaped d c.0, all_shaped ds c.1)

-- ---- roots

first_true : (t : ℕ → Term) (xs ys : List ℕ) → AllTrue t (xs ++ ys) → AllTrue t xs
first_true t [] ys h = tt
first_true t (x ∷ xs) ys h = (h.0, first_true t xs ys h.1)

last_true : (t : ℕ → Term) (xs ys : List ℕ) → AllTrue t (xs ++ ys) → AllTrue t ys
last_true t [] ys h = h
last_true t (x ∷ xs) ys h = last_true t xs ys h.1

both_true : (t : ℕ → Term) (xs ys : List ℕ) → AllTrue t xs → AllTrue t ys → AllTrue t (xs ++ ys)
both_true t [] ys h g = g
both_true t (x ∷ xs) ys h g = (h.0, both_true t xs ys h.1 g)

all_true : (es : List Entry) (v : Values) (rs : List ℕ) → AreTrue es rs v → AllTrue (λ id. term v es id) rs
all_true es v [] h = tt
all_true es v (r ∷ rs) h = (h.0, all_true es v rs h.1)

are_true : (es : List Entry) (v : Values) (rs : List ℕ) → AllTrue (λ id. term v es id) rs → AreTrue es rs v
are_true es v [] h = tt
are_true es v (r ∷ rs) h = (h.0, are_true es v rs h.1)

values_match : (s : Run) (all ns : List HeldName) (r : Reading) (a : Assignment) → IsGiven r.mode → Reads r s → AllAssigned r.term a all → AreRootedNames s all ns → AllTrue r.term (name_roots ns) → Each (MatchesValue a) (names_at r ns)
values_match s all [] r a given reads assigned rooted h = tt
values_match s all (n ∷ ns) r a given reads assigned rooted h = ((rooted.0.by r a given reads assigned).to (first_true r.term n.roots (name_roots ns) h), values_match s all ns r a given reads assigned rooted.1 (last_true r.term n.roots (name_roots ns) h))

matched_roots : (s : Run) (all ns : List HeldName) (r : Reading) (a : Assignment) → IsGiven r.mode → Reads r s → AllAssigned r.term a all → AreRootedNames s all ns → Each (MatchesValue a) (names_at r ns) → AllTrue r.term (name_roots ns)
matched_roots s all [] r a given reads assigned rooted h = tt
matched_roots s all (n ∷ ns) r a given reads assigned rooted h = both_true r.term n.roots (name_roots ns) ((rooted.0.by r a given reads assigned).from h.0) (matched_roots s all ns r a given reads assigned rooted.1 h.1)

all_met : (s : Run) (cs : List HeldConstraint) (r : Reading) → IsGiven r.mode → Reads r s → AreRooted s cs → AllTrue r.term (constraint_roots cs) → Each IsMet (cells_at r cs)
all_met s [] r given reads rooted h = tt
all_met s (c ∷ cs) r given reads rooted h = ((rooted.0.by r given reads).to (first_true r.term c.roots (constraint_roots cs) h), all_met s cs r given reads rooted.1 (last_true r.term c.roots (constraint_roots cs) h))

met_roots : (s : Run) (cs : List HeldConstraint) (r : Reading) → IsGiven r.mode → Reads r s → AreRooted s cs → Each IsMet (cells_at r cs) → AllTrue r.term (constraint_roots cs)
met_roots s [] r given reads rooted h = tt
met_roots s (c ∷ cs) r given reads rooted h = both_true r.term c.roots (constraint_roots cs) ((rooted.0.by r given reads).from h.0) (met_roots s cs r given reads rooted.1 h.1)

-- ---- the objective

number_of : (t : Term) (n : ℤ) → option_map values.int (as_number t) ≡ Some (values.int n) → t ≡ Some (number n)
number_of None n h = absurd (cc)
number_of (Some (number k)) n h = cc
number_of (Some (set s)) n h = absurd (cc)
number_of (Some (numbers ns)) n h = absurd (cc)
number_of (Some (sets ss)) n h = absurd (cc)
number_of (Some empty) n h = absurd (cc)

aims : (s : Run) (c : ℕ → Content) (v : Values) (o : Option View) (g : InstanceGoal) (n : Option ℤ) → Reads (reading c v s) s → IsAimed s o g → GoalAt s.arena g v n → Aims (cell_at (reading c v s) o) n
aims s c v None Satisfy n reads aimed h = h
aims s c v None (Minimize id) n reads aimed h = absurd aimed
aims s c v None (Maximize id) n reads aimed h = absurd aimed
aims s c v (Some w) Satisfy n reads aimed h = absurd aimed
aims s c v (Some w) (Minimize id) None reads aimed h = absurd h
aims s c v (Some w) (Minimize id) (Some m) reads aimed h = aimed (reading c v s) tt reads ∙ ap (λ t. option_map values.int (as_number t)) h
aims s c v (Some w) (Maximize id) None reads aimed h = absurd h
aims s c v (Some w) (Maximize id) (Some m) reads aimed h = aimed (reading c v s) tt reads ∙ ap (λ t. option_map values.int (as_number t)) h

goal_at : (s : Run) (c : ℕ → Content) (v : Values) (o : Option View) (g : InstanceGoal) (n : Option ℤ) → Reads (reading c v s) s → IsAimed s o g → Aims (cell_at (reading c v s) o) n → GoalAt s.arena g v n
goal_at s c v None Satisfy n reads aimed h = h
goal_at s c v None (Minimize id) n reads aimed h = absurd aimed
goal_at s c v None (Maximize id) n reads aimed h = absurd aimed
goal_at s c v (Some w) Satisfy n reads aimed h = absurd aimed
goal_at s c v (Some w) (Minimize id) None reads aimed h = absurd h
goal_at s c v (Some w) (Minimize id) (Some m) reads aimed h = number_of (term v s.arena id) m (sym (aimed (reading c v s) tt reads) ∙ h)
goal_at s c v (Some w) (Maximize id) None reads aimed h = absurd h
goal_at s c v (Some w) (Maximize id) (Some m) reads aimed h = number_of (term v s.arena id) m (sym (aimed (reading c v s) tt reads) ∙ h)

-- ---- the walk under an assignment and choices

same_names : (r : Reading) (ns : List HeldName) → map named (names_at r ns) ≡ map named_as ns
same_names r [] = refl
same_names r (n ∷ ns) = ap (λ ms. named_as n ∷ ms) (same_names r ns)

-- an instance with this arena and these roots
abbrev with_parts : Instance → List Entry → List ℕ → Instance
with_parts inst es rs = record { arena = es; vars = inst.vars; roots = rs; goal = inst.goal; pars = inst.pars }

instance_is : (inst : Instance) (es : List Entry) (rs : List ℕ) → inst.arena ≡ es → inst.roots ≡ rs → inst ≡ with_parts inst es rs
instance_is inst es rs e f = ap (λ es. with_parts inst es inst.roots) e ∙ ap (with_parts inst es) f

abbrev all_roots : Hand → List ℕ
all_roots h = name_roots h.names ++ constraint_roots h.constraints

abbrev HoldsAt : Instance → Values → Values → Option ℤ → Type 0
HoldsAt i x y n = Holds i (by_id i.arena x y) n

is_walked : (l : Limits) (p : PlainProgram) (inst : Instance) (h : Hand) → IsHeld l p inst h → (a : Assignment) (c : ℕ → Content) (x y : Values) → Tells (names_in p inst) 0 x a → Chooses (taken h.run) 0 0 y c → IsWalked l p inst (taken h.run) a c x y
is_walked l p inst h held a c x y tells chooses =
    let v = by_id h.run.arena x y in
    let r = reading c v h.run in
    let reads = choices_read h.run c x y held.run chooses in
    let assigned = all_assigned h.run h.names a x y held.run held.vars (subst (λ (ns : List Named). Tells ns 0 x a) (sym held.names) tells) in
    let same = instance_is inst h.run.arena (all_roots h) held.arena held.roots in
    let ns = name_roots h.names in
    let cs = constraint_roots h.constraints in
    record {
      out = walked_at r h;
      end = state_of r h.run;
      runs = held.walks r a reads (λ _. assigned);
      names = same_names r h.names ∙ held.names;
      pars = held.pars r;
      takes = refl;
      sound = λ n fits chosen holds.
          let here = subst (λ (i : Instance). HoldsAt i x y n) same holds in
          let true' = all_true h.run.arena v (all_roots h) here.roots in
          record {
            declared = values_match h.run h.names h.names r a tt reads assigned held.rooted (first_true r.term ns cs true');
            constraints = all_met h.run h.constraints r tt reads held.met (last_true r.term ns cs true');
            objective = aims h.run c v h.objective inst.goal n reads held.aimed here.goal;
          };
      complete = λ n fits chosen is.
          let named' = matched_roots h.run h.names h.names r a tt reads assigned held.rooted is.declared in
          let met = met_roots h.run h.constraints r tt reads held.met is.constraints in
          subst (λ (i : Instance). HoldsAt i x y n) (sym same) (record { roots = are_true h.run.arena v (all_roots h) (both_true r.term ns cs named' met); goal = goal_at h.run c v h.objective inst.goal n reads held.aimed is.objective });
    }

pub models : (l : Limits) (p : PlainProgram) (inst : Instance) (h : Hand) → IsInstance inst → AreVarsOf (ordered p.decls p.order) inst.vars → IsHeld l p inst h → Modeled l p inst
models l p inst h sound vars held = record {
  sound = sound;
  vars = vars;
  goal = held.goal;
  taken = taken h.run;
  shaped = all_shaped (taken h.run) held.run.domains;
  locals = subst (λ (es : List Entry). AreNodes es true 0 (local_ids es) (all_parts (taken h.run))) (sym held.arena) (subst (λ is. AreNodes h.run.arena true 0 is (all_parts (taken h.run))) (sym held.whole) held.run.locals);
  walks = is_walked l p inst h held;
}
