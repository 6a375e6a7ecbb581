-- THE BOUNDARIES JOIN: what the walk's and the flattening's give together.
use Rattle.std.proofs.Common.{◌≡◌, ◌∙◌, ℕ, suc, ◌+◌, ℤ, pos, Bool, true, false, List, [], ◌∷◌, ◌++◌, map, Option, Some, slice_index_or, refl, sym, ap, subst, arith}
use Rattle.mz_value.specs.Ranges.{Range}
use Rattle.mz_value.specs.Contents.{Content}
use Rattle.mz_core.specs.Program.{PlainProgram, Goal, satisfy, minimize, maximize}
use Rattle.mz_arena.specs.declared.instance.InstanceGoal.{InstanceGoal}
use Rattle.mz_arena.specs.Entries.{Entry}
use Rattle.mz_arena.specs.Instances.{Instance}
use Rattle.mz_arena.specs.Numbering.{by_id, local_ids}
use Rattle.mz_arena.specs.Values as terms
use Rattle.mz_meaning.specs.Runs.{State, Answer, Out, Stopped, start}
use Rattle.mz_meaning.specs.Cells.{Given}
use Rattle.mz_meaning.specs.Contexts.{Positive}
use Rattle.mz_meaning.specs.Domains.{Domain}
use Rattle.mz_meaning.specs.Walk.{Limits, Assignment, Declared, Walked, ordered, walk}
use Rattle.mz_meaning.specs.Solutions.{Each, AreLegalFrom, SolvesWith}
use Rattle.mz_meaning_laws.specs.Outlines.{outline_all_declared, outline_walked}
use Rattle.mz_meaning_laws.specs.Independence.{AreSameAnswers}
use Rattle.mz_meaning_laws.proofs.Consequences.{walks_are_alike}
use Rattle.mz_instance.specs.Parts.{Sort, Whole, Truth, Subset, Part, ids, parts, AreNodes, AllFit}
use Rattle.mz_instance.specs.Solved.{Holds, Defaults}
use Rattle.mz_instance.specs.Laws.{AreSame}
use Rattle.mz_instance.proofs.Nodes.{numbered, numbered_same, nodes_same, numbers_fit, ids_fit, parts_fit, arena_fits, numbers_agree, true_agree, goal_agree}
use Rattle.mz_model_meaning.specs.Decoded.{named, all_parts, AreShaped, model_domains, Tells, Chooses, Fit}
use Rattle.mz_model_meaning.specs.Modeled.{HasGoalOf, names_in, IsSatisfied, IsWalked, Modeled}
use Rattle.fz_program.specs.Names.{Name}
use Rattle.fz_program.specs.Values.{Value, Values, number, number_in, set_in}
use Rattle.fz_program.specs.declared.program.FzGoal.{FzGoal}
use Rattle.fz_program.specs.Flat.{Program, FlatSolves}
use Rattle.flat_meaning.specs.Goals.{IsGoalOf, objective_of}
use Rattle.flat_meaning.specs.Reading.{by_place}
use Rattle.flat_meaning.specs.Faithful.{value_by, front_values, front_of, IsReading, Faithful}
use Rattle.flat_meaning.specs.Found.{AreFound}
use Rattle.flat_meaning.proofs.Front.{front_found}
use Rattle.mz_headline.specs.Keeping.{AreNumbered, IsThere, HasDefault, ReadsOff, IsReadFrom, TakesNone, IsGoalFor, KeepsSolutions}
use Rattle.mz_headline.proofs.Cells.{coded}
use Rattle.mz_headline.proofs.Rows.{all_codes, HaveDefaults, cells_coded, cells_same, contents_same, choices_legal, choice_codes, choices_coded, choice_in, some_choices, with_codes, codes_given}
use Rattle.mz_headline.proofs.Names.{all_inside, model_contents, model_lies, model_tells, tells_by, tells_same}
use Rattle.mz_headline.proofs.Variables.{ArePartsOf, parts_are, defaults_same, reads_told, names_there}
use Rattle.mz_headline.proofs.Defaults.{defaults_by, decls_least}
use Rattle.mz_headline.proofs.Slots.{telling, telling_tells, reading, reading_reads}

-- ---- the values of the front

front_coded : (es : List Entry) (choice : Bool) (j : ℕ) (ps : List Part) (is : List ℕ) (x v : terms.Values) (k : ℕ) → AreNodes es choice j is ps → AreSame x v k is → front_values ps is v ≡ coded ps k x
front_coded es choice j [] is x v k nodes same = refl
front_coded es choice j (p ∷ ps) [] x v k nodes same = absurd nodes
front_coded es choice j (p ∷ ps) (i ∷ is) x v k nodes same =
    ap (λ n. value_by p.sort n (v.set i) ∷ front_values ps is v) (sym same.0)
    ∙ ap (λ s. value_by p.sort (x.number k) s ∷ front_values ps is v) (sym same.1)
    ∙ ap (λ vs. value_by p.sort (x.number k) (x.set k) ∷ vs) (front_coded es choice (suc j) ps is x v (suc k) nodes.1 same.2)

value_back : (r : Sort) (n : ℤ) (s : List Range) (w : Value) → w ≡ value_by r n s → value_by r (number_in w) (set_in w) ≡ value_by r n s
value_back Whole n s w e = ap (λ (w : Value). value_by Whole (number_in w) (set_in w)) e
value_back Truth n s w e = ap (λ (w : Value). value_by Truth (number_in w) (set_in w)) e
value_back Subset n s w e = ap (λ (w : Value). value_by Subset (number_in w) (set_in w)) e

placed_from : (ps : List Part) (k : ℕ) (x : terms.Values) (rest f : Values) → ((j : ℕ) → slice_index_or f (k + j) (number (pos 0)) ≡ slice_index_or (coded ps k x ++ rest) j (number (pos 0))) → coded ps k (by_place f) ≡ coded ps k x
placed_from [] k x rest f same = refl
placed_from (p ∷ ps) k x rest f same =
    let here : slice_index_or f k (number (pos 0)) ≡ value_by p.sort (x.number k) (x.set k) = ap (λ j. slice_index_or f j (number (pos 0))) (omega arith) ∙ same 0 in
    ap (λ v. v ∷ coded ps (suc k) (by_place f)) (value_back p.sort (x.number k) (x.set k) (slice_index_or f k (number (pos 0))) here)
    ∙ ap (λ vs. value_by p.sort (x.number k) (x.set k) ∷ vs) (placed_from ps (suc k) x rest f (λ j. ap (λ j. slice_index_or f j (number (pos 0))) (omega arith) ∙ same (suc j)))

placed : (ps : List Part) (x : terms.Values) (rest f : Values) → f ≡ coded ps 0 x ++ rest → coded ps 0 (by_place f) ≡ coded ps 0 x
placed ps x rest f e = placed_from ps 0 x rest f (λ j. ap (λ j. slice_index_or f j (number (pos 0))) (omega arith) ∙ ap (λ f. slice_index_or f j (number (pos 0))) e)

-- ---- the two boundaries, side by side

record Joined (l : Limits) (table : List Name) (p : PlainProgram) (inst : Instance) (flat : Program) : Type 0 where
  numbered : AreNumbered (ordered p.decls p.order)
  modeled : Modeled l p inst
  faithful : Faithful inst table flat

abbrev domains_in : PlainProgram → Instance → List Domain
domains_in p inst = model_domains (names_in p inst)

of_parts : (l : Limits) (table : List Name) (p : PlainProgram) (inst : Instance) (flat : Program) → Joined l table p inst flat → ArePartsOf (parts inst.vars) (domains_in p inst)
of_parts l table p inst flat j = parts_are (ordered p.decls p.order) inst.vars j.modeled.vars j.modeled.sound.vars j.modeled.sound.suited

found : (l : Limits) (table : List Name) (p : PlainProgram) (inst : Instance) (flat : Program) → Joined l table p inst flat → AreFound table flat 0 inst.vars
found l table p inst flat j = front_found inst table flat j.modeled.sound j.faithful

there : (l : Limits) (table : List Name) (p : PlainProgram) (inst : Instance) (flat : Program) → Joined l table p inst flat → Each (IsThere table flat) (ordered p.decls p.order)
there l table p inst flat j = names_there table flat (with_codes []) (ordered p.decls p.order) inst.vars 0 j.modeled.vars j.modeled.sound.vars (found l table p inst flat j)

goals_join : (g : Goal) (i : InstanceGoal) (q : FzGoal) → HasGoalOf g i → IsGoalOf i q → IsGoalFor g q
goals_join satisfy i q first second = subst (λ i. IsGoalOf i q) first second
goals_join (minimize e) i q (id, first) second = subst (λ i. IsGoalOf i q) first second
goals_join (maximize e) i q (id, first) second = subst (λ i. IsGoalOf i q) first second

-- ---- what a solution of the program stands for

record IsShown (l : Limits) (table : List Name) (p : PlainProgram) (inst : Instance) (flat : Program) (j : Joined l table p inst flat) (f : Values) : Type 0 where
  reading : IsReading inst flat f
  x : terms.Values
  y : terms.Values
  front : front_of inst reading.values ≡ coded (all_parts (domains_in p inst)) 0 x
  same : coded (all_parts (domains_in p inst)) 0 (by_place f) ≡ coded (all_parts (domains_in p inst)) 0 x
  fits : Fit (domains_in p inst) x
  chosen : Fit j.modeled.taken y
  defaults : HaveDefaults (domains_in p inst) 0 x
  holds : Holds inst (by_id inst.arena x y) (objective_of flat.goal f)

shown : (l : Limits) (table : List Name) (p : PlainProgram) (inst : Instance) (flat : Program) (j : Joined l table p inst flat) (f : Values) → FlatSolves flat f → IsShown l table p inst flat j f
shown l table p inst flat j f solves =
    let k = j.faithful.read f solves in
    let v = k.values in
    let sound = j.modeled.sound in
    let vars = numbered_same (ids inst.vars) v in
    let locals = numbered_same (local_ids inst.arena) v in
    let x = numbered (ids inst.vars) v in
    let y = numbered (local_ids inst.arena) v in
    let are = (of_parts l table p inst flat j).same in
    let front = front_coded inst.arena false 0 (parts inst.vars) (ids inst.vars) x v 0 sound.nodes vars in
    let agree = numbers_agree inst x y v sound vars locals in
    record {
      reading = k;
      x = x;
      y = y;
      front = front ∙ ap (λ ps. coded ps 0 x) are;
      same = subst (λ ps. coded ps 0 (by_place f) ≡ coded ps 0 x) are (placed (parts inst.vars) x k.rest f (k.front ∙ ap (λ vs. vs ++ k.rest) front));
      fits = subst (λ ps. AllFit ps 0 x) are (numbers_fit (parts inst.vars) (ids inst.vars) x v 0 vars (parts_fit inst.arena v false 0 (ids inst.vars) (parts inst.vars) sound.nodes k.fits));
      chosen = numbers_fit (all_parts j.modeled.taken) (local_ids inst.arena) y v 0 locals (parts_fit inst.arena v true 0 (local_ids inst.arena) (all_parts j.modeled.taken) j.modeled.locals k.fits);
      defaults = (defaults_same (ordered p.decls p.order) inst.vars x v 0 j.modeled.vars sound.vars vars).to k.defaults;
      holds = record { roots = true_agree inst.arena v (by_id inst.arena x y) inst.roots agree k.holds.roots; goal = goal_agree inst.arena v (by_id inst.arena x y) inst.goal (objective_of flat.goal f) agree k.holds.goal };
    }

-- an assignment that is read off has these values
tells : (l : Limits) (table : List Name) (p : PlainProgram) (inst : Instance) (flat : Program) (j : Joined l table p inst flat) (f : Values) (a : Assignment) → (w : IsShown l table p inst flat j f) → ReadsOff table p flat f a → Tells (names_in p inst) 0 w.x a
tells l table p inst flat j f a w reads =
    tells_by (names_in p inst) 0 (by_place f) w.x a (contents_same (domains_in p inst) 0 (by_place f) w.x w.same)
    ((reads_told table flat f a (ordered p.decls p.order) inst.vars 0 j.modeled.vars j.modeled.sound.vars (found l table p inst flat j)).to reads)

walked : (l : Limits) (table : List Name) (p : PlainProgram) (inst : Instance) (flat : Program) (j : Joined l table p inst flat) (f : Values) (a : Assignment) → (w : IsShown l table p inst flat j f) → ReadsOff table p flat f a → IsWalked l p inst j.modeled.taken a (choice_in j.modeled.taken 0 w.y) w.x w.y
walked l table p inst flat j f a w reads = j.modeled.walks a (choice_in j.modeled.taken 0 w.y) w.x w.y (tells l table p inst flat j f a w reads) (some_choices j.modeled.taken w.y)

none_invented : (l : Limits) (table : List Name) (p : PlainProgram) (inst : Instance) (flat : Program) → Joined l table p inst flat → (f : Values) (a : Assignment) → FlatSolves flat f → ReadsOff table p flat f a → SolvesWith l p a (objective_of flat.goal f)
none_invented l table p inst flat j f a solves reads =
    let w = shown l table p inst flat j f solves in
    let c = choice_in j.modeled.taken 0 w.y in
    let k = walked l table p inst flat j f a w reads in
    let is = k.sound (objective_of flat.goal f) w.fits w.chosen w.holds in
    record {
      choices = c;
      out = k.out;
      end = k.end;
      runs = k.runs;
      inside = all_inside k.out.names (names_in p inst) 0 w.x a k.names (of_parts l table p inst flat j).shaped (tells l table p inst flat j f a w reads) w.fits;
      legal = subst (AreLegalFrom 0 c) (sym k.takes) (choices_legal j.modeled.taken 0 0 w.y c j.modeled.shaped w.chosen (some_choices j.modeled.taken w.y));
      declared = is.declared;
      constraints = is.constraints;
      objective = is.objective;
    }

defaults : (l : Limits) (table : List Name) (p : PlainProgram) (inst : Instance) (flat : Program) → Joined l table p inst flat → (f : Values) → FlatSolves flat f → Each (HasDefault table flat f) (ordered p.decls p.order)
defaults l table p inst flat j f solves =
    let w = shown l table p inst flat j f solves in
    let shaped = (of_parts l table p inst flat j).shaped in
    decls_least table flat f (ordered p.decls p.order) inst.vars 0 j.modeled.vars j.modeled.sound.vars (found l table p inst flat j) shaped (defaults_by (domains_in p inst) 0 w.x (by_place f) shaped (sym w.same) w.defaults)

-- ---- two walks

ends_same : (r q : Answer Walked) (out other : Walked) (s t : State) → r ≡ Out out s → q ≡ Out other t → AreSameAnswers outline_walked r q → (outline_walked out ≡ outline_walked other) × (s ≡ t)
ends_same (Stopped g) q out other s t e f same = absurd (cc)
ends_same (Out x u) (Stopped g) out other s t e f same = absurd same
ends_same (Out x u) (Out y w) out other s t e f same =
    let a : x ≡ out = cc in
    let b : y ≡ other = cc in
    let c : u ≡ s = cc in
    let d : w ≡ t = cc in
    (ap outline_walked (sym a) ∙ same.0 ∙ ap outline_walked b, sym c ∙ same.1 ∙ d)

walks_same : (l : Limits) (p : PlainProgram) (a b : Assignment) (c e : ℕ → Content) (out other : Walked) (s t : State) → walk Positive l (Given c) a p start ≡ Out out s → walk Positive l (Given e) b p start ≡ Out other t → (outline_walked out ≡ outline_walked other) × (s ≡ t)
walks_same l p a b c e out other s t first second = ends_same (walk Positive l (Given c) a p start) (walk Positive l (Given e) b p start) out other s t first second ((walks_are_alike l p a b c e).by start)

outlines_named : (xs : List Declared) → map named (outline_all_declared xs) ≡ map named xs
outlines_named [] = refl
outlines_named (x ∷ xs) = ap (λ ns. named x ∷ ns) (outlines_named xs)

names_same : (out other : Walked) → outline_walked out ≡ outline_walked other → map named out.names ≡ map named other.names
names_same out other e = sym (outlines_named out.names) ∙ ap (λ (w : Walked). map named w.names) e ∙ outlines_named other.names

outs_same : (out other : Walked) (s t : State) {r : Answer Walked} → r ≡ Out out s → r ≡ Out other t → out ≡ other
outs_same out other s t e f = cc

-- ---- no solution is lost

record IsSample (l : Limits) (p : PlainProgram) (inst : Instance) (taken : List Domain) : Type 0 where
  assignment : Assignment
  choices : ℕ → Content
  x : terms.Values
  walked : IsWalked l p inst taken assignment choices x x

sample : (l : Limits) (table : List Name) (p : PlainProgram) (inst : Instance) (flat : Program) (j : Joined l table p inst flat) → IsSample l p inst j.modeled.taken
sample l table p inst flat j =
    let x = with_codes [] in
    let a = telling (names_in p inst) x in
    let c = choice_in j.modeled.taken 0 x in
    record { assignment = a; choices = c; x = x; walked = j.modeled.walks a c x x (telling_tells (ordered p.decls p.order) inst.vars x j.numbered) (some_choices j.modeled.taken x) }

none_lost : (l : Limits) (table : List Name) (p : PlainProgram) (inst : Instance) (flat : Program) → Joined l table p inst flat → (a : Assignment) (n : Option ℤ) → SolvesWith l p a n → IsReadFrom table p flat a n
none_lost l table p inst flat j a n s =
    let sound = j.modeled.sound in
    let ds = ordered p.decls p.order in
    let ns = names_in p inst in
    let doms = domains_in p inst in
    let taken = j.modeled.taken in
    let of = of_parts l table p inst flat j in
    let o = sample l table p inst flat j in
    let both = walks_same l p a o.assignment s.choices o.choices s.out o.walked.out s.end o.walked.end s.runs o.walked.runs in
    let names : map named s.out.names ≡ ns = names_same s.out o.walked.out both.0 ∙ o.walked.names in
    let takes : s.end.taken ≡ taken = ap (λ (s : State). s.taken) both.1 ∙ o.walked.takes in
    let codes = all_codes doms (model_contents ns a) in
    let choices = choice_codes taken 0 s.choices in
    let x = with_codes codes in
    let y = with_codes choices in
    let are = cells_coded doms (model_contents ns a) 0 x of.shaped (model_lies s.out.names ns a names s.inside) (codes_given codes) in
    let chosen = choices_coded taken 0 0 y s.choices j.modeled.shaped (subst (AreLegalFrom 0 s.choices) takes s.legal) (codes_given choices) in
    let told = model_tells s.out.names ns a 0 x names s.inside are.are in
    let k = j.modeled.walks a s.choices x y told chosen.1 in
    let out : s.out ≡ k.out = outs_same s.out k.out s.end k.end s.runs k.runs in
    let satisfied : IsSatisfied a s.out n = record { declared = s.declared; constraints = s.constraints; objective = s.objective } in
    let holds = k.complete n are.fits chosen.0 (subst (λ w. IsSatisfied a w n) out satisfied) in
    let v = by_id inst.arena x y in
    let vars = nodes_same inst.arena false x y 0 (ids inst.vars) (parts inst.vars) sound.nodes in
    let locals = nodes_same inst.arena true x y 0 (local_ids inst.arena) (all_parts taken) j.modeled.locals in
    let fits = arena_fits inst (all_parts taken) v sound j.modeled.locals
    (ids_fit inst.arena false 0 (parts inst.vars) (ids inst.vars) x v 0 sound.nodes vars (subst (λ ps. AllFit ps 0 x) (sym of.same) are.fits))
    (ids_fit inst.arena true 0 (all_parts taken) (local_ids inst.arena) y v 0 j.modeled.locals locals chosen.0) in
    let least = (defaults_same ds inst.vars x v 0 j.modeled.vars sound.vars vars).back are.defaults in
    let m = j.faithful.met v n fits least holds in
    let f = front_of inst v ++ m.rest in
    let front = front_coded inst.arena false 0 (parts inst.vars) (ids inst.vars) x v 0 sound.nodes vars in
    let same = subst (λ ps. coded ps 0 (by_place f) ≡ coded ps 0 x) of.same (placed (parts inst.vars) x m.rest f (ap (λ vs. vs ++ m.rest) front)) in
    record {
      values = f;
      solves = m.solves;
      reads = (reads_told table flat f a ds inst.vars 0 j.modeled.vars sound.vars (found l table p inst flat j)).back (tells_by ns 0 x (by_place f) a (contents_same doms 0 x (by_place f) (sym same)) told);
      objective = m.objective;
    }

-- ---- from one alone

no_locals : (es : List Entry) (taken : List Domain) (is : List ℕ) → taken ≡ [] → AreNodes es true 0 is (all_parts taken) → is ≡ []
no_locals es [] [] none nodes = refl
no_locals es [] (i ∷ is) none nodes = absurd nodes
no_locals es (d ∷ ds) is none nodes = absurd (cc)

one : (l : Limits) (table : List Name) (p : PlainProgram) (inst : Instance) (flat : Program) → Joined l table p inst flat → TakesNone l p → (a : Assignment) (f g : Values) → FlatSolves flat f → FlatSolves flat g → ReadsOff table p flat f a → ReadsOff table p flat g a → f ≡ g
one l table p inst flat j none a f g first second reads others =
    let u = shown l table p inst flat j f first in
    let w = shown l table p inst flat j g second in
    let doms = domains_in p inst in
    let contents = tells_same (names_in p inst) 0 u.x w.x a (tells l table p inst flat j f a u reads) (tells l table p inst flat j g a w others) in
    let same = cells_same doms 0 u.x w.x (of_parts l table p inst flat j).shaped u.fits w.fits u.defaults w.defaults contents in
    let front : front_of inst w.reading.values ≡ front_of inst u.reading.values = w.front ∙ sym same ∙ sym u.front in
    let k = walked l table p inst flat j f a u reads in
    let ends = walks_same l p a none.assignment (choice_in j.modeled.taken 0 u.y) none.choices k.out none.out k.end none.end k.runs none.goes in
    let nothing : j.modeled.taken ≡ [] = sym k.takes ∙ ap (λ (s : State). s.taken) ends.1 ∙ none.none in
    let other : g ≡ front_of inst u.reading.values ++ w.reading.rest = w.reading.front ∙ ap (λ vs. vs ++ w.reading.rest) front in
    let rest = j.faithful.one (no_locals inst.arena j.modeled.taken (local_ids inst.arena) nothing j.modeled.locals) u.reading.values u.reading.rest w.reading.rest (subst (FlatSolves flat) u.reading.front first) (subst (FlatSolves flat) other second) in
    u.reading.front ∙ ap (λ vs. front_of inst u.reading.values ++ vs) rest ∙ sym other

pub boundaries_join : (l : Limits) (table : List Name) (p : PlainProgram) (inst : Instance) (flat : Program) → AreNumbered (ordered p.decls p.order) → Modeled l p inst → Faithful inst table flat → KeepsSolutions l table p flat
boundaries_join l table p inst flat numbers modeled faithful =
    let j : Joined l table p inst flat = record { numbered = numbers; modeled = modeled; faithful = faithful } in
    let names = there l table p inst flat j in
    record {
      goal = goals_join p.goal inst.goal flat.goal modeled.goal faithful.goal;
      names = names;
      readable = λ f. record { assignment = reading table flat f (ordered p.decls p.order); reads = reading_reads table flat f (ordered p.decls p.order) numbers names };
      none_invented = none_invented l table p inst flat j;
      none_lost = none_lost l table p inst flat j;
      defaults = defaults l table p inst flat j;
      one = one l table p inst flat j;
    }
