-- Values of variables and choices read a run.
use Rattle.std.proofs.Common.{◌≡◌, ◌∙◌, ℕ, zero, suc, ◌+◌, ℤ, Bool, true, false, List, [], ◌∷◌, ◌++◌, length, map, Option, Some, None, is_some, Result, slice_get, refl, sym, ap, subst, arith, if◌then◌else◌}
use Rattle.mz_base.specs.declared.stop.Stop.{Stop}
use Rattle.mz_value.specs.Ranges.{Range}
use Rattle.mz_value.specs.Contents.{Content}
use Rattle.mz_value.specs.Contents as values
use Rattle.mz_core.specs.declared.types.Base.{Base}
use Rattle.mz_core.specs.declared.types.Base.TheVariants as base
use Rattle.mz_arena.specs.declared.node.NodeKind.{NodeKind}
use Rattle.mz_arena.specs.declared.node.NodeKind.TheVariants.{Var, Local, SetVar, SetLocal}
use Rattle.mz_arena.specs.Entries.{Entry, children, is_free}
use Rattle.mz_arena.specs.Values.{Values, Term, number, set, as_number, as_set, is_true}
use Rattle.mz_arena.specs.Terms.{kind_term, term, own_id}
use Rattle.mz_arena.specs.Arenas.{IsArena, Grew}
use Rattle.mz_arena.specs.Numbering.{by_id, number_of, set_of}
use Rattle.mz_arena.proofs.Growing.{made, grew_same}
use Rattle.mz_meaning.specs.Runs as runs
use Rattle.mz_meaning.specs.Cells.{Mode, Given, Bare}
use Rattle.mz_symbol.specs.declared.types.Free.{Free}
use Rattle.mz_arena.specs.FreeNodes.{is_set_kind}
use Rattle.mz_instance.specs.Parts.{Part, parts_of, occurrence, sort_of, next, is_subset_sort, IsNode, AreNodes}
use Rattle.mz_instance.specs.Contents.{is_one, content_by}
use Rattle.mz_symbol.specs.Choices.{content_at, cell_content, all_parts, domain_parts, Chooses, IsChoosable}
use Rattle.mz_symbol.specs.Symbols.{with_id, symbol_ids, value_by, value_at, symbol_value, domain_of, free_ids}
use Rattle.mz_symbol.specs.Runs.{Run, taken, IsRun, HasValue}
use Rattle.mz_symbol.specs.Readings.{Reading, Reads, ReadsChoices, no_values, line_in, reading_in, reading, bare, blank, state_of}
use Rattle.mz_symbol.specs.Makes.{MeetsAt, Means, MeansBare}
use Rattle.mz_symbol.specs.Laws.{IsBlind}
use Rattle.mz_symbol.proofs.RunLaws.{sound_later}
use Rattle.mz_symbol.proofs.ChoiceLaws.{sound_more}

-- ---- values by ids

values_unread : (v w : Values) (e : Entry) (k : NodeKind) (xs : List Term) → is_free k ≡ false → kind_term v e k xs ≡ kind_term w e k xs
values_unread v w e Var xs h = absurd (cc)
values_unread v w e Local xs h = absurd (cc)
values_unread v w e SetVar xs h = absurd (cc)
values_unread v w e SetLocal xs h = absurd (cc)
values_unread v w e k xs h = refl

-- ---- the term of a node that is free

free_number : (v : Values) (e : Entry) (k : NodeKind) (xs : List Term) → is_free k ≡ true → is_set_kind k ≡ false → kind_term v e k xs ≡ Some (number (v.number (own_id e.node)))
free_number v e Var xs f s = refl
free_number v e Local xs f s = refl
free_number v e SetVar xs f s = absurd (cc)
free_number v e SetLocal xs f s = absurd (cc)
free_number v e k xs f s = absurd (cc)

free_set : (v : Values) (e : Entry) (k : NodeKind) (xs : List Term) → is_free k ≡ true → is_set_kind k ≡ true → kind_term v e k xs ≡ Some (set (v.set (own_id e.node)))
free_set v e SetVar xs f s = refl
free_set v e SetLocal xs f s = refl
free_set v e k xs f s = absurd (cc)

-- a variable or a choice has a value
free_value : (v : Values) (e : Entry) (k : NodeKind) (xs : List Term) (x : Term) → is_free k ≡ true → x ≡ kind_term v e k xs → HasValue (is_set_kind k) x
free_value v e Var xs x f is = ap is_some (ap as_number is)
free_value v e Local xs x f is = ap is_some (ap as_number is)
free_value v e SetVar xs x f is = ap is_some (ap as_set is)
free_value v e SetLocal xs x f is = ap is_some (ap as_set is)
free_value v e k xs x f is = absurd (cc)

pub terms_read : (v : Values) (m : Mode) (s : Run) → IsArena s.arena → ReadsChoices m (λ id. term v s.arena id) s.choices → Reads (reading_in m v s) s
terms_read v m s a h = record {
  nodes = record {
    kinds = λ id e g f w. (made s.arena e id g (a.ordered id e g)).means v s.arena (grew_same s.arena) ∙ values_unread v w e e.node.kind (map (term v s.arena) (children e.node)) f;
    frees = λ id e g f. free_value v e e.node.kind (map (term v s.arena) (children e.node)) (term v s.arena id) f ((made s.arena e id g (a.ordered id e g)).means v s.arena (grew_same s.arena));
  };
  choices = h;
  lines = λ k l e. ap (line_in (λ id. term v s.arena id)) e;
}

-- ---- the term of a part's node

number_by_id : (es : List Entry) (x y : Values) (k : ℕ) (p : Part) (id : ℕ) → IsNode es true k p id → (by_id es x y).number id ≡ y.number k
unfolding by_id
number_by_id es x y k p id n = ap (number_of x y) n.stands ∙ ap (λ b. if b then y.number n.there.node.b else x.number n.there.node.b) n.local ∙ ap y.number n.number

set_by_id : (es : List Entry) (x y : Values) (k : ℕ) (p : Part) (id : ℕ) → IsNode es true k p id → (by_id es x y).set id ≡ y.set k
unfolding by_id
set_by_id es x y k p id n = ap (set_of x y) n.stands ∙ ap (λ b. if b then y.set n.there.node.b else x.set n.there.node.b) n.local ∙ ap y.set n.number

number_told : (es : List Entry) (x y : Values) (k : ℕ) (p : Part) (id : ℕ) → IsArena es → IsNode es true k p id → is_subset_sort p.sort ≡ false → term (by_id es x y) es id ≡ Some (number (y.number k))
number_told es x y k p id a n s =
    let v = by_id es x y in
    (made es n.there id n.stands (a.ordered id n.there n.stands)).means v es (grew_same es)
    ∙ free_number v n.there n.there.node.kind (map (term v es) (children n.there.node)) n.free (n.sort ∙ s)
    ∙ ap (λ i. Some (number (v.number i))) n.own
    ∙ ap (λ i. Some (number i)) (number_by_id es x y k p id n)

set_told : (es : List Entry) (x y : Values) (k : ℕ) (p : Part) (id : ℕ) → IsArena es → IsNode es true k p id → is_subset_sort p.sort ≡ true → term (by_id es x y) es id ≡ Some (set (y.set k))
set_told es x y k p id a n s =
    let v = by_id es x y in
    (made es n.there id n.stands (a.ordered id n.there n.stands)).means v es (grew_same es)
    ∙ free_set v n.there n.there.node.kind (map (term v es) (children n.there.node)) n.free (n.sort ∙ s)
    ∙ ap (λ i. Some (set (v.set i))) n.own
    ∙ ap (λ i. Some (set i)) (set_by_id es x y k p id n)

-- ---- one choice

value_told : (b : Base) (t : Term) (n : ℤ) (s : List Range) → (is_subset_sort (sort_of b) ≡ false → t ≡ Some (number n)) → (is_subset_sort (sort_of b) ≡ true → t ≡ Some (set s)) → value_by b t ≡ Some (content_by b n s)
value_told base.SetInt t n s f g = ap (λ t. value_by base.SetInt t) (g refl)
value_told (base.SetEnum e) t n s f g = ap (λ t. value_by (base.SetEnum e) t) (g refl)
value_told b t n s f g = ap (λ t. value_by b t) (f refl)

there_told : (n : ℤ) (v : Option Content) (c : Content) (o : Term) → o ≡ Some (number n) → v ≡ Some c → (if is_true o then v else Some values.absent) ≡ Some (if is_one n then c else values.absent)
there_told n v c o e f = ap (λ o. if is_true o then v else Some values.absent) e ∙ ap (λ v. if is_one n then v else Some values.absent) f ∙ some_if (is_one n)
  where
    some_if : (b : Bool) → (if b then Some c else Some values.absent) ≡ Some (if b then c else values.absent)
    some_if true = refl
    some_if false = refl

record FirstTold (es : List Entry) (x y : Values) (k : ℕ) (b : Base) (o : Option ℕ) (id : ℕ) (is : List ℕ) (ps : List Part) : Type 0 where
  first : value_at (λ i. term (by_id es x y) es i) b o id ≡ Some (content_at (is_some o) b k y)
  rest : AreNodes es true (next (is_some o) k) is ps

first_told : (es : List Entry) (x y : Values) (k : ℕ) (b : Base) (u : List Range) (o : Option ℕ) (id : ℕ) (is : List ℕ) (ps : List Part) → IsArena es → AreNodes es true k (with_id o (id ∷ []) ++ is) (parts_of (is_some o) (record { sort = sort_of b; set = u }) ++ ps) → FirstTold es x y k b o id is ps
first_told es x y k b u None id is ps a h = record {
  first = value_told b (term (by_id es x y) es id) (y.number k) (y.set k) (number_told es x y k (record { sort = sort_of b; set = u }) id a h.0) (set_told es x y k (record { sort = sort_of b; set = u }) id a h.0);
  rest = h.1;
}
first_told es x y k b u (Some o) id is ps a h =
    let v = value_told b (term (by_id es x y) es id) (y.number (suc k)) (y.set (suc k)) (number_told es x y (suc k) (record { sort = sort_of b; set = u }) id a h.1.0) (set_told es x y (suc k) (record { sort = sort_of b; set = u }) id a h.1.0) in
    record {
      first = there_told (y.number k) (value_by b (term (by_id es x y) es id)) (content_by b (y.number (suc k)) (y.set (suc k))) (term (by_id es x y) es o) (number_told es x y k occurrence o a h.0 refl) v;
      rest = h.1.1;
    }

-- ---- all choices

abbrev AllTold : (ℕ → Term) → List Free → ℕ → Values → Type 0
AllTold t [] k y = Unit {0}
AllTold t (f ∷ fs) k y = (symbol_value t f.symbol ≡ Some (cell_content (domain_of f) k y)) × AllTold t fs (next (domain_of f).opt k) y

all_told : (es : List Entry) (x y : Values) (k : ℕ) (fs : List Free) → IsArena es → AreNodes es true k (free_ids fs) (all_parts (map domain_of fs)) → AllTold (λ i. term (by_id es x y) es i) fs k y
all_told es x y k [] a h = tt
all_told es x y k (f ∷ fs) a h =
    let r = first_told es x y k f.symbol.base f.set f.symbol.occurs f.symbol.term (free_ids fs) (all_parts (map domain_of fs)) a h in
    (r.first, all_told es x y (next (is_some f.symbol.occurs) k) fs a r.rest)

chosen : (t : ℕ → Term) (fs : List Free) (j k : ℕ) (y : Values) (c : ℕ → Content) → AllTold t fs k y → Chooses (map domain_of fs) j k y c → (i : ℕ) (f : Free) → slice_get fs i ≡ Some f → symbol_value t f.symbol ≡ Some (c (j + i))
chosen t [] j k y c a h i f e = absurd (cc)
chosen t (g ∷ fs) j k y c a h zero f e =
    let same : g ≡ f = cc in
    ap (λ (f : Free). symbol_value t f.symbol) (sym same) ∙ a.0 ∙ ap (λ v. Some v) (sym h.0) ∙ ap (λ n. Some (c n)) (omega arith)
chosen t (g ∷ fs) j k y c a h (suc i) f e = chosen t fs (suc j) (next (domain_of g).opt k) y c a.1 h.1 i f e ∙ ap (λ n. Some (c n)) (omega arith)

pub choices_read : (s : Run) (c : ℕ → Content) (x y : Values) → IsRun s → Chooses (taken s) 0 0 y c → Reads (reading c (by_id s.arena x y) s) s
choices_read s c x y z h = terms_read (by_id s.arena x y) (Given c) s z.arena (λ k f e. chosen (λ id. term (by_id s.arena x y) s.arena id) s.choices 0 0 y c (all_told s.arena x y 0 s.choices z.arena z.locals) h k f e ∙ ap (λ n. Some (c n)) (omega arith))

-- ---- what holds of each run is kept

pub kept_nodes : (old new : Run) → IsRun old → IsArena new.arena → Grew old.arena new.arena → new.choices ≡ old.choices → new.lines ≡ old.lines → IsRun new
kept_nodes old new z a g c l = rw c (rw l (sound_later old.arena new.arena old.choices old.lines g a z))

pub kept_choice : (old new : Run) (f : Free) → IsRun old → IsArena new.arena → Grew old.arena new.arena → new.choices ≡ old.choices ++ f ∷ [] → new.lines ≡ old.lines → AreNodes new.arena true (length (free_ids old.choices)) (symbol_ids f.symbol) (domain_parts (domain_of f)) → IsChoosable (domain_of f) → IsRun new
kept_choice old new f z a g c l n d = rw c (rw l (sound_more new.arena old.choices old.lines f (sound_later old.arena new.arena old.choices old.lines g a z) n d))

-- ---- without values

pub bare_reads : (s : Run) → IsArena s.arena → Reads (bare s) s
bare_reads s a = terms_read no_values Bare s a refl

-- of any result, where no term is seen
pub bare_meets : {A B : Type 0} (see : Reading → A → B) (x : Result A Stop) (old new : Run) (m : Reading → runs.Run B) → IsArena new.arena → IsBlind see new m → Means see x old new m → MeansBare see x old new m
bare_meets see x old new m a b h =
    subst (λ f. MeetsAt f x (state_of blank new) (m blank (state_of blank old))) b.seen
    (subst (λ n. MeetsAt (see (bare new)) x (state_of blank new) (n (state_of blank old))) b.made
    (h (bare new) (bare_reads new a)))
