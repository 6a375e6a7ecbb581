-- Domains without a value, one after the other.
use Rattle.std.proofs.Common.{◌≡◌, ◌≢◌, ℕ, zero, suc, ◌+◌, ◌<◌, ◌≤◌, List, [], ◌∷◌, ◌++◌, length, map, take, drop, get_or, Bool, true, false, Option, Some, refl, sym, ap, subst, ◌∙◌, arith, append-nil, append_assoc, nat_eq}
use Rattle.std.specs.List.{AllByRecursion, flat_map}
use Rattle.std.proofs.lemmas.Bool.Decides.{nat_tests}
use Rattle.mz_value.specs.Ranges.{Range}
use Rattle.mz_arena.specs.declared.instance.VarCell.{VarCell as CodeCell}
use Rattle.mz_arena.specs.declared.instance.ModelVar.{ModelVar as CodeVar}
use Rattle.mz_arena.specs.Entries.{Entry}
use Rattle.mz_arena.specs.Instances.{VarCell, ModelVar, var_cell, model_var}
use Rattle.mz_arena.specs.InBounds.{AreInDomains}
use Rattle.mz_arena.specs.Values as terms
use Rattle.mz_instance.specs.Parts.{Part, is_subset_sort, occurrence, value_part, parts_of, var_parts, parts}
use Rattle.fz_program.specs.Values.{Values}
use Rattle.fz_program.specs.Flat.{FlatSolves}
use Rattle.flat_reif.specs.States.{State, IsState, Always}
use Rattle.flat_reif.specs.Roots.{Posted, Never, HasNoSolution}
use Rattle.flat_reif.proofs.Steps.{spreads_same}
use Rattle.flat_root.specs.Keeps.{Keeps, IsReadyState, Leads}
use Rattle.flat_root.proofs.Keeping.{fewer_domains, keeps_spread, keeps_twice, keeps_where}
use Rattle.flat_root.proofs.Rooting.{posted_leads}
use Rattle.flat.proofs.Labels.{all_append}
use Rattle.flat.proofs.Stepping.{next_item, no_item, cells_from, vars_from}
use Rattle.flat.specs.Cleared.{HasSome, HaveSome, AreCleared, IsBound, AreBound, value_parts, all_value_parts}
use Rattle.flat.proofs.Reading.{read_values, meets_read}

all_first : {X : Type 0} (P : X → Type 0) (xs ys : List X) → AllByRecursion P (xs ++ ys) → AllByRecursion P xs
all_first P [] ys a = tt
all_first P (x ∷ xs) ys a = (a.0, all_first P xs ys a.1)

all_rest : {X : Type 0} (P : X → Type 0) (xs ys : List X) → AllByRecursion P (xs ++ ys) → AllByRecursion P ys
all_rest P [] ys a = a
all_rest P (x ∷ xs) ys a = all_rest P xs ys a.1

-- ---- one part

same_leads : (s : State) → IsReadyState s → Leads s s Always
same_leads s r = record { keeps = keeps_spread s s Always (spreads_same s); ready = r }

pub none_cleared : (s : State) → IsReadyState s → AreCleared s s []
none_cleared s r = record { leads = same_leads s r; some = λ f h. tt }

pub has_cleared : (s : State) (p : Part) → IsReadyState s → HasSome p → AreCleared s s (p ∷ [])
has_cleared s p r h = record { leads = same_leads s r; some = λ f m. (h, tt) }

pub set_cleared : (s : State) (p : Part) → IsReadyState s → is_subset_sort p.sort ≡ true → AreCleared s s (p ∷ [])
set_cleared s p r h = has_cleared s p r (λ e. clash (is_subset_sort p.sort) h e)
  where
    clash : {A : Type 0} (b : Bool) → b ≡ true → b ≡ false → A
    clash b h k = absurd (cc)

pub empty_cleared : (s t : State) (p : Part) → IsReadyState s → AreBound s.es (p ∷ []) → is_subset_sort p.sort ≡ false → p.set ≡ [] → Posted s t Never → HasNoSolution t → AreCleared s t (p ∷ [])
empty_cleared s t p r b number empty posted none =
    let l = posted_leads s t Never r posted in
    record {
      leads = record {
        keeps = keeps_where s t Never Always l.keeps (λ v d c. tt) (λ v d c. b.0.none number empty v (fewer_domains s.es t.es l.keeps.extends v d));
        ready = l.ready;
      };
      some = λ f h. absurd (none f h);
    }

-- ranges that are read, and whether there are none
pub no_ranges : (b : Bool) (rs u : List Range) → rs ≡ u → b ≡ nat_eq (length rs) 0 → b ≡ true → u ≡ []
no_ranges b [] u e h k = sym e
no_ranges b (r ∷ rs) u e h k = absurd (clash (nat_eq (suc (length rs)) 0) (sym h ∙ k) (grind (arith, nat_tests)))
  where
    clash : (b : Bool) → b ≡ true → b ≡ false → ⊥
    clash b h k = cc

pub some_ranges : (b : Bool) (rs u : List Range) → rs ≡ u → b ≡ nat_eq (length rs) 0 → b ≡ false → u ≢ []
some_ranges b [] u e h k n = clash b h k
  where
    clash : (b : Bool) → b ≡ nat_eq 0 0 → b ≡ false → ⊥
    clash b h k = cc
some_ranges b (r ∷ rs) u e h k n = let z : r ∷ rs ≡ [] = e ∙ n in cc

-- ---- several

pub both_cleared : (s t u : State) (ps qs : List Part) → AreCleared s t ps → AreCleared t u qs → AreCleared s u (ps ++ qs)
both_cleared s t u ps qs g h = record {
  leads = record {
    keeps = keeps_where s u (λ v. Always v × Always v) Always (keeps_twice s t u Always Always g.leads.keeps h.leads.keeps) (λ v d c. tt) (λ v d c. (tt, tt));
    ready = h.leads.ready;
  };
  some = λ f m. all_append HasSome ps qs (g.some (take (length t.prog.vars) f) (h.leads.keeps.down (read_values u f) f (meets_read u h.leads.ready.state f m)).solves) (h.some f m);
}

bound_later : (s t : State) (ps : List Part) → Leads s t Always → AreBound s.es ps → AreBound t.es ps
bound_later s t [] l b = tt
bound_later s t (p ∷ ps) l b = (record { none = λ n e v d. b.0.none n e v (fewer_domains s.es t.es l.keeps.extends v d) }, bound_later s t ps l b.1)

-- what is left to be looked at
pub record PartsLeft (s t : State) (all more : List Part) : Type 0 where
  pub done : List Part
  pub split : all ≡ done ++ more
  pub bound : AreBound t.es more
  pub cleared : AreCleared s t done

pub parts_begin : (s : State) (all : List Part) → IsReadyState s → AreBound s.es all → PartsLeft s s all all
parts_begin s all r b = record { done = []; split = refl; bound = b; cleared = none_cleared s r }

pub parts_first : (s t : State) (all xs ys : List Part) → PartsLeft s t all (xs ++ ys) → AreBound t.es xs
parts_first s t all xs ys h = all_first (IsBound t.es) xs ys h.bound

pub parts_next : (s t u : State) (all xs ys : List Part) → PartsLeft s t all (xs ++ ys) → AreCleared t u xs → PartsLeft s u all ys
parts_next s t u all xs ys h c = record {
  done = h.done ++ xs;
  split = h.split ∙ sym (append_assoc h.done xs ys);
  bound = bound_later t u ys c.leads (all_rest (IsBound t.es) xs ys h.bound);
  cleared = both_cleared s t u h.done xs h.cleared c;
}

pub parts_done : (s t : State) (all : List Part) → PartsLeft s t all [] → AreCleared s t all
parts_done s t all h = subst (AreCleared s t) (sym (h.split ∙ append-nil h.done)) h.cleared

-- ---- cells and variables

pub cells_left : (m : ModelVar) (all : List CodeCell) (k : ℕ) (c d : CodeCell) → k < length all → c ≡ get_or all k d → value_parts m (cells_from k all) ≡ (value_part m (var_cell c) ∷ []) ++ value_parts m (cells_from (k + 1) all)
cells_left m all k c d low is = let next : suc k ≡ k + 1 = omega arith in ap (λ cs. value_parts m (map var_cell cs)) (next_item all k c d low is) ∙ ap (λ j. value_part m (var_cell c) ∷ value_parts m (cells_from j all)) next

pub cells_end : (m : ModelVar) (all : List CodeCell) (k : ℕ) → length all ≤ k → value_parts m (cells_from k all) ≡ []
cells_end m all k low = ap (λ cs. value_parts m (map var_cell cs)) (no_item all k low)

pub vars_left : (all : List CodeVar) (k : ℕ) (m d : CodeVar) → k < length all → m ≡ get_or all k d → all_value_parts (vars_from k all) ≡ value_parts (model_var m) (model_var m).cells ++ all_value_parts (vars_from (k + 1) all)
vars_left all k m d low is = let next : suc k ≡ k + 1 = omega arith in ap (λ ms. all_value_parts (map model_var ms)) (next_item all k m d low is) ∙ ap (λ j. value_parts (model_var m) (model_var m).cells ++ all_value_parts (vars_from j all)) next

pub vars_end : (all : List CodeVar) (k : ℕ) → length all ≤ k → all_value_parts (vars_from k all) ≡ []
vars_end all k low = ap (λ ms. all_value_parts (map model_var ms)) (no_item all k low)

-- ---- all parts: an occurrence is false or true

occurs_some : HasSome occurrence
occurs_some n e = cc

cell_some : (opt : Bool) (p : Part) → HasSome p → AllByRecursion HasSome (parts_of opt p)
cell_some true p h = (occurs_some, (h, tt))
cell_some false p h = (h, tt)

cells_some : (m : ModelVar) (cs : List VarCell) → AllByRecursion HasSome (value_parts m cs) → AllByRecursion HasSome (flat_map (λ c. parts_of m.opt (value_part m c)) cs)
cells_some m [] h = tt
cells_some m (c ∷ cs) h = all_append HasSome (parts_of m.opt (value_part m c)) (flat_map (λ c. parts_of m.opt (value_part m c)) cs) (cell_some m.opt (value_part m c) h.0) (cells_some m cs h.1)

pub all_some : (ms : List ModelVar) → AllByRecursion HasSome (all_value_parts ms) → HaveSome ms
all_some [] h = tt
all_some (m ∷ ms) h = all_append HasSome (var_parts m) (parts ms) (cells_some m m.cells (all_first HasSome (value_parts m m.cells) (all_value_parts ms) h)) (all_some ms (all_rest HasSome (value_parts m m.cells) (all_value_parts ms) h))
