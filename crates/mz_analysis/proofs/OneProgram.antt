-- Typed sections make at most one program.
use Rattle.std.proofs.Common.{◌≡◌, ◌∙◌, ℕ, zero, suc, ◌+◌, ◌<◌, ◌≤◌, ◌⊎◌, inl, inr, false, List, [], ◌∷◌, Some, map, length, get_or, arith, refl, sym, ap, subst}
use Rattle.std.specs.Prelude.{Option, slice_get}
use Rattle.std.proofs.lemmas.List.{length-map, same_lists, get_or_default}
use Rattle.mz_core.specs.Tree.{Tree, Decl}
use Rattle.mz_core.specs.Program.{Function, Goal, PlainProgram}
use Rattle.mz_scope_order.specs.Scoped.{ScopedTree}
use Rattle.mz_check_meaning.specs.Texts.{all_texts, text_names}
use Rattle.mz_check_meaning.specs.Checks.{Sections, comes_before, StandInSourceOrder, text_entry, IsProgramOf}
use Rattle.mz_check_meaning.proofs.SourceOrder.{same_slot, later}
use Rattle.mz_check_data.specs.WithData as given
use Rattle.mz_analysis.proofs.ParPrograms.{AreNumbered, numbered_from, slot_at, placed, by_slot}

pub less_or_not : (a b : ℕ) → (a < b) ⊎ ((a ≡ b) ⊎ (b < a))
less_or_not zero zero = inr (inl refl)
less_or_not zero (suc b) = inl (omega arith)
less_or_not (suc a) zero = inr (inr (omega arith))
less_or_not (suc a) (suc b) = one_more (less_or_not a b)
  where
    one_more : (a < b) ⊎ ((a ≡ b) ⊎ (b < a)) → (suc a < suc b) ⊎ ((suc a ≡ suc b) ⊎ (suc b < suc a))
    one_more (inl p) = inl (omega (arith, p))
    one_more (inr (inl e)) = inr (inl (ap suc e))
    one_more (inr (inr p)) = inr (inr (omega (arith, p)))

-- these declarations, each once, in source order
record AreAll (ds es : List Decl) (order : List ℕ) : Type 0 where
  found : map (slice_get es) order ≡ map Some ds
  as_many : length es ≡ length ds
  ascending : StandInSourceOrder es

abbrev SameBelow : List Decl → List Decl → ℕ → Type 0
SameBelow es fs k = (j : ℕ) (d : Decl) → j < k → get_or es j d ≡ get_or fs j d

-- ---- one of two lists of them stands where it stands in the other, or the other's doesn't come after it

module _ (ds : List Decl) (numbered : AreNumbered 0 ds) (es fs : List Decl) (o u : List ℕ) (first : AreAll ds es o) (second : AreAll ds fs u) where
  by_case : (k j : ℕ) (d : Decl) → k < length ds → j < length fs → get_or fs j d ≡ get_or es k d → SameBelow es fs k → (j < k) ⊎ ((j ≡ k) ⊎ (k < j)) → (get_or es k d ≡ get_or fs k d) ⊎ (comes_before (get_or es k d) (get_or fs k d) ≡ false)
  by_case k j d low there same before (inl p) =
      let many = first.as_many in
      let slots : (get_or es j d).slot ≡ (get_or es k d).slot = ap (λ (x : Decl). x.slot) (before j d p ∙ same) in
      let here = (by_slot es ds o first.found first.as_many numbered j d (omega (arith, p, low, many))).2 in
      let too = (by_slot es ds o first.found first.as_many numbered k d (omega (arith, low, many))).2 in
      let is : j ≡ k = sym here ∙ ap (λ i. get_or o i 0) slots ∙ too in
      absurd (omega (arith, is, p))
  by_case k j d low there same before (inr (inl is)) = inl (sym same ∙ ap (λ i. get_or fs i d) is)
  by_case k j d low there same before (inr (inr p)) = inr (subst (λ (x : Decl). comes_before x (get_or fs k d) ≡ false) same (later fs second.ascending k j d p there))

  beside : (k : ℕ) (d : Decl) → k < length ds → SameBelow es fs k → (get_or es k d ≡ get_or fs k d) ⊎ (comes_before (get_or es k d) (get_or fs k d) ≡ false)
  beside k d low before =
      let many = first.as_many in
      let t = by_slot es ds o first.found first.as_many numbered k d (omega (arith, low, many)) in
      let there = placed fs ds u second.found second.as_many numbered (get_or es k d).slot d t.0 in
      by_case k (get_or u (get_or es k d).slot 0) d low there.0 (there.1 ∙ sym t.1) before (less_or_not (get_or u (get_or es k d).slot 0) k)

-- ---- so they are the same list

module _ (ds : List Decl) (numbered : AreNumbered 0 ds) (es fs : List Decl) (o u : List ℕ) (first : AreAll ds es o) (second : AreAll ds fs u) where
  one_same : (k : ℕ) (d : Decl) → k < length ds → (get_or es k d ≡ get_or fs k d) ⊎ (comes_before (get_or es k d) (get_or fs k d) ≡ false) → (get_or fs k d ≡ get_or es k d) ⊎ (comes_before (get_or fs k d) (get_or es k d) ≡ false) → get_or es k d ≡ get_or fs k d
  one_same k d low (inl is) r = is
  one_same k d low (inr left) (inl is) = sym is
  one_same k d low (inr left) (inr right) =
      let many = first.as_many in
      let too = second.as_many in
      let slots = same_slot (get_or es k d) (get_or fs k d) left right in
      (by_slot es ds o first.found first.as_many numbered k d (omega (arith, low, many))).1
      ∙ ap (λ i. get_or ds i d) slots
      ∙ sym (by_slot fs ds u second.found second.as_many numbered k d (omega (arith, low, too))).1

  same_step : (k : ℕ) → k < length ds → SameBelow es fs k → (j : ℕ) (d : Decl) → j < suc k → (j < k) ⊎ ((j ≡ k) ⊎ (k < j)) → get_or es j d ≡ get_or fs j d
  same_step k low before j d p (inl q) = before j d q
  same_step k low before j d p (inr (inl is)) =
      subst (λ (i : ℕ). get_or es i d ≡ get_or fs i d) (sym is)
      (one_same k d low (beside ds numbered es fs o u first second k d low before) (beside ds numbered fs es u o second first k d low (λ i e q. sym (before i e q))))
  same_step k low before j d p (inr (inr q)) = absurd (omega (arith, p, q))

  same_below : (k : ℕ) → k ≤ length ds → SameBelow es fs k
  same_below zero h j d p = absurd (omega (arith, p))
  same_below (suc k) h j d p = same_step k (omega (arith, h)) (same_below k (omega (arith, h))) j d p (less_or_not j k)

  same_decls : es ≡ fs
  same_decls =
      let many = first.as_many in
      same_lists es fs (first.as_many ∙ sym second.as_many) (λ k d low. same_below (length ds) (omega arith) k d (omega (arith, low, many)))

  long : (xs : List Decl) (ks : List ℕ) → map (slice_get xs) ks ≡ map Some ds → length ks ≡ length ds
  long xs ks e = sym (length-map ks (slice_get xs)) ∙ ap (λ (ys : List (Option Decl)). length ys) e ∙ length-map ds (λ (d : Decl). Some d)

  -- the place that the second order has for a number is the first's
  one_place : (k : ℕ) (d : Decl) → k < length ds → get_or o k 0 ≡ get_or u k 0
  one_place k d low =
      let there = placed fs ds u second.found second.as_many numbered k d low in
      let inside : get_or u k 0 < length es = subst (λ (xs : List Decl). get_or u k 0 < length xs) (sym same_decls) there.0 in
      let is : get_or es (get_or u k 0) d ≡ get_or ds k d = ap (λ (xs : List Decl). get_or xs (get_or u k 0) d) same_decls ∙ there.1 in
      let slot : (get_or es (get_or u k 0) d).slot ≡ k = ap (λ (x : Decl). x.slot) is ∙ slot_at 0 ds k d numbered low ∙ omega arith in
      ap (λ i. get_or o i 0) (sym slot) ∙ (by_slot es ds o first.found first.as_many numbered (get_or u k 0) d inside).2

  some_place : (xs : List Decl) (k n : ℕ) → xs ≡ ds → k < length ds → get_or o k n ≡ get_or u k n
  some_place [] k n e low = absurd (let none = ap (λ (ys : List Decl). length ys) e in omega (arith, low, none))
  some_place (x ∷ xs) k n e low =
      let left = long es o first.found in
      let right = long fs u second.found in
      get_or_default o k n 0 (omega (arith, low, left)) ∙ one_place k x low ∙ sym (get_or_default u k n 0 (omega (arith, low, right)))

  same_places : o ≡ u
  same_places =
      let left = long es o first.found in
      same_lists o u (long es o first.found ∙ sym (long fs u second.found)) (λ k n low. some_place ds k n refl (omega (arith, low, left)))

-- ---- and all else of a program is told by its sections

abbrev made : List (List (List ℕ)) → List (ℕ × List ℕ) → List Decl → List ℕ → List Function → List Tree → Goal → List Tree → PlainProgram
made cs ts ds o fs rs g os = record { cases = cs; texts = ts; decls = ds; order = o; functions = fs; constraints = rs; goal = g; outputs = os }

is_made : (p q : PlainProgram) → p.cases ≡ q.cases → p.texts ≡ q.texts → p.decls ≡ q.decls → p.order ≡ q.order → p.functions ≡ q.functions → p.constraints ≡ q.constraints → p.goal ≡ q.goal → p.outputs ≡ q.outputs → p ≡ q
is_made p q c t d o f r g u =
    ap (λ x. made x p.texts p.decls p.order p.functions p.constraints p.goal p.outputs) c
    ∙ ap (λ x. made q.cases x p.decls p.order p.functions p.constraints p.goal p.outputs) t
    ∙ ap (λ x. made q.cases q.texts x p.order p.functions p.constraints p.goal p.outputs) d
    ∙ ap (λ x. made q.cases q.texts q.decls x p.functions p.constraints p.goal p.outputs) o
    ∙ ap (λ x. made q.cases q.texts q.decls q.order x p.constraints p.goal p.outputs) f
    ∙ ap (λ x. made q.cases q.texts q.decls q.order q.functions x p.goal p.outputs) r
    ∙ ap (λ x. made q.cases q.texts q.decls q.order q.functions q.constraints x p.outputs) g
    ∙ ap (λ x. made q.cases q.texts q.decls q.order q.functions q.constraints q.goal x) u

names_same : (p q : PlainProgram) → p.decls ≡ q.decls → p.functions ≡ q.functions → p.constraints ≡ q.constraints → p.goal ≡ q.goal → p.outputs ≡ q.outputs → text_names p ≡ text_names q
unfolding text_names all_texts
names_same p q d f r g u =
    ap (λ x. text_names (made p.cases p.texts x p.order p.functions p.constraints p.goal p.outputs)) d
    ∙ ap (λ x. text_names (made p.cases p.texts q.decls p.order x p.constraints p.goal p.outputs)) f
    ∙ ap (λ x. text_names (made p.cases p.texts q.decls p.order q.functions x p.goal p.outputs)) r
    ∙ ap (λ x. text_names (made p.cases p.texts q.decls p.order q.functions q.constraints x p.outputs)) g
    ∙ ap (λ x. text_names (made p.cases p.texts q.decls p.order q.functions q.constraints q.goal x)) u

module _ (table : List (List ℕ)) (s : ScopedTree) (all : Sections) where
  are_all : (p : PlainProgram) → IsProgramOf table s all p → AreAll all.decls p.decls p.order
  are_all p h = record { found = h.ordered; as_many = h.counted; ascending = h.ascending }

  pub one_program : (p q : PlainProgram) → given.AreNumbered all.decls → IsProgramOf table s all p → IsProgramOf table s all q → p ≡ q
  one_program p q numbers h k =
      let numbered : AreNumbered 0 all.decls = numbered_from 0 all.decls (λ i d low. numbers i d low ∙ (let z : i ≡ 0 + i = omega arith in z)) in
      let decls = same_decls all.decls numbered p.decls q.decls p.order q.order (are_all p h) (are_all q k) in
      let functions = h.functions ∙ sym k.functions in
      let constraints = h.constraints ∙ sym k.constraints in
      let goals = h.goal ∙ sym k.goal in
      let outputs = h.outputs ∙ sym k.outputs in
      is_made p q (h.cases ∙ sym k.cases)
      (h.text_of_each ∙ ap (map (text_entry table)) (names_same p q decls functions constraints goals outputs) ∙ sym k.text_of_each)
      decls (same_places all.decls numbered p.decls q.decls p.order q.order (are_all p h) (are_all q k)) functions constraints goals outputs
