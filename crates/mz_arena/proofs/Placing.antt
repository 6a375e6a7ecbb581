-- The places of lists, where a node is added and where a list is.
use Rattle.std.proofs.Common.{◌≡◌, ℕ, ◌+◌, ◌<◌, ◌≤◌, List, [], ◌∷◌, ◌++◌, length, map, Bool, true, Option, Some, None, slice_get, inl, inr, sym, ap, subst, ◌∙◌, arith, length-append}
use Rattle.mz_value.specs.Ranges.{Range}
use Rattle.mz_interval.specs.Ends.{Ends}
use Rattle.mz_interval.specs.Interval.{ends}
use Rattle.mz_arena_blocks.specs.Lists.{list_at}
use Rattle.mz_arena_blocks.proofs.Placed.{list_at-append, list_at-last}
use Rattle.mz_arena.specs.declared.node.Node.{Node}
use Rattle.mz_arena.specs.declared.node.NodeKind.TheVariants.{Cons}
use Rattle.mz_arena.specs.declared.table.Reach.{Reach}
use Rattle.mz_arena.specs.declared.table.Stored.{Stored}
use Rattle.mz_arena.specs.declared.table.Table.{Table}
use Rattle.mz_arena.specs.Entries.{Entry, entry, children}
use Rattle.mz_arena.specs.Extents.{Known, wholes, subsets, as_whole, as_subset, node_extent, extent}
use Rattle.mz_arena.specs.Tables.{Sets, seen, entries, asked, known, wholes_in, subsets_in, wholes_of, subsets_of, has_wholes, has_subsets, HasLists, IsKept, IsReady}
use Rattle.mz_arena.specs.Places.{wholes_listed, subsets_listed, HasPlace, AreListed, IsListedTable, HasPlaces}
use Rattle.mz_arena.proofs.Growing.{grew_append, extent_last}
use Rattle.mz_arena.proofs.Pushed.{entries-push, old_or_new}
use Rattle.mz_arena.proofs.Telling.{length-entries, whole_parts, subset_parts, by_kind}

-- ---- lists that are added

pub lists_push : {T : Type 0} (old new : List (List T)) (l : List T) → new ≡ old ++ l ∷ [] → HasLists old new
lists_push old new l p = record {
  longer = omega (arith, ap length p, length-append old (l ∷ []));
  same = λ k low. ap (λ ls. list_at ls k) p ∙ list_at-append old (l ∷ []) k low;
}

pub list_pushed : {T : Type 0} (old new : List (List T)) (l : List T) (k : ℕ) → new ≡ old ++ l ∷ [] → k ≡ length old → list_at new k ≡ l
list_pushed old new l k p q = ap (λ ls. list_at ls k) p ∙ ap (list_at (old ++ l ∷ [])) q ∙ list_at-last old l

pub place_pushed : {T : Type 0} (old new : List (List T)) (l : List T) (k : ℕ) → new ≡ old ++ l ∷ [] → k ≡ length old → k < length new
place_pushed old new l k p q = omega (arith, ap length p, length-append old (l ∷ []), q)

-- ---- a table whose lists are more

more_listed : {E : Type 0} (has : Reach → Bool) (elements : Known → List E) (es : List Entry) (stored : List Stored) (listed more : ℕ → List E) (count new : ℕ) → count ≤ new → ((k : ℕ) → k < count → more k ≡ listed k) → AreListed has elements es stored listed count → AreListed has elements es stored more new
more_listed has elements es stored listed more count new l same h = record {
  some = omega (arith, l, h.some);
  empty = same 0 h.some ∙ h.empty;
  each = λ id s g w. record {
    within = omega (arith, l, (h.each id s g w).within);
    is = same s.place (h.each id s g w).within ∙ (h.each id s g w).is;
  };
}

pub kept_listed : (old new : Table) → IsKept old new → IsListedTable old → IsListedTable new
kept_listed old new k h =
    record {
      wholes = subst (λ (es : List Entry). AreListed has_wholes wholes_in es new.stored.items (wholes_listed new) (length new.wholes)) (sym k.entries)
          (subst (λ stored. AreListed has_wholes wholes_in (entries old.sets.items old.stored.items) stored (wholes_listed new) (length new.wholes)) (sym k.stored)
          (more_listed has_wholes wholes_in (entries old.sets.items old.stored.items) old.stored.items (wholes_listed old) (wholes_listed new) (length old.wholes) (length new.wholes) k.wholes.longer (λ n l. ap (map ends) (k.wholes.same n l)) h.wholes));
      subsets = subst (λ (es : List Entry). AreListed has_subsets subsets_in es new.stored.items (subsets_listed new) (length new.subsets)) (sym k.entries)
          (subst (λ stored. AreListed has_subsets subsets_in (entries old.sets.items old.stored.items) stored (subsets_listed new) (length new.subsets)) (sym k.stored)
          (more_listed has_subsets subsets_in (entries old.sets.items old.stored.items) old.stored.items (subsets_listed old) (subsets_listed new) (length old.subsets) (length new.subsets) k.subsets.longer (λ n l. k.subsets.same n l) h.subsets));
    }

-- ---- a table with one more node

listed_push : {E : Type 0} (has : Reach → Bool) (elements : Known → List E) (sets : Sets) (stored : List Stored) (s : Stored) (listed : ℕ → List E) (count : ℕ) → IsReady sets stored s → (has s.reach ≡ true → HasPlace listed count s.place (elements (node_extent (seen sets s) (map (extent (entries sets stored)) (children s.node))))) → AreListed has elements (entries sets stored) stored listed count → AreListed has elements (entries sets (stored ++ s ∷ [])) (stored ++ s ∷ []) listed count
listed_push {E} has elements sets stored s listed count r put h = record { some = h.some; empty = h.empty; each = each }
  where
    es : List Entry
    es = entries sets stored

    new : List Entry
    new = es ++ seen sets s ∷ []

    each : (id : ℕ) (t : Stored) → slice_get (stored ++ s ∷ []) id ≡ Some t → has t.reach ≡ true → HasPlace listed count t.place (elements (extent (entries sets (stored ++ s ∷ [])) id))
    each id t g w = subst (λ (fs : List Entry). HasPlace listed count t.place (elements (extent fs id))) (sym (entries-push sets stored s)) (elim (old_or_new stored s t id g) [
      | inl o ↦
          let low : id < length es = omega (arith, o.0, length-entries sets stored) in
          subst (λ (x : Known). HasPlace listed count t.place (elements x)) (sym ((grew_append es (seen sets s ∷ [])).extents id low)) (h.each id t o.1 w)
      | inr n ↦
          let place : id ≡ length es = n.0 ∙ sym (length-entries sets stored) in
          let own = put (subst (λ (u : Stored). has u.reach ≡ true) n.1 w) in
          subst (λ (u : Stored). HasPlace listed count u.place (elements (extent new id))) (sym n.1) (subst (λ (x : Known). HasPlace listed count s.place (elements x)) (sym (ap (extent new) place ∙ extent_last es (seen sets s) r.below)) own)
    ])

pub pushed_listed : (old new : Table) (s : Stored) → new.wholes ≡ old.wholes → new.subsets ≡ old.subsets → new.sets.items ≡ old.sets.items → new.stored.items ≡ old.stored.items ++ s ∷ [] → IsListedTable old → IsReady old.sets.items old.stored.items s → HasPlaces old s → IsListedTable new
pushed_listed old new s w v p q h r put = record {
  wholes = subst (λ ls. AreListed has_wholes wholes_in (entries new.sets.items new.stored.items) new.stored.items (λ k. map ends (list_at ls k)) (length ls)) (sym w)
      (subst (λ sets. AreListed has_wholes wholes_in (entries sets new.stored.items) new.stored.items (wholes_listed old) (length old.wholes)) (sym p)
      (subst (λ stored. AreListed has_wholes wholes_in (entries old.sets.items stored) stored (wholes_listed old) (length old.wholes)) (sym q)
      (listed_push has_wholes wholes_in old.sets.items old.stored.items s (wholes_listed old) (length old.wholes) r put.wholes h.wholes)));
  subsets = subst (λ ls. AreListed has_subsets subsets_in (entries new.sets.items new.stored.items) new.stored.items (λ k. list_at ls k) (length ls)) (sym v)
      (subst (λ sets. AreListed has_subsets subsets_in (entries sets new.stored.items) new.stored.items (subsets_listed old) (length old.subsets)) (sym p)
      (subst (λ stored. AreListed has_subsets subsets_in (entries old.sets.items stored) stored (subsets_listed old) (length old.subsets)) (sym q)
      (listed_push has_subsets subsets_in old.sets.items old.stored.items s (subsets_listed old) (length old.subsets) r put.subsets h.subsets)));
}

-- the same nodes and lists
pub same_listed : (old new : Table) → new.wholes ≡ old.wholes → new.subsets ≡ old.subsets → new.sets.items ≡ old.sets.items → new.stored.items ≡ old.stored.items → IsListedTable old → IsListedTable new
same_listed old new w v p q h = record {
  wholes = subst (λ ls. AreListed has_wholes wholes_in (entries new.sets.items new.stored.items) new.stored.items (λ k. map ends (list_at ls k)) (length ls)) (sym w)
      (subst (λ sets. AreListed has_wholes wholes_in (entries sets new.stored.items) new.stored.items (wholes_listed old) (length old.wholes)) (sym p)
      (subst (λ stored. AreListed has_wholes wholes_in (entries old.sets.items stored) stored (wholes_listed old) (length old.wholes)) (sym q) h.wholes));
  subsets = subst (λ ls. AreListed has_subsets subsets_in (entries new.sets.items new.stored.items) new.stored.items (λ k. list_at ls k) (length ls)) (sym v)
      (subst (λ sets. AreListed has_subsets subsets_in (entries sets new.stored.items) new.stored.items (subsets_listed old) (length old.subsets)) (sym p)
      (subst (λ stored. AreListed has_subsets subsets_in (entries old.sets.items stored) stored (subsets_listed old) (length old.subsets)) (sym q) h.subsets));
}

-- no list has an element yet
pub empty_listed : (t : Table) → t.stored.items ≡ [] → t.wholes ≡ [] ∷ [] → t.subsets ≡ [] ∷ [] → IsListedTable t
empty_listed t p w v = record {
  wholes = record { some = omega (arith, ap length w); empty = ap (λ ls. map ends (list_at ls 0)) w; each = λ id s g h. absurd (none t.stored.items id s p g) };
  subsets = record { some = omega (arith, ap length v); empty = ap (λ ls. list_at ls 0) v; each = λ id s g h. absurd (none t.stored.items id s p g) };
}
  where
    none : (stored : List Stored) (id : ℕ) (s : Stored) → stored ≡ [] → slice_get stored id ≡ Some s → ⊥
    none [] id s e g = cc
    none (t ∷ ts) id s e g = cc

-- ---- the list that a Cons is to be

some_same : {A : Type 0} (o : Option A) (x y : A) → o ≡ Some x → Some y ≡ o → y ≡ x
some_same o x y h k = cc

pub cons_wholes : (t : Table) (n : Node) (head : Ends) → n.kind ≡ Cons → asked t n ≡ Some (wholes (wholes_in (asked t n))) → Some head ≡ as_whole (known t n.a) → head ∷ wholes_of t n.b ≡ wholes_in (asked t n)
cons_wholes t n head c told h =
    let parts = whole_parts (known t n.a) (known t n.b) (wholes_in (asked t n)) (sym (by_kind (known t) (entry n) Cons c) ∙ told) in
    ap (λ e. e ∷ wholes_of t n.b) (some_same (as_whole (known t n.a)) parts.head head parts.is_head h) ∙ sym parts.all

pub cons_no_whole : (t : Table) (n : Node) → n.kind ≡ Cons → asked t n ≡ Some (wholes (wholes_in (asked t n))) → None ≡ as_whole (known t n.a) → ⊥
cons_no_whole t n c told h =
    let parts = whole_parts (known t n.a) (known t n.b) (wholes_in (asked t n)) (sym (by_kind (known t) (entry n) Cons c) ∙ told) in
    clash (as_whole (known t n.a)) parts.head parts.is_head h
  where
    clash : (o : Option Ends) (e : Ends) → o ≡ Some e → None ≡ o → ⊥
    clash o e p q = cc

pub cons_subsets : (t : Table) (n : Node) (head : List Range) → n.kind ≡ Cons → asked t n ≡ Some (subsets (subsets_in (asked t n))) → as_subset (known t n.a) ≡ Some head → head ∷ subsets_of t n.b ≡ subsets_in (asked t n)
cons_subsets t n head c told h =
    let parts = subset_parts (known t n.a) (known t n.b) (subsets_in (asked t n)) (sym (by_kind (known t) (entry n) Cons c) ∙ told) in
    ap (λ u. u ∷ subsets_of t n.b) (some_same (as_subset (known t n.a)) parts.head head parts.is_head (sym h)) ∙ sym parts.all

pub cons_no_subset : (t : Table) (n : Node) → n.kind ≡ Cons → asked t n ≡ Some (subsets (subsets_in (asked t n))) → as_subset (known t n.a) ≡ None → ⊥
cons_no_subset t n c told h =
    let parts = subset_parts (known t n.a) (known t n.b) (subsets_in (asked t n)) (sym (by_kind (known t) (entry n) Cons c) ∙ told) in
    clash (as_subset (known t n.a)) parts.head parts.is_head h
  where
    clash : (o : Option (List Range)) (e : List Range) → o ≡ Some e → o ≡ None → ⊥
    clash o e p q = cc

-- ---- the places of the node that is put last

pub asked_kept : (old new : Table) (n : Node) → IsKept old new → asked new n ≡ asked old n
asked_kept old new n k = ap (λ (es : List Entry). node_extent (entry n) (map (extent es) (children n))) k.entries
