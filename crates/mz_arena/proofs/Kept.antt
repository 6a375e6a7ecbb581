-- A set that was put into the table, and sets that are made.
use Rattle.std.proofs.Common.{◌≡◌, ℕ, zero, suc, ◌<◌, ◌≤◌, List, [], ◌∷◌, ◌++◌, length, Bool, true, false, cond, Some, None, slice_get, get_or, refl, sym, ap, subst, ◌∙◌, inl, ⊎_elim, arith, length-append, Result, Ok, Err, IfOk}
use Rattle.std.proofs.lemmas.Option.{slice_get-get_or}
use Rattle.mz_value.specs.Ranges.{Range, AreCanonical, IsUnion, IsIntersection}
use Rattle.std.specs.Option.{option_and_then}
use Rattle.mz_operations.specs.declared.row.SetOp.{SetOp}
use Rattle.mz_operations.specs.Bounds.{combined_upper, hull_of_set}
use Rattle.mz_operations.specs.Sets.{union, intersection}
use Rattle.mz_operations.proofs.SetMembers.{union_is, intersection_is}
use Rattle.mz_operations.specs.Laws.{IsSet}
use Rattle.mz_arena_blocks.specs.Lists.{list_at}
use Rattle.mz_arena.specs.declared.table.Reach.{Reach}
use Rattle.mz_arena.specs.declared.table.Reach.TheVariants.{Whole, Truth, Subset, Wholes, Truths, Subsets, Empty}
use Rattle.mz_arena.specs.declared.table.Stored.{Stored}
use Rattle.mz_arena.specs.declared.table.Table.{Table}
use Rattle.mz_arena.specs.Entries.{Entry, is_set_const}
use Rattle.mz_arena.specs.Extents.{Known, subset, as_subset, marked, variable_extent, set_variable_extent, set_extent, extent}
use Rattle.mz_arena.specs.Arenas.{IsArena}
use Rattle.mz_arena.specs.Tables.{Sets, set_at, set_place, seen, entries, Tells, IsSubset, IsSound, IsSoundTable, HasLists, IsKept, IsPut}

-- ---- sets by their members

pub union_self : (a : List Range) → IsSet a → union a a ≡ a
union_self a p = sym (union_is a a a p p (λ x. (λ m. inl m, λ m. ⊎_elim (λ l. l) (λ l. l) m)) p.0)

-- ---- a table with one more set

pub set_kept : (sets : Sets) (s : List Range) (k : ℕ) → k < length sets → set_at (sets ++ s ∷ []) k ≡ set_at sets k
set_kept [] s k h = absurd (omega arith)
set_kept (t ∷ sets) s zero h = refl
set_kept (t ∷ sets) s (suc k) h = set_kept sets s k (omega arith)

pub set_last : (sets : Sets) (s : List Range) → set_at (sets ++ s ∷ []) (length sets) ≡ s
set_last [] s = refl
set_last (t ∷ sets) s = set_last sets s

pub tells_kept : (sets : Sets) (s : List Range) (r : Reach) (x : Known) → Tells sets r x → Tells (sets ++ s ∷ []) r x
tells_kept sets s (Whole i) x h = h
tells_kept sets s (Truth i) x h = h
tells_kept sets s (Subset k) x h = record { within = omega (arith, h.within, length-append sets (s ∷ [])); is = h.is ∙ ap (λ u. Some (subset u)) (sym (set_kept sets s k h.within)) }
tells_kept sets s Wholes x h = h
tells_kept sets s Truths x h = h
tells_kept sets s Subsets x h = h
tells_kept sets s Empty x h = h

abbrev ConstsIn : Sets → List Stored → Type 0
ConstsIn sets stored = (id : ℕ) (s : Stored) → slice_get stored id ≡ Some s → is_set_const s.node.kind ≡ true → set_place s.node < length sets

seen_kept : (sets : Sets) (s : List Range) (st : Stored) (b : Bool) → is_set_const st.node.kind ≡ b → (b ≡ true → set_place st.node < length sets) → cond b (set_at (sets ++ s ∷ []) (set_place st.node)) [] ≡ cond b (set_at sets (set_place st.node)) []
seen_kept sets s st true e h = set_kept sets s (set_place st.node) (h refl)
seen_kept sets s st false e h = refl

abbrev with_set : Stored → List Range → Entry
with_set st s = record { node = st.node; set = s }

pub entries_kept : (sets : Sets) (s : List Range) (stored : List Stored) → ConstsIn sets stored → entries (sets ++ s ∷ []) stored ≡ entries sets stored
unfolding entries
entries_kept sets s [] c = refl
entries_kept sets s (st ∷ stored) c =
    let head : seen (sets ++ s ∷ []) st ≡ seen sets st = ap (with_set st) (seen_kept sets s st (is_set_const st.node.kind) refl (c 0 st refl)) in
    let tail = entries_kept sets s stored (λ id t h. c (suc id) t h) in
    cc

last_set : (sets : Sets) (s t : List Range) (k : ℕ) → ((k : ℕ) (u : List Range) → slice_get sets k ≡ Some u → IsSet u) → IsSet s → slice_get (sets ++ s ∷ []) k ≡ Some t → IsSet t
last_set [] s t zero all p h = let same : s ≡ t = cc in subst (λ (u : List Range). IsSet u) same p
last_set [] s t (suc k) all p h = cc
last_set (u ∷ sets) s t zero all p h = all 0 t h
last_set (u ∷ sets) s t (suc k) all p h = last_set sets s t k (λ j v g. all (suc j) v g) p h

pub sound_kept : (sets : Sets) (s : List Range) (stored : List Stored) → IsSound sets stored → IsSet s → IsSound (sets ++ s ∷ []) stored
sound_kept sets s stored h p =
    let same = entries_kept sets s stored h.consts in
    record {
      arena = subst (λ es. IsArena es) (sym same) h.arena;
      tells = λ id st g. subst (λ es. Tells (sets ++ s ∷ []) st.reach (extent es id)) (sym same) (tells_kept sets s st.reach _ (h.tells id st g));
      long = h.long;
      consts = λ id st g c. omega (arith, h.consts id st g c, length-append sets (s ∷ []));
      canonical = λ k t g. last_set sets s t k h.canonical p g;
    }

-- a set at a place
pub set_there : (sets : Sets) (stored : List Stored) (k : ℕ) → IsSound sets stored → k < length sets → IsSet (set_at sets k)
set_there sets stored k h l = h.canonical k (set_at sets k) (slice_get-get_or sets k [] l)

pub set_read : (sets : Sets) (k : ℕ) (x : List Range) → k < length sets → x ≡ get_or sets k x → x ≡ set_at sets k
set_read [] k x l h = absurd (omega arith)
set_read (s ∷ sets) zero x l h = h
set_read (s ∷ sets) (suc k) x l h = set_read sets k x (omega arith) h

pub if_union : {E : Type 0} (r : Result (List Range) E) (sets : Sets) (stored : List Stored) (k m : ℕ) (a b : List Range) → IsSound sets stored → k < length sets → m < length sets → a ≡ get_or sets k a → b ≡ get_or sets m b → IfOk r (IsUnion a b) → IfOk r AreCanonical → IfOk r (λ s. s ≡ union (set_at sets k) (set_at sets m))
if_union (Err e) sets stored k m a b h l n p q u c = tt
if_union (Ok s) sets stored k m a b h l n p q u c =
    let sa = set_read sets k a l p in
    let sb = set_read sets m b n q in
    union_is (set_at sets k) (set_at sets m) s (set_there sets stored k h l) (set_there sets stored m h n) (subst (λ y. IsUnion (set_at sets k) y s) sb (subst (λ y. IsUnion y b s) sa u)) c

pub if_intersection : {E : Type 0} (r : Result (List Range) E) (sets : Sets) (stored : List Stored) (k m : ℕ) (a b : List Range) → IsSound sets stored → k < length sets → m < length sets → a ≡ get_or sets k a → b ≡ get_or sets m b → IfOk r (IsIntersection a b) → IfOk r AreCanonical → IfOk r (λ s. s ≡ intersection (set_at sets k) (set_at sets m))
if_intersection (Err e) sets stored k m a b h l n p q u c = tt
if_intersection (Ok s) sets stored k m a b h l n p q u c =
    let sa = set_read sets k a l p in
    let sb = set_read sets m b n q in
    intersection_is (set_at sets k) (set_at sets m) s (set_there sets stored k h l) (set_there sets stored m h n) (subst (λ y. IsIntersection (set_at sets k) y s) sb (subst (λ y. IsIntersection y b s) sa u)) c

same_lists : {T : Type 0} (old new : List (List T)) → new ≡ old → HasLists old new
same_lists old new p = record { longer = omega (arith, ap length p); same = λ k l. ap (λ ls. list_at ls k) p }

pub is_kept : (old new : Table) (s : List Range) → new.wholes ≡ old.wholes → new.subsets ≡ old.subsets → new.stored.items ≡ old.stored.items → new.sets.items ≡ old.sets.items ++ s ∷ [] → IsSoundTable old → IsSet s → IsKept old new
is_kept old new s w v p q h l = record {
  wholes = same_lists old.wholes new.wholes w;
  subsets = same_lists old.subsets new.subsets v;
  stored = p;
  entries = ap (λ sets. entries sets new.stored.items) q ∙ ap (entries (old.sets.items ++ s ∷ [])) p ∙ entries_kept old.sets.items s old.stored.items h.consts;
  sound = subst (λ sets. IsSound sets new.stored.items) (sym q) (subst (λ stored. IsSound (old.sets.items ++ s ∷ []) stored) (sym p) (sound_kept old.sets.items s old.stored.items h l));
}

pub is_put : (t : Table) (old : Sets) (s : List Range) (k : ℕ) → t.sets.items ≡ old ++ s ∷ [] → k ≡ length old → IsPut t k s
is_put t old s k p q = record {
  within = omega (arith, ap length p, length-append old (s ∷ []));
  is = ap (λ sets. set_at sets k) p ∙ ap (set_at (old ++ s ∷ [])) q ∙ set_last old s;
}

pub same_kept : (t : Table) → IsSoundTable t → IsKept t t
same_kept t h = record {
  wholes = same_lists t.wholes t.wholes refl;
  subsets = same_lists t.subsets t.subsets refl;
  stored = refl;
  entries = refl;
  sound = h;
}

lists_lists : {T : Type 0} (old mid new : List (List T)) → HasLists old mid → HasLists mid new → HasLists old new
lists_lists old mid new p q = record {
  longer = omega (arith, p.longer, q.longer);
  same = λ k l. q.same k (omega (arith, l, p.longer)) ∙ p.same k l;
}

pub kept_kept : (t u v : Table) → IsKept t u → IsKept u v → IsKept t v
kept_kept t u v p q = record {
  wholes = lists_lists t.wholes u.wholes v.wholes p.wholes q.wholes;
  subsets = lists_lists t.subsets u.subsets v.subsets p.subsets q.subsets;
  stored = q.stored ∙ p.stored;
  entries = q.entries ∙ p.entries;
  sound = q.sound;
}

-- ---- bounds of sets

pub set_extent_of : (op : SetOp) (x y : Known) (u w : List Range) → as_subset x ≡ Some u → as_subset y ≡ Some w → set_extent op x y ≡ Some (subset (combined_upper op u w))
unfolding set_extent
set_extent_of op x y u w h k = ap (λ o. option_and_then (λ a. option_and_then (λ b. Some (subset (combined_upper op a b))) (as_subset y)) o) h ∙ ap (λ o. option_and_then (λ b. Some (subset (combined_upper op u b))) o) k

pub no_first : (op : SetOp) (x y : Known) → as_subset x ≡ None → set_extent op x y ≡ None
unfolding set_extent
no_first op x y h = ap (λ o. option_and_then (λ a. option_and_then (λ b. Some (subset (combined_upper op a b))) (as_subset y)) o) h

pub no_second : (op : SetOp) (x y : Known) (u : List Range) → as_subset x ≡ Some u → as_subset y ≡ None → set_extent op x y ≡ None
unfolding set_extent
no_second op x y u h k = ap (λ o. option_and_then (λ a. option_and_then (λ b. Some (subset (combined_upper op a b))) (as_subset y)) o) h ∙ ap (λ o. option_and_then (λ b. Some (subset (combined_upper op u b))) o) k

pub put_told : (t : Table) (place : ℕ) (s : List Range) (x : Known) → IsPut t place s → x ≡ Some (subset s) → IsSubset t.sets.items place x
put_told t place s x p h = record { within = p.within; is = h ∙ ap (λ u. Some (subset u)) (sym p.is) }

pub same_put : (t : Table) (k m : ℕ) → IsSoundTable t → k < length t.sets.items → k ≡ m → IsPut t k (union (set_at t.sets.items k) (set_at t.sets.items m))
same_put t k m h l e = record {
  within = l;
  is = sym (ap (λ j. union (set_at t.sets.items k) (set_at t.sets.items j)) (sym e) ∙ union_self (set_at t.sets.items k) (set_there t.sets.items t.stored.items k h l));
}

pub variable_extent_of : (mark : ℕ) (x : Known) (u : List Range) → as_subset x ≡ Some u → variable_extent mark x ≡ marked mark (hull_of_set u)
unfolding variable_extent
variable_extent_of mark x u h = ap (λ o. option_and_then (λ v. marked mark (hull_of_set v)) o) h

pub no_variable : (mark : ℕ) (x : Known) → as_subset x ≡ None → variable_extent mark x ≡ None
unfolding variable_extent
no_variable mark x h = ap (λ o. option_and_then (λ v. marked mark (hull_of_set v)) o) h

pub set_variable_of : (x : Known) (u : List Range) → as_subset x ≡ Some u → set_variable_extent x ≡ Some (subset u)
unfolding set_variable_extent
set_variable_of x u h = ap (λ o. option_and_then (λ v. Some (subset v)) o) h

pub no_set_variable : (x : Known) → as_subset x ≡ None → set_variable_extent x ≡ None
unfolding set_variable_extent
no_set_variable x h = ap (λ o. option_and_then (λ v. Some (subset v)) o) h
