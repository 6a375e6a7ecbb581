-- A node that was put into the table.
use Rattle.std.proofs.Common.{◌≡◌, ℕ, ◌+◌, ◌<◌, List, [], ◌∷◌, ◌++◌, length, Bool, true, false, cond, Option, Some, None, IsSome, option_map, ◌⊎◌, inl, inr, slice_get, get_or, refl, sym, ap, subst, ◌∙◌, arith, length-append}
use Rattle.std.proofs.lemmas.Bool.{cases_lt}
use Rattle.mz_value.specs.Ranges.{Range}
use Rattle.mz_operations.specs.Laws.{IsSet}
use Rattle.mz_arena.specs.declared.table.Reach.{Reach}
use Rattle.mz_arena.specs.declared.table.Reach.TheVariants.{Whole, Truth, Subset, Wholes, Truths, Subsets, Empty}
use Rattle.mz_arena.specs.declared.table.Stored.{Stored}
use Rattle.mz_arena.specs.declared.table.Table.{Table}
use Rattle.mz_arena.specs.declared.node.Node.{Node}
use Rattle.mz_arena.specs.Entries.{Entry, entry, children, AllBelow, is_free, is_set_const}
use Rattle.mz_arena.specs.Charges.{charge_of, charges}
use Rattle.mz_arena.specs.Arenas.{IsArena, IsSetConst, IsConst, Grew, Extends, Made}
use Rattle.mz_arena.specs.Extents.{Known, as_subset, extent}
use Rattle.mz_arena.specs.Tables.{Sets, set_at, set_place, is_long, seen, entries, Tells, IsSound, IsSoundTable, IsReady, IsPushed, IsPut, IsPushedConst, const_node}
use Rattle.mz_arena.proofs.Folds.{get-append, get-last, get-below}
use Rattle.mz_arena.proofs.Growing.{const_extent, grew_append, extent_last, arena_push, arena_empty, extends_push, made_last, charges-push}
use Rattle.mz_arena.proofs.Lists.{there}
use Rattle.mz_arena.proofs.Kept.{set_read, set_there}
use Rattle.mz_arena.proofs.Telling.{length-entries, get-entries}

pub entries-push : (sets : Sets) (stored : List Stored) (s : Stored) → entries sets (stored ++ s ∷ []) ≡ entries sets stored ++ seen sets s ∷ []
unfolding entries
entries-push sets [] s = refl
entries-push sets (t ∷ stored) s = ap (λ es. seen sets t ∷ es) (entries-push sets stored s)

-- a kept node is an old one or the last
pub old_or_new : (stored : List Stored) (s t : Stored) (id : ℕ) → slice_get (stored ++ s ∷ []) id ≡ Some t → ((id < length stored) × (slice_get stored id ≡ Some t)) ⊎ ((id ≡ length stored) × (t ≡ s))
old_or_new stored s t id h =
    let below = get-below (stored ++ s ∷ []) id t h in
    elim (cases_lt id (length stored)) [
      | inl l ↦ inl (l, sym (get-append stored (s ∷ []) id l) ∙ h)
      | inr g ↦
          let last : id ≡ length stored = omega (arith, length-append stored (s ∷ [])) in
          inr (last, same (ap (slice_get (stored ++ s ∷ [])) last) h (get-last stored s))
    ]
  where
    same : {p q : Option Stored} → p ≡ q → p ≡ Some t → q ≡ Some s → t ≡ s
    same r k l = cc

pub told_some : (sets : Sets) (r : Reach) (x : Known) → Tells sets r x → IsSome x
told_some sets (Whole i) x h = subst (λ (y : Known). IsSome y) (sym h) refl
told_some sets (Truth i) x h = subst (λ (y : Known). IsSome y) (sym h) refl
told_some sets (Subset k) x h = subst (λ (y : Known). IsSome y) (sym h.is) refl
told_some sets Wholes x h = subst (λ (y : Known). IsSome y) (sym h) refl
told_some sets Truths x h = subst (λ (y : Known). IsSome y) (sym h) refl
told_some sets Subsets x h = subst (λ (y : Known). IsSome y) (sym h) refl
told_some sets Empty x h = subst (λ (y : Known). IsSome y) (sym h) refl

-- the set with which a SetConst is seen
seen_set : (sets : Sets) (n : Node) (b : Bool) → is_set_const n.kind ≡ b → b ≡ true → IsSet (set_at sets (set_place n)) → IsSet (cond b (set_at sets (set_place n)) [])
seen_set sets n true e c h = h
seen_set sets n false e c h = absurd (cc)

pub sound_push : (sets : Sets) (stored : List Stored) (s : Stored) → IsSound sets stored → IsReady sets stored s → IsSound sets (stored ++ s ∷ [])
sound_push sets stored s h r =
    let es = entries sets stored in
    let e = seen sets s in
    let new = es ++ e ∷ [] in
    let same : entries sets (stored ++ s ∷ []) ≡ new = entries-push sets stored s in
    record {
      arena = subst (λ (fs : List Entry). IsArena fs) (sym same) (arena_push es e h.arena r.below (told_some sets s.reach _ r.told) r.own r.next r.domain (λ c. seen_set sets s.node (is_set_const s.node.kind) refl c (set_there sets stored (set_place s.node) h (r.const c))));
      tells = λ id t g. subst (λ (fs : List Entry). Tells sets t.reach (extent fs id)) (sym same) (elim (old_or_new stored s t id g) [
        | inl o ↦ subst (Tells sets t.reach) (sym ((grew_append es (e ∷ [])).extents id (omega (arith, o.0, length-entries sets stored)))) (h.tells id t o.1)
        | inr n ↦
            let place : id ≡ length es = n.0 ∙ sym (length-entries sets stored) in
            subst (λ (u : Stored). Tells sets u.reach (extent new id)) (sym n.1) (subst (Tells sets s.reach) (sym (ap (extent new) place ∙ extent_last es e r.below)) r.told)
      ]);
      long = λ id t g l. elim (old_or_new stored s t id g) [
        | inl o ↦ h.long id t o.1 l
        | inr n ↦ ap (λ (u : Stored). u.node.kind) n.1 ∙ r.long (ap (λ (u : Stored). is_long u.reach) (sym n.1) ∙ l)
      ];
      consts = λ id t g l. elim (old_or_new stored s t id g) [
        | inl o ↦ h.consts id t o.1 l
        | inr n ↦ subst (λ (u : Stored). set_place u.node < length sets) (sym n.1) (r.const (ap (λ (u : Stored). is_set_const u.node.kind) (sym n.1) ∙ l))
      ];
      canonical = h.canonical;
    }

pub is_pushed : (old new : Table) (s : Stored) (id : ℕ) → new.sets.items ≡ old.sets.items → new.stored.items ≡ old.stored.items ++ s ∷ [] → id ≡ length old.stored.items → IsPushed old new s id
is_pushed old new s id p q k = record {
  place = k ∙ sym (length-entries old.sets.items old.stored.items);
  entries = ap (λ sets. entries sets new.stored.items) p ∙ ap (entries old.sets.items) q ∙ entries-push old.sets.items old.stored.items s;
}

pub sound_pushed : (old new : Table) (s : Stored) → new.sets.items ≡ old.sets.items → new.stored.items ≡ old.stored.items ++ s ∷ [] → IsSoundTable old → IsReady old.sets.items old.stored.items s → IsSoundTable new
sound_pushed old new s p q h r = subst (λ sets. IsSound sets new.stored.items) (sym p) (subst (λ stored. IsSound old.sets.items stored) (sym q) (sound_push old.sets.items old.stored.items s h r))

-- ---- what an arena promises of the last node

pub pushed_grew : (old new : List Entry) (e : Entry) → new ≡ old ++ e ∷ [] → Grew old new
pushed_grew old new e p = subst (λ (fs : List Entry). Grew old fs) (sym p) (grew_append old (e ∷ []))

pub pushed_extends : (old new : List Entry) (e : Entry) → new ≡ old ++ e ∷ [] → is_free e.node.kind ≡ false → Extends old new
pushed_extends old new e p f = subst (λ (fs : List Entry). Extends old fs) (sym p) (extends_push old e f)

pub pushed_made : (old new : List Entry) (e : Entry) (id : ℕ) → new ≡ old ++ e ∷ [] → id ≡ length old → AllBelow (length old) (children e.node) → Made new e id
pushed_made old new e id p q b = subst (λ (fs : List Entry). Made fs e id) (sym p) (subst (λ i. Made (old ++ e ∷ []) e i) (sym q) (made_last old e b))

pub pushed_charges : (old new : List Entry) (e : Entry) → new ≡ old ++ e ∷ [] → charges new ≡ charges old + charge_of e.node.kind
pushed_charges old new e p = ap charges p ∙ charges-push old e

-- a node that is no SetConst is seen without a set
seen_entry : (sets : Sets) (n : Node) (b : Bool) → is_set_const n.kind ≡ b → b ≡ false → cond b (set_at sets (set_place n)) [] ≡ []
seen_entry sets n true h k = cc
seen_entry sets n false h k = refl

abbrev pub with_set : Node → List Range → Entry
with_set n s = record { node = n; set = s }

pub seen_plain : (sets : Sets) (s : Stored) → is_set_const s.node.kind ≡ false → seen sets s ≡ entry s.node
seen_plain sets s h = ap (with_set s.node) (seen_entry sets s.node (is_set_const s.node.kind) refl h)

pub put_is : (t new : Table) (old : List Entry) (s : Stored) → entries new.sets.items new.stored.items ≡ entries t.sets.items t.stored.items ++ seen t.sets.items s ∷ [] → entries t.sets.items t.stored.items ≡ old → is_set_const s.node.kind ≡ false → entries new.sets.items new.stored.items ≡ old ++ entry s.node ∷ []
put_is t new old s p q k = p ∙ ap (λ es. es ++ seen t.sets.items s ∷ []) q ∙ ap (λ e. old ++ e ∷ []) (seen_plain t.sets.items s k)

pub const_is : (t new : Table) (old : List Entry) (place id : ℕ) (set : List Range) → IsPushedConst t new place id → entries t.sets.items t.stored.items ≡ old → IsPut t place set → entries new.sets.items new.stored.items ≡ old ++ with_set (const_node place) set ∷ []
const_is t new old place id set p q k = p.pushed ∙ ap (λ es. es ++ with_set (const_node place) (set_at t.sets.items place) ∷ []) q ∙ ap (λ s. old ++ with_set (const_node place) s ∷ []) k.is

pub const_made : (old new : List Entry) (place id : ℕ) (set : List Range) → new ≡ old ++ with_set (const_node place) set ∷ [] → id ≡ length old → IsConst new set id
const_made old new place id set p q = record { node = const_node place; const = refl; made = pushed_made old new (with_set (const_node place) set) id p q tt }

pub same_charges : (old new : List Entry) (place : ℕ) (set : List Range) → new ≡ old ++ with_set (const_node place) set ∷ [] → charges new ≡ charges old
same_charges old new place set p = pushed_charges old new (with_set (const_node place) set) p ∙ omega arith

-- ---- reading

pub sound_empty : (sets : Sets) (stored : List Stored) → sets ≡ [] → stored ≡ [] → IsSound sets stored
unfolding entries
sound_empty [] [] p q = record { arena = arena_empty; tells = λ id s h. cc; long = λ id s h l. cc; consts = λ id s h l. cc; canonical = λ k s h. cc }
sound_empty [] (s ∷ ss) p q = absurd (cc)
sound_empty (s ∷ ss) stored p q = absurd (cc)

pub entries_empty : (sets : Sets) (stored : List Stored) → stored ≡ [] → entries sets stored ≡ []
unfolding entries
entries_empty sets [] q = refl
entries_empty sets (s ∷ ss) q = absurd (cc)

-- a node that was read
pub entry_read : (sets : Sets) (stored : List Stored) (es : List Entry) (id : ℕ) (s : Stored) → entries sets stored ≡ es → id < length stored → s ≡ get_or stored id s → slice_get es id ≡ Some (seen sets s)
entry_read sets stored es id s v l h = ap (λ fs. slice_get fs id) (sym v) ∙ get-entries sets stored id ∙ ap (option_map (seen sets)) (there stored id s l h)

pub node_read : (sets : Sets) (stored : List Stored) (es : List Entry) (id : ℕ) (s : Stored) → entries sets stored ≡ es → id < length stored → s ≡ get_or stored id s → option_map (λ e. e.node) (slice_get es id) ≡ Some s.node
node_read sets stored es id s v l h = ap (option_map (λ (e : Entry). e.node)) (entry_read sets stored es id s v l h)

pub length_seen : (sets : Sets) (stored : List Stored) (es : List Entry) → entries sets stored ≡ es → length es ≡ length stored
length_seen sets stored es v = ap length (sym v) ∙ length-entries sets stored

pub const_given : (sets : Sets) (stored : List Stored) (es : List Entry) (id : ℕ) → IsSound sets stored → entries sets stored ≡ es → (k : IsSetConst es id) → as_subset (extent (entries sets stored) id) ≡ Some k.there.set
const_given sets stored es id sound v k =
    let arena : IsArena es = subst (λ (fs : List Entry). IsArena fs) v sound.arena in
    ap as_subset (ap (λ (fs : List Entry). extent fs id) v ∙ const_extent es id arena k)

pub not_given : {A : Type 0} (o : Option A) (x : A) → o ≡ Some x → o ≡ None → ⊥
not_given o x h k = cc

pub set_given : (sets : Sets) (es : List Entry) (id place : ℕ) (k : IsSetConst es id) (o : Option (List Range)) (x : List Range) → o ≡ Some k.there.set → o ≡ Some (set_at sets place) → place < length sets → x ≡ get_or sets place x → option_map (λ e. e.set) (slice_get es id) ≡ Some x
set_given sets es id place k o x h g l r = ap (option_map (λ (e : Entry). e.set)) k.stands ∙ sym h ∙ g ∙ ap (λ y. Some y) (sym (set_read sets place x l r))
