-- What a call that tests and makes a node tells.
use Rattle.std.proofs.Common.{◌≡◌, ℕ, ◌+◌, ◌≤◌, List, [], ◌∷◌, ◌++◌, length, map, ◌<◌, Bool, true, false, cond, IsSome, Option, Some, None, Result, Ok, Err, IfOk, IfSome, inl, inr, nat_abs, refl, sym, ap, subst, ◌∙◌, arith, length-append, append-nil}
use Rattle.mz_arena.specs.declared.node.Node.{Node}
use Rattle.mz_arena.specs.Entries.{Entry, entry, is_free, is_local}
use Rattle.mz_arena.specs.Charges.{charge_of, charges}
use Rattle.mz_arena.specs.Numbering.{local_ids}
use Rattle.mz_arena.specs.Arenas.{IsSetConst, Grew, Extends, Made, MadeAnew, HasAtMost, IsChecked}
use Rattle.mz_arena.specs.declared.node.NodeKind.{NodeKind}
use Rattle.mz_arena.specs.declared.node.NodeKind.TheVariants.{Local, SetLocal}
use Rattle.mz_arena.specs.declared.table.Reach.{Reach}
use Rattle.mz_arena.specs.declared.table.Stored.{Stored}
use Rattle.mz_arena.specs.declared.table.Table.{Table}
use Rattle.mz_arena.specs.Entries.{children, AllBelow}
use Rattle.mz_arena.specs.Extents.{Known, node_extent, extent}
use Rattle.mz_arena.specs.Numbering.{local_ids_from}
use Rattle.mz_arena.specs.Arenas.{IsAsked}
use Rattle.mz_arena.specs.Tables.{seen, entries, asked, wholes_in, subsets_in, has_wholes, has_subsets, Tells, TellsAny, TellsIn, IsKept, IsLongCons, IsReady, IsPushed, IsSoundTable}
use Rattle.mz_arena.specs.StepsAsked.{may_stand, IsLast, Puts, IsSoundArena}
use Rattle.mz_arena.specs.Places.{wholes_listed, subsets_listed, HasPlace, HasPlaces, IsListedTable}
use Rattle.mz_arena.proofs.Placing.{kept_listed}
use Rattle.mz_arena.proofs.Tested.{is_asked}
use Rattle.mz_arena.proofs.Growing.{grew_same, local_ids-push}
use Rattle.mz_arena.proofs.Pushed.{told_some, seen_plain, put_is, pushed_grew, pushed_extends, pushed_made, pushed_charges}
use Rattle.mz_arena.proofs.Folds.{get-below}

pub at_most_grew : (old new : List Entry) (e : Entry) → HasAtMost old new e → Grew old new
at_most_grew old new e (inl p) = subst (λ (fs : List Entry). Grew old fs) (sym p) (grew_same old)
at_most_grew old new e (inr p) = pushed_grew old new e p

pub at_most_extends : (old new : List Entry) (e : Entry) → HasAtMost old new e → is_free e.node.kind ≡ false → Extends old new
at_most_extends old new e (inl p) f = subst (λ (fs : List Entry). Extends old fs) (sym p) (record { grew = grew_same old; frees = λ id d h g. get-below old id d h })
at_most_extends old new e (inr p) f = pushed_extends old new e p f

pub at_most_charges : (old new : List Entry) (e : Entry) → HasAtMost old new e → charges new ≤ charges old + charge_of e.node.kind
at_most_charges old new e (inl p) = let same = ap charges p in omega (arith, same)
at_most_charges old new e (inr p) = let more = pushed_charges old new e p in omega (arith, more)

module _ (old new : List Entry) (n : Node) (id : ℕ) (p : IsLast old new n id) where
  pub last_at_most : HasAtMost old new (entry n)
  last_at_most = inr p.items

  pub last_made : Made new (entry n) id
  last_made = pushed_made old new (entry n) id p.items p.place p.asked.below

  pub last_anew : MadeAnew old new n id
  last_anew = record { last = p.place; items = p.items }

module _ {E : Type 0} (old new : List Entry) (n : Node) where
  pub last_of : (r : Result (Option ℕ) E) (o : Option ℕ) (id : ℕ) → r ≡ Ok o → o ≡ Some id → Puts old new n r → IsLast old new n id
  last_of r o id is some p = subst (λ (q : Result (Option ℕ) E). Puts old new n q) (is ∙ ap (λ u. Ok u) some) p

  pub puts_at_most : (r : Result (Option ℕ) E) → Puts old new n r → HasAtMost old new (entry n)
  puts_at_most (Err x) p = inl p
  puts_at_most (Ok None) p = inl p.same
  puts_at_most (Ok (Some id)) p = inr p.items

  pub puts_checked : (r : Result (Option ℕ) E) → Puts old new n r → IfOk r (IsChecked old new n)
  puts_checked (Err x) p = tt
  puts_checked (Ok None) p = p
  puts_checked (Ok (Some id)) p = record { asked = p.asked; made = last_made old new n id p }

  pub puts_anew : (r : Result (Option ℕ) E) → Puts old new n r → IfOk r (λ o. IfSome o (MadeAnew old new n))
  puts_anew (Err x) p = tt
  puts_anew (Ok None) p = tt
  puts_anew (Ok (Some id)) p = last_anew old new n id p

-- ---- the count of choices

pub choices_pushed : (old new : List Entry) (e : Entry) → new ≡ old ++ e ∷ [] → is_local e.node.kind ≡ true → length (local_ids new) ≡ length (local_ids old) + 1
choices_pushed old new e p l =
    ap (λ (es : List Entry). length (local_ids es)) p ∙ ap length (local_ids-push old e ∙ ap (λ b. local_ids old ++ cond b (length old ∷ []) []) l) ∙ length-append (local_ids old) (length old ∷ [])

pub choices_same : (old new : List Entry) (e : Entry) → new ≡ old ++ e ∷ [] → is_local e.node.kind ≡ false → length (local_ids new) ≡ length (local_ids old)
choices_same old new e p l =
    ap (λ (es : List Entry). length (local_ids es)) p ∙ ap length (local_ids-push old e ∙ ap (λ b. local_ids old ++ cond b (length old ∷ []) []) l ∙ append-nil (local_ids old))

choices_from-le : (k : ℕ) (es : List Entry) → length (local_ids_from k es) ≤ length es
unfolding local_ids_from
choices_from-le k [] = omega arith
choices_from-le k (e ∷ es) = by (is_local e.node.kind) (choices_from-le (k + 1) es)
  where
    by : (b : Bool) → length (local_ids_from (k + 1) es) ≤ length es → length (cond b (k ∷ local_ids_from (k + 1) es) (local_ids_from (k + 1) es)) ≤ length (e ∷ es)
    by true h = omega arith
    by false h = omega arith

pub choices-le : (es : List Entry) → length (local_ids es) ≤ length es
unfolding local_ids
choices-le es = choices_from-le 0 es

pub no_choices : length (local_ids []) ≡ 0
unfolding local_ids local_ids_from
no_choices = refl

-- ---- the node that is put last

abbrev view : Table → List Entry
view t = entries t.sets.items t.stored.items

local_free : (k : NodeKind) → is_local k ≡ true → is_free k ≡ true
local_free Local h = refl
local_free SetLocal h = refl
local_free _ h = cc

abbrev kept : Node → Reach → ℕ → Stored
kept n r place = record { node = n; reach = r; place = place }

-- the table before and after the node's bounds were found, of which some may be a new set
module _ (old new : Table) (es : List Entry) (n : Node) (r : Reach) (place : ℕ) (v : view old ≡ es) (k : IsKept old new) (o : Option Reach) (is : o ≡ Some r) (tells : TellsIn new o (asked old n)) (m : may_stand es n ≡ true) where
  t : Tells new.sets.items r (asked old n)
  t = subst (λ (q : Option Reach). TellsIn new q (asked old n)) is tells

  pub put_asked : IsAsked es n
  put_asked = is_asked es n m (subst (λ (fs : List Entry). IsSome (node_extent (entry n) (map (extent fs) (children n)))) v (told_some new.sets.items r (asked old n) t))

  same : view new ≡ es
  same = k.entries ∙ v

  told : Tells new.sets.items r (node_extent (seen new.sets.items (kept n r place)) (map (extent (view new)) (children n)))
  told =
      subst (λ (fs : List Entry). Tells new.sets.items r (node_extent (seen new.sets.items (kept n r place)) (map (extent fs) (children n)))) (sym k.entries)
      (subst (λ (d : Entry). Tells new.sets.items r (node_extent d (map (extent (view old)) (children n)))) (sym (seen_plain new.sets.items (kept n r place) put_asked.other)) t)

  pub put_ready : IsLongCons n.kind o → IsReady new.sets.items new.stored.items (kept n r place)
  put_ready l = record {
    below = subst (λ (fs : List Entry). AllBelow (length fs) (children n)) (sym same) put_asked.below;
    told = told;
    long = subst (λ (q : Option Reach). IsLongCons n.kind q) is l;
    const = λ h. let other = put_asked.other in cc;
    own = λ f. ap nat_abs (put_asked.free f).own ∙ ap length (sym same);
    domain = λ f. subst (λ (fs : List Entry). IsSetConst fs n.a) (sym same) (put_asked.free f).domain;
    next = λ h. (put_asked.free (local_free n.kind h)).next h ∙ ap (λ (fs : List Entry). length (local_ids fs)) (sym same);
  }

  asked_same : asked old n ≡ node_extent (seen new.sets.items (kept n r place)) (map (extent (view new)) (children n))
  asked_same = ap (λ (d : Entry). node_extent d (map (extent (view old)) (children n))) (sym (seen_plain new.sets.items (kept n r place) put_asked.other)) ∙ ap (λ (fs : List Entry). node_extent (seen new.sets.items (kept n r place)) (map (extent fs) (children n))) (sym k.entries)

  pub put_places : (x : Known) → x ≡ asked old n → (has_wholes r ≡ true → HasPlace (wholes_listed new) (length new.wholes) place (wholes_in x)) → (has_subsets r ≡ true → HasPlace (subsets_listed new) (length new.subsets) place (subsets_in x)) → HasPlaces new (kept n r place)
  put_places x e w u = record {
    wholes = λ h. subst (λ (y : Known). HasPlace (wholes_listed new) (length new.wholes) place (wholes_in y)) (e ∙ asked_same) (w h);
    subsets = λ h. subst (λ (y : Known). HasPlace (subsets_listed new) (length new.subsets) place (subsets_in y)) (e ∙ asked_same) (u h);
  }

  pub put_last : (last : Table) (id : ℕ) → IsPushed new last (kept n r place) id → IsLast es (view last) n id
  put_last last id p = record {
    asked = put_asked;
    place = p.place ∙ ap length same;
    items = put_is new last es (kept n r place) p.entries same put_asked.other;
  }

  pub count_fits : (last : Table) (id choices : ℕ) → IsPushed new last (kept n r place) id → IsSoundArena old choices → choices < length (view last)
  count_fits last id choices p a =
      let items = put_is new last es (kept n r place) p.entries same put_asked.other in
      let longer = ap length items in
      let one = length-append es (entry n ∷ []) in
      let same_length = ap length v in
      omega (arith, choices-le (view old), a.count)

  pub count_next : (last : Table) (id choices : ℕ) → IsPushed new last (kept n r place) id → IsSoundArena old choices → IsSoundTable last → IsListedTable last → is_local n.kind ≡ true → IsSoundArena last (choices + 1)
  count_next last id choices p a s w l =
      let items = put_is new last es (kept n r place) p.entries same put_asked.other in
      let more = choices_pushed es (view last) (entry n) items l in
      let before = ap (λ (fs : List Entry). length (local_ids fs)) v in
      record { table = s; lists = w; count = omega (arith, more, before, a.count) }

  pub count_same : (last : Table) (id choices : ℕ) → IsPushed new last (kept n r place) id → IsSoundArena old choices → IsSoundTable last → IsListedTable last → is_local n.kind ≡ false → IsSoundArena last choices
  count_same last id choices p a s w l =
      let items = put_is new last es (kept n r place) p.entries same put_asked.other in
      record { table = s; lists = w; count = a.count ∙ ap (λ (fs : List Entry). length (local_ids fs)) v ∙ sym (choices_same es (view last) (entry n) items l) }

-- a table whose sets and lists may be more
pub arena_kept : (old new : Table) (choices : ℕ) → IsKept old new → IsSoundArena old choices → IsSoundArena new choices
arena_kept old new choices k a = record { table = k.sound; lists = kept_listed old new k a.lists; count = a.count ∙ ap (λ (es : List Entry). length (local_ids es)) (sym k.entries) }

pub told_kept : (old new : Table) (o : Option Reach) (x : Known) → new.sets.items ≡ old.sets.items → TellsIn old o x → TellsIn new o x
told_kept old new o x p h = subst (λ sets. TellsAny sets o x) (sym p) h
