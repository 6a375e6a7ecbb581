-- What the rows of roots take.
use Rattle.std.proofs.Common.{◌≡◌, ℕ, zero, suc, ◌+◌, ◌<◌, Bool, true, false, List, [], ◌∷◌, ◌++◌, length, map, take, Option, Some, None, IsSome, slice_get, refl, sym, ap, subst, ◌∙◌, arith}
use Rattle.std.specs.List.{AllByRecursion}
use Rattle.mz_arena.specs.declared.node.Node.{Node}
use Rattle.mz_arena.specs.declared.node.NodeKind.{NodeKind}
use Rattle.mz_arena.specs.declared.node.NodeKind.TheVariants as kinds
use Rattle.mz_arena.specs.Entries.{Entry, arity, children}
use Rattle.mz_arena.specs.Extents.{Known, extent}
use Rattle.mz_partial.specs.Totals.{IsTotal}
use Rattle.fz_program.specs.declared.row_name.RowName.{RowName}
use Rattle.fz_program.specs.declared.row_name.RowName.TheVariants as rows
use Rattle.flat_reif_rows.specs.Standing.{extent_over}
use Rattle.flat_reif_rows.specs.NodeRows.{row_of_two}
use Rattle.flat_reif_rows.specs.RootRows.{test_of}
use Rattle.flat_reif_rows.specs.Laws.{is_own}
use Rattle.flat_reif.specs.States.{State, IsState}
use Rattle.flat_reif.specs.Lists.{IsNode, HasArg, IsGiven}
use Rattle.flat_reif.specs.Below.{FlattenedBelow}
use Rattle.flat_reif.proofs.Nodes.{extent_told}
use Rattle.flat_reif.proofs.Kids.{Single, truth_single, two_kids}
use Rattle.flat_reif.proofs.Given.{has_arg}
use Rattle.flat_root.specs.Marks.{AreMarked, AreTotalIds}
use Rattle.flat_root.specs.Totals.{IsRoot, IsRootPart, AreRootParts, AreRoots}
use Rattle.flat_root.specs.Posts.{is_constant, seeds_by, seeds, seeds_of, seeds_at, all_seeds, ArePostable}
use Rattle.flat_root.proofs.Marking.{total_children, take_next}

-- ---- an entry

pub record IsEntry (es : List Entry) (id : ℕ) : Type 0 where
  pub entry : Entry
  pub is : slice_get es id ≡ Some entry

pub entry_at : (es : List Entry) (id : ℕ) → id < length es → IsEntry es id
entry_at [] id h = absurd (omega (arith, h))
entry_at (e ∷ es) zero h = record { entry = e; is = refl }
entry_at (e ∷ es) (suc id) h = let t = entry_at es id (omega (arith, h)) in record { entry = t.entry; is = t.is }

pub seeds_are : (es : List Entry) (id : ℕ) (n : Node) → IsNode es id n → seeds_at es id ≡ seeds n id
seeds_are es id n h = ap (λ o. seeds_of o id) h.is ∙ ap (λ (m : Node). seeds m id) h.node

all_by : (P : ℕ → Type 0) (es : List Entry) (id : ℕ) (e : Entry) → slice_get es id ≡ Some e → AllByRecursion P (seeds e.node id) → AllByRecursion P (seeds_at es id)
all_by P es id e is h = subst (λ o. AllByRecursion P (seeds_of o id)) (sym is) h

-- ---- seeds are total, and no lists

two_children : (k : NodeKind) (name : RowName) → test_of k ≡ Some name → (arity k ≡ 2) × (is_own k ≡ false)
two_children kinds.Eq name h = (refl, refl)
two_children kinds.Ne name h = (refl, refl)
two_children kinds.Le name h = (refl, refl)
two_children kinds.Lt name h = (refl, refl)
two_children kinds.Or name h = (refl, refl)
two_children kinds.Iff name h = (refl, refl)
two_children kinds.Member name h = (refl, refl)
two_children kinds.SetEq name h = (refl, refl)
two_children kinds.Subset name h = (refl, refl)
two_children _ name h = absurd (cc)

record HasRow (k : NodeKind) : Type 0 where
  name : RowName
  row : row_of_two k ≡ Some name

test_row : (k : NodeKind) (name : RowName) → test_of k ≡ Some name → HasRow k
test_row kinds.Eq name h = record { name = rows.IntEqReif; row = refl }
test_row kinds.Ne name h = record { name = rows.IntNeReif; row = refl }
test_row kinds.Le name h = record { name = rows.IntLeReif; row = refl }
test_row kinds.Lt name h = record { name = rows.IntLtReif; row = refl }
test_row kinds.Or name h = record { name = rows.ArrayBoolOr; row = refl }
test_row kinds.Iff name h = record { name = rows.BoolEqReif; row = refl }
test_row kinds.Member name h = record { name = rows.SetInReif; row = refl }
test_row kinds.SetEq name h = record { name = rows.SetEqReif; row = refl }
test_row kinds.Subset name h = record { name = rows.SetSubsetReif; row = refl }
test_row _ name h = absurd (cc)

by_cases : (P : ℕ → Type 0) (c : Bool) (o : Option RowName) (a b id : ℕ) → ((name : RowName) → o ≡ Some name → P a × P b) → P id → AllByRecursion P (seeds_by c o a b id)
by_cases P true o a b id two one = tt
by_cases P false (Some name) a b id two one = (let t = two name refl in (t.0, (t.1, tt)))
by_cases P false None a b id two one = (one, tt)

seeds_total : (es : List Entry) (id : ℕ) → IsRootPart es id → AreTotalIds es (seeds_at es id)
seeds_total es id r =
    let t = entry_at es id r.root.place in
    let e : Entry = t.entry in
    let kids : AreTotalIds es (children e.node) = total_children es id e r.total t.is in
    all_by (IsTotal es) es id e t.is (by_cases (IsTotal es) (is_constant e.node.kind) (test_of e.node.kind) e.node.a e.node.b id
    (λ name h. (let both = subst (λ m. AreTotalIds es (take m (e.node.a ∷ e.node.b ∷ e.node.c ∷ []))) (two_children e.node.kind name h).0 kids in (both.0, both.1.0)))
    r.total)

all_joined : (P : ℕ → Type 0) (xs ys : List ℕ) → AllByRecursion P xs → AllByRecursion P ys → AllByRecursion P (xs ++ ys)
all_joined P [] ys a b = b
all_joined P (x ∷ xs) ys a b = (a.0, all_joined P xs ys a.1 b)

pub all_seeds_total : (es : List Entry) (ids : List ℕ) → AreRootParts es ids → AreTotalIds es (all_seeds es ids)
all_seeds_total es [] h = tt
all_seeds_total es (id ∷ ids) h = all_joined (IsTotal es) (seeds_at es id) (all_seeds es ids) (seeds_total es id h.0) (all_seeds_total es ids h.1)

pub roots_of : (es : List Entry) (ids : List ℕ) → AreRootParts es ids → AreRoots es ids
roots_of es [] h = tt
roots_of es (id ∷ ids) h = (h.0.root, roots_of es ids h.1)

module _ (s : State) (g : IsState s) where
  abbrev Alone : ℕ → Type 0
  Alone i = Single (extent s.es i)

  seeds_single : (id : ℕ) → IsRoot s.es id → AllByRecursion Alone (seeds_at s.es id)
  seeds_single id r =
      let t = entry_at s.es id r.place in
      let e : Entry = t.entry in
      all_by Alone s.es id e t.is (by_cases Alone (is_constant e.node.kind) (test_of e.node.kind) e.node.a e.node.b id
      (λ name h.
      (let c = two_children e.node.kind name h in
      let row = test_row e.node.kind name h in
      let two : children e.node ≡ e.node.a ∷ e.node.b ∷ [] = ap (λ m. take m (e.node.a ∷ e.node.b ∷ e.node.c ∷ [])) c.0 in
      let here : extent s.es id ≡ extent_over e.node.kind (extent s.es e.node.a ∷ extent s.es e.node.b ∷ []) = extent_told s id e g t.is c.1 ∙ ap (λ is. extent_over e.node.kind (map (extent s.es) is)) two in
      two_kids e.node.kind row.name (extent s.es e.node.a) (extent s.es e.node.b) row.row (subst (λ (x : Known). IsSome x) here (g.arena.bounded id e t.is))))
      (truth_single (extent s.es id) r.truth))

  have_all : (is : List ℕ) → AllByRecursion (IsGiven s) is → AllByRecursion Alone is → AllByRecursion (HasArg s) is
  have_all [] a b = tt
  have_all (i ∷ is) a b = (has_arg s g i a.0 b.0, have_all is a.1 b.1)

  pub postable : (ids : List ℕ) → AreRoots s.es ids → AllByRecursion (IsGiven s) (all_seeds s.es ids) → ArePostable s ids
  postable [] r h = tt
  postable (id ∷ ids) r h =
      let p = parted (IsGiven s) (seeds_at s.es id) (all_seeds s.es ids) h in
      (record { root = r.0; have = have_all (seeds_at s.es id) p.0 (seeds_single id r.0) }, postable ids r.1 p.1)
    where
      parted : (P : ℕ → Type 0) (xs ys : List ℕ) → AllByRecursion P (xs ++ ys) → AllByRecursion P xs × AllByRecursion P ys
      parted P [] ys h = (tt, h)
      parted P (x ∷ xs) ys h = (let r = parted P xs ys h.1 in ((h.0, r.0), r.1))

-- ---- marked ids are given

pub marked_given : (s t : State) (need : List Bool) (upto : ℕ) (is : List ℕ) → FlattenedBelow s t need upto → AllByRecursion (λ i. i < upto) is → AreMarked need is → AllByRecursion (IsGiven t) is
marked_given s t need upto [] f b m = tt
marked_given s t need upto (i ∷ is) f b m = (f.given i b.0 m.0, marked_given s t need upto is f b.1 m.1)

-- ---- the loop

joined_more : (xs ys zs : List ℕ) → (xs ++ ys) ++ zs ≡ xs ++ (ys ++ zs)
joined_more [] ys zs = refl
joined_more (x ∷ xs) ys zs = ap (λ is. x ∷ is) (joined_more xs ys zs)

joined_none : (xs : List ℕ) → xs ++ [] ≡ xs
joined_none [] = refl
joined_none (x ∷ xs) = ap (λ is. x ∷ is) (joined_none xs)

seeds_last : (es : List Entry) (xs : List ℕ) (i : ℕ) → all_seeds es (xs ++ i ∷ []) ≡ all_seeds es xs ++ seeds_at es i
seeds_last es [] i = joined_none (seeds_at es i)
seeds_last es (x ∷ xs) i = ap (λ is. seeds_at es x ++ is) (seeds_last es xs i) ∙ sym (joined_more (seeds_at es x) (all_seeds es xs) (seeds_at es i))

pub seeds_next : (es : List Entry) (ids : List ℕ) (k i : ℕ) (before after : List ℕ) → slice_get ids k ≡ Some i → before ≡ all_seeds es (take k ids) → after ≡ before ++ seeds_at es i → after ≡ all_seeds es (take (k + 1) ids)
seeds_next es ids k i before after h b a =
    let next : suc k ≡ k + 1 = omega arith in
    a ∙ ap (λ is. is ++ seeds_at es i) b ∙ sym (seeds_last es (take k ids) i) ∙ ap (all_seeds es) (sym (take_next ids k i h)) ∙ ap (λ m. all_seeds es (take m ids)) next

pub root_place : (es : List Entry) (ids : List ℕ) (k i : ℕ) → slice_get ids k ≡ Some i → AreRoots es ids → i < length es
root_place es [] k i h r = absurd (cc)
root_place es (j ∷ ids) zero i h r = let same : j ≡ i = cc in subst (λ m. m < length es) same r.0.place
root_place es (j ∷ ids) (suc k) i h r = root_place es ids k i h r.1

pub same_seeds_as : (xs ys : List Entry) (is js seeds : List ℕ) → seeds ≡ all_seeds xs is → xs ≡ ys → is ≡ js → seeds ≡ all_seeds ys js
same_seeds_as xs ys is js seeds h e k = h ∙ ap (λ es. all_seeds es is) e ∙ ap (all_seeds ys) k
