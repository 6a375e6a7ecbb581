-- Values by number, and values by ids.
use Rattle.std.proofs.Common.{◌≡◌, ◌∙◌, ℕ, zero, suc, ◌+◌, ℤ, Bool, true, false, List, [], ◌∷◌, Option, Some, None, slice_get, refl, sym, ap, subst, arith, if◌then◌else◌}
use Rattle.mz_value.specs.Ranges.{Range}
use Rattle.mz_arena.specs.declared.instance.InstanceGoal.{InstanceGoal}
use Rattle.mz_arena.specs.declared.instance.InstanceGoal.TheVariants.{Satisfy, Minimize, Maximize}
use Rattle.mz_arena.specs.Entries.{Entry, is_free, is_local}
use Rattle.mz_arena.specs.Values.{Values, Term, is_true}
use Rattle.mz_arena.specs.Numbering.{local_ids, by_id, number_of, set_of}
use Rattle.mz_arena.specs.Instances.{Instance}
use Rattle.mz_arena.specs.FreeNodes.{is_set_kind, AgreeOn, AgreeOnFree}
use Rattle.mz_arena.proofs.FreeTerms.{same_terms}
use Rattle.mz_instance.specs.Parts.{Sort, Whole, Truth, Subset, Part, is_subset_sort, ids, parts, IsNode, AreNodes, FitsSort, Fits, AllFit, AllFitAt}
use Rattle.mz_instance.specs.Instance.{IsInstance}
use Rattle.mz_instance.specs.Solved.{FitsNode, FitsArena, subset_or_whole, AreTrue, IsNumber, GoalAt}
use Rattle.mz_instance.specs.Laws.{AreSame, chosen_or_not}

-- ---- the node with a number

record HasNode (es : List Entry) (choice : Bool) (k : ℕ) (ps : List Part) (j id : ℕ) : Type 0 where
  part : Part
  stands : slice_get ps j ≡ Some part
  node : IsNode es choice (k + j) part id

node_at : (es : List Entry) (choice : Bool) (k : ℕ) (is : List ℕ) (ps : List Part) (j id : ℕ) → AreNodes es choice k is ps → slice_get is j ≡ Some id → HasNode es choice k ps j id
node_at es choice k [] [] j id nodes at = absurd (cc)
node_at es choice k [] (p ∷ ps) j id nodes at = absurd nodes
node_at es choice k (i ∷ is) [] j id nodes at = absurd nodes
node_at es choice k (i ∷ is) (p ∷ ps) zero id nodes at =
    let same : i ≡ id = cc in
    record { part = p; stands = refl; node = subst (λ n. IsNode es choice n p id) (omega arith) (subst (IsNode es choice k p) same nodes.0) }
node_at es choice k (i ∷ is) (p ∷ ps) (suc j) id nodes at =
    let rest = node_at es choice (suc k) is ps j id nodes.1 at in
    record { part = rest.part; stands = rest.stands; node = subst (λ n. IsNode es choice n rest.part id) (omega arith) rest.node }

-- ---- values by number that are those by ids

abbrev pub id_or : Option ℕ → ℕ
id_or None = 0
id_or (Some i) = i

-- by number what `v` has by these ids
abbrev pub numbered : List ℕ → Values → Values
numbered is v = record { number = λ k. v.number (id_or (slice_get is k)); set = λ k. v.set (id_or (slice_get is k)) }

numbered_from : (all is : List ℕ) (v : Values) (k : ℕ) → ((j : ℕ) → slice_get all (k + j) ≡ slice_get is j) → AreSame (numbered all v) v k is
numbered_from all [] v k rest = tt
numbered_from all (i ∷ is) v k rest =
    let here : slice_get all k ≡ Some i = ap (slice_get all) (omega arith) ∙ rest 0 in
    (ap (λ o. v.number (id_or o)) here, ap (λ o. v.set (id_or o)) here, numbered_from all is v (suc k) (λ j. ap (slice_get all) (omega arith) ∙ rest (suc j)))

pub numbered_same : (is : List ℕ) (v : Values) → AreSame (numbered is v) v 0 is
numbered_same is v = numbered_from is is v 0 (λ j. ap (slice_get is) (omega arith))

same_at : (x v : Values) (k : ℕ) (is : List ℕ) (j id : ℕ) → AreSame x v k is → slice_get is j ≡ Some id → (x.number (k + j) ≡ v.number id) × (x.set (k + j) ≡ v.set id)
same_at x v k [] j id same at = absurd (cc)
same_at x v k (i ∷ is) zero id same at =
    let e : i ≡ id = cc in
    (ap x.number (omega arith) ∙ same.0 ∙ ap v.number e, ap x.set (omega arith) ∙ same.1 ∙ ap v.set e)
same_at x v k (i ∷ is) (suc j) id same at =
    let rest = same_at x v (suc k) is j id same.2 at in
    (ap x.number (omega arith) ∙ rest.0, ap x.set (omega arith) ∙ rest.1)

-- ---- values by ids that are those by number

number_at_node : (choice b : Bool) (x y : Values) (n : ℕ) → b ≡ choice → (if b then y.number n else x.number n) ≡ (chosen_or_not choice x y).number n
number_at_node true b x y n e = rw e refl
number_at_node false b x y n e = rw e refl

set_at_node : (choice b : Bool) (x y : Values) (n : ℕ) → b ≡ choice → (if b then y.set n else x.set n) ≡ (chosen_or_not choice x y).set n
set_at_node true b x y n e = rw e refl
set_at_node false b x y n e = rw e refl

pub nodes_same : (es : List Entry) (choice : Bool) (x y : Values) (k : ℕ) (is : List ℕ) (ps : List Part) → AreNodes es choice k is ps → AreSame (chosen_or_not choice x y) (by_id es x y) k is
unfolding by_id
nodes_same es choice x y k [] ps nodes = tt
nodes_same es choice x y k (i ∷ is) [] nodes = absurd nodes
nodes_same es choice x y k (i ∷ is) (p ∷ ps) nodes =
    let n = nodes.0 in
    let z = chosen_or_not choice x y in
    let number = ap (number_of x y) n.stands ∙ number_at_node choice (is_local n.there.node.kind) x y n.there.node.b n.local ∙ ap z.number n.number in
    let set = ap (set_of x y) n.stands ∙ set_at_node choice (is_local n.there.node.kind) x y n.there.node.b n.local ∙ ap z.set n.number in
    (sym number, sym set, nodes_same es choice x y (suc k) is ps nodes.1)

-- ---- what fits

fits_same : (p : Part) (n m : ℤ) (s t : List Range) → n ≡ m → s ≡ t → Fits p n s → Fits p m t
fits_same p n m s t e f fits = subst (λ m. Fits p m t) e (subst (λ t. Fits p n t) f fits)

pub numbers_fit : (ps : List Part) (is : List ℕ) (x v : Values) (k : ℕ) → AreSame x v k is → AllFitAt ps is v → AllFit ps k x
numbers_fit [] is x v k same fits = tt
numbers_fit (p ∷ ps) [] x v k same fits = absurd fits
numbers_fit (p ∷ ps) (i ∷ is) x v k same fits = (fits_same p (v.number i) (x.number k) (v.set i) (x.set k) (sym same.0) (sym same.1) fits.0, numbers_fit ps is x v (suc k) same.2 fits.1)

pub ids_fit : (es : List Entry) (choice : Bool) (j : ℕ) (ps : List Part) (is : List ℕ) (x v : Values) (k : ℕ) → AreNodes es choice j is ps → AreSame x v k is → AllFit ps k x → AllFitAt ps is v
ids_fit es choice j [] is x v k nodes same fits = tt
ids_fit es choice j (p ∷ ps) [] x v k nodes same fits = absurd nodes
ids_fit es choice j (p ∷ ps) (i ∷ is) x v k nodes same fits = (fits_same p (x.number k) (v.number i) (x.set k) (v.set i) same.0 same.1 fits.0, ids_fit es choice (suc j) ps is x v (suc k) nodes.1 same.2 fits.1)

sort_by_kind : (r : Sort) (set_kind : Bool) (u : List Range) (n : ℤ) (s : List Range) → set_kind ≡ is_subset_sort r → FitsSort (subset_or_whole set_kind) u n s → FitsSort r u n s
sort_by_kind Whole b u n s e fits = subst (λ b. FitsSort (subset_or_whole b) u n s) e fits
sort_by_kind Truth b u n s e fits = subst (λ b. FitsSort (subset_or_whole b) u n s) e fits
sort_by_kind Subset b u n s e fits = subst (λ b. FitsSort (subset_or_whole b) u n s) e fits

kind_by_sort : (r : Sort) (set_kind : Bool) (u : List Range) (n : ℤ) (s : List Range) → set_kind ≡ is_subset_sort r → FitsSort r u n s → FitsSort (subset_or_whole set_kind) u n s
kind_by_sort Whole b u n s e fits = subst (λ b. FitsSort (subset_or_whole b) u n s) (sym e) fits
kind_by_sort Truth b u n s e fits = subst (λ b. FitsSort (subset_or_whole b) u n s) (sym e) fits
kind_by_sort Subset b u n s e fits = subst (λ b. FitsSort (subset_or_whole b) u n s) (sym e) fits

same_entry : {o : Option Entry} (d e : Entry) → o ≡ Some d → o ≡ Some e → d ≡ e
same_entry d e f g = cc

pub parts_fit : (es : List Entry) (v : Values) (choice : Bool) (k : ℕ) (is : List ℕ) (ps : List Part) → AreNodes es choice k is ps → FitsArena es v → AllFitAt ps is v
parts_fit es v choice k is [] nodes fits = tt
parts_fit es v choice k [] (p ∷ ps) nodes fits = absurd nodes
parts_fit es v choice k (i ∷ is) (p ∷ ps) nodes fits =
    let n = nodes.0 in
    let f = fits i n.there n.stands n.free in
    let over = same_entry f.over n.over f.domain n.domain in
    let set : f.over.set ≡ p.set = ap (λ (e : Entry). e.set) over ∙ n.set in
    (subst (λ u. FitsSort p.sort u (v.number i) (v.set i)) set (sort_by_kind p.sort (is_set_kind n.there.node.kind) f.over.set (v.number i) (v.set i) n.sort f.fits), parts_fit es v choice (suc k) is ps nodes.1 fits)

fit_at : (ps : List Part) (is : List ℕ) (v : Values) (j id : ℕ) (p : Part) → AllFitAt ps is v → slice_get is j ≡ Some id → slice_get ps j ≡ Some p → Fits p (v.number id) (v.set id)
fit_at [] is v j id p fits at part = absurd (cc)
fit_at (q ∷ ps) [] v j id p fits at part = absurd fits
fit_at (q ∷ ps) (i ∷ is) v zero id p fits at part =
    let e : i ≡ id = cc in
    let f : q ≡ p = cc in
    subst (λ p. Fits p (v.number id) (v.set id)) f (subst (λ i. Fits q (v.number i) (v.set i)) e fits.0)
fit_at (q ∷ ps) (i ∷ is) v (suc j) id p fits at part = fit_at ps is v j id p fits.1 at part

node_fits : (es : List Entry) (v : Values) (choice : Bool) (is : List ℕ) (ps : List Part) (id : ℕ) (e : Entry) → AreNodes es choice 0 is ps → AllFitAt ps is v → slice_get es id ≡ Some e → slice_get is e.node.b ≡ Some id → FitsNode es v id e
node_fits es v choice is ps id e nodes fits stands at =
    let h = node_at es choice 0 is ps e.node.b id nodes at in
    let n = h.node in
    let same = same_entry n.there e n.stands stands in
    let by_set = subst (λ u. FitsSort h.part.sort u (v.number id) (v.set id)) (sym n.set) (fit_at ps is v e.node.b id h.part fits at h.stands) in
    record {
      over = n.over;
      domain = subst (λ (e : Entry). slice_get es e.node.a ≡ Some n.over) same n.domain;
      fits = subst (λ (e : Entry). FitsSort (subset_or_whole (is_set_kind e.node.kind)) n.over.set (v.number id) (v.set id)) same (kind_by_sort h.part.sort (is_set_kind n.there.node.kind) n.over.set (v.number id) (v.set id) n.sort by_set);
    }

pub arena_fits : (inst : Instance) (chosen : List Part) (v : Values) → IsInstance inst → AreNodes inst.arena true 0 (local_ids inst.arena) chosen → AllFitAt (parts inst.vars) (ids inst.vars) v → AllFitAt chosen (local_ids inst.arena) v → FitsArena inst.arena v
arena_fits inst chosen v sound nodes fits choices = λ id e stands free. go id e stands free (is_local e.node.kind) refl
  where
    go : (id : ℕ) (e : Entry) → slice_get inst.arena id ≡ Some e → is_free e.node.kind ≡ true → (b : Bool) → is_local e.node.kind ≡ b → FitsNode inst.arena v id e
    go id e stands free true local = node_fits inst.arena v true (local_ids inst.arena) chosen id e nodes choices stands (sound.arena.numbered.all id e stands local)
    go id e stands free false local = node_fits inst.arena v false (ids inst.vars) (parts inst.vars) id e sound.nodes fits stands (sound.no_more id e stands free local)

-- ---- values by ids are told by the numbers

agree_by : (q : Bool) (id : ℕ) (v w : Values) → v.number id ≡ w.number id → v.set id ≡ w.set id → AgreeOn q id v w
agree_by true id v w number set = set
agree_by false id v w number set = number

pub numbers_agree : (inst : Instance) (x y v : Values) → IsInstance inst → AreSame x v 0 (ids inst.vars) → AreSame y v 0 (local_ids inst.arena) → AgreeOnFree inst.arena v (by_id inst.arena x y)
unfolding by_id
numbers_agree inst x y v sound vars choices = λ id e stands free. subst (λ i. AgreeOn (is_set_kind e.node.kind) i v w) (sym (sound.arena.own id e stands free)) (go id e stands free (is_local e.node.kind) refl)
  where
    w : Values
    w = by_id inst.arena x y

    go : (id : ℕ) (e : Entry) → slice_get inst.arena id ≡ Some e → is_free e.node.kind ≡ true → (b : Bool) → is_local e.node.kind ≡ b → AgreeOn (is_set_kind e.node.kind) id v w
    go id e stands free true local =
        let same = same_at y v 0 (local_ids inst.arena) e.node.b id choices (sound.arena.numbered.all id e stands local) in
        agree_by (is_set_kind e.node.kind) id v w
        (sym (ap (number_of x y) stands ∙ ap (λ b. if b then y.number e.node.b else x.number e.node.b) local ∙ ap y.number (omega arith) ∙ same.0))
        (sym (ap (set_of x y) stands ∙ ap (λ b. if b then y.set e.node.b else x.set e.node.b) local ∙ ap y.set (omega arith) ∙ same.1))
    go id e stands free false local =
        let same = same_at x v 0 (ids inst.vars) e.node.b id vars (sound.no_more id e stands free local) in
        agree_by (is_set_kind e.node.kind) id v w
        (sym (ap (number_of x y) stands ∙ ap (λ b. if b then y.number e.node.b else x.number e.node.b) local ∙ ap x.number (omega arith) ∙ same.0))
        (sym (ap (set_of x y) stands ∙ ap (λ b. if b then y.set e.node.b else x.set e.node.b) local ∙ ap x.set (omega arith) ∙ same.1))

-- ---- values that agree make the same roots true, with the same objective

pub true_agree : (es : List Entry) (v w : Values) (rs : List ℕ) → AgreeOnFree es v w → AreTrue es rs v → AreTrue es rs w
true_agree es v w [] agree true' = tt
true_agree es v w (r ∷ rs) agree true' = (subst (λ (t : Term). is_true t ≡ true) (same_terms es v w agree r) true'.0, true_agree es v w rs agree true'.1)

pub goal_agree : (es : List Entry) (v w : Values) (g : InstanceGoal) (n : Option ℤ) → AgreeOnFree es v w → GoalAt es g v n → GoalAt es g w n
goal_agree es v w Satisfy n agree at = at
goal_agree es v w (Minimize id) n agree at = subst (λ t. IsNumber t n) (same_terms es v w agree id) at
goal_agree es v w (Maximize id) n agree at = subst (λ t. IsNumber t n) (same_terms es v w agree id) at
