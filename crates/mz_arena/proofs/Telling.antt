-- What is kept of nodes tells their bounds.
use Rattle.std.proofs.Common.{◌≡◌, ℕ, zero, suc, ◌≤◌, List, [], ◌∷◌, length, map, take, Bool, true, false, cond, Option, Some, None, IsSome, option_map, slice_get, refl, sym, ap, subst, ◌∙◌, arith}
use Rattle.std.specs.Option.{option_and_then}
use Rattle.mz_value.specs.Ranges.{Range}
use Rattle.mz_interval.specs.Ends.{Ends}
use Rattle.mz_arena.specs.declared.table.Reach.{Reach}
use Rattle.mz_arena.specs.declared.table.Reach.TheVariants.{Whole, Truth, Subset, Wholes, Truths, Subsets, Empty}
use Rattle.mz_arena.specs.declared.table.Stored.{Stored}
use Rattle.mz_arena.specs.declared.table.Table.{Table}
use Rattle.mz_arena.specs.declared.node.Node.{Node}
use Rattle.mz_arena.specs.declared.node.NodeKind.{NodeKind}
use Rattle.mz_arena.specs.declared.node.NodeKind.TheVariants.{Cons}
use Rattle.mz_arena.specs.Entries.{Entry, arity, children, AllBelow}
use Rattle.mz_arena.specs.Extents.{Known, whole, truth, subset, wholes, truths, subsets, empty, as_whole, as_truth, as_subset, as_wholes, is_truths, as_subsets, as_single, as_list, ends_in, sort_of, cons_extent, kind_extent, node_extent, extents, extent}
use Rattle.mz_arena.specs.Tables.{Sets, seen, entries, wholes_in, subsets_in, wholes_at, HasWholes, has_wholes, has_subsets, is_long, IsSound, Tells, TellsAny, TellsSingle, TellsRow, single_in, row_in, interval_in, sort_in, is_whole_list, is_truth_list, is_subset_list, whole_in, truth_in, subset_place, IsPlaced}
use Rattle.mz_arena.proofs.Folds.{at-past, unroll}

pub length-entries : (sets : Sets) (stored : List Stored) → length (entries sets stored) ≡ length stored
unfolding entries
length-entries sets [] = refl
length-entries sets (s ∷ ss) = ap suc (length-entries sets ss)

pub get-entries : (sets : Sets) (stored : List Stored) (id : ℕ) → slice_get (entries sets stored) id ≡ option_map (seen sets) (slice_get stored id)
unfolding entries
get-entries sets [] id = refl
get-entries sets (s ∷ ss) zero = refl
get-entries sets (s ∷ ss) (suc id) = get-entries sets ss id

pub extent_past : (sets : Sets) (stored : List Stored) (id : ℕ) → length stored ≤ id → extent (entries sets stored) id ≡ None
unfolding extents
extent_past sets stored id h = at-past node_extent (entries sets stored) id (omega (arith, length-entries sets stored))

pub whole_told : (sets : Sets) (r : Option Reach) (x : Known) → TellsAny sets r x → whole_in r ≡ as_whole x
whole_told sets None x h = sym (rw h refl)
whole_told sets (Some (Whole i)) x h = sym (rw h refl)
whole_told sets (Some (Truth i)) x h = sym (rw h refl)
whole_told sets (Some (Subset k)) x h = sym (rw h.is refl)
whole_told sets (Some Wholes) x h = sym (ap as_whole h)
whole_told sets (Some Truths) x h = sym (rw h refl)
whole_told sets (Some Subsets) x h = sym (ap as_whole h)
whole_told sets (Some Empty) x h = sym (rw h refl)

pub truth_told : (sets : Sets) (r : Option Reach) (x : Known) → TellsAny sets r x → truth_in r ≡ as_truth x
truth_told sets None x h = sym (rw h refl)
truth_told sets (Some (Whole i)) x h = sym (rw h refl)
truth_told sets (Some (Truth i)) x h = sym (rw h refl)
truth_told sets (Some (Subset k)) x h = sym (rw h.is refl)
truth_told sets (Some Wholes) x h = sym (ap as_truth h)
truth_told sets (Some Truths) x h = sym (rw h refl)
truth_told sets (Some Subsets) x h = sym (ap as_truth h)
truth_told sets (Some Empty) x h = sym (rw h refl)

pub subset_told : (sets : Sets) (r : Option Reach) (x : Known) → TellsAny sets r x → IsPlaced sets (subset_place r) (as_subset x)
subset_told sets None x h = rw h refl
subset_told sets (Some (Whole i)) x h = rw h refl
subset_told sets (Some (Truth i)) x h = rw h refl
subset_told sets (Some (Subset k)) x h = (h.within, ap as_subset h.is)
subset_told sets (Some Wholes) x h = ap as_subset h
subset_told sets (Some Truths) x h = rw h refl
subset_told sets (Some Subsets) x h = ap as_subset h
subset_told sets (Some Empty) x h = rw h refl

-- ---- lists

-- a list of integers has a first integer and a rest
pub record WholeParts (x y : Known) (es : List Ends) : Type 0 where
  pub head : Ends
  pub is_head : as_whole x ≡ Some head
  pub rest : as_wholes y ≡ Some (wholes_in y)
  pub all : es ≡ head ∷ wholes_in y

as_wholes_in : (y : Known) (es : List Ends) → as_wholes y ≡ Some es → es ≡ wholes_in y
as_wholes_in (Some (wholes fs)) es h = cc
as_wholes_in (Some empty) es h = cc
as_wholes_in None es h = cc
as_wholes_in (Some (whole e)) es h = cc
as_wholes_in (Some (truth e)) es h = cc
as_wholes_in (Some (subset u)) es h = cc
as_wholes_in (Some truths) es h = cc
as_wholes_in (Some (subsets us)) es h = cc

with_head : (e : Ends) (y : Known) (o : Option (List Ends)) (es : List Ends) → as_wholes y ≡ o → option_and_then (λ fs. Some (wholes (e ∷ fs))) o ≡ Some (wholes es) → WholeParts (Some (whole e)) y es
with_head e y None es h k = cc
with_head e y (Some fs) es h k =
    let tail : fs ≡ wholes_in y = as_wholes_in y fs h in
    let all : e ∷ fs ≡ es = cc in
    record { head = e; is_head = refl; rest = h ∙ ap Some tail; all = sym all ∙ ap (λ gs. e ∷ gs) tail }

no_truths : (b : Bool) (es : List Ends) → cond b (Some truths) None ≡ Some (wholes es) → ⊥
no_truths true es h = cc
no_truths false es h = cc

no_subsets : (u : List Range) (o : Option (List (List Range))) (es : List Ends) → option_and_then (λ us. Some (subsets (u ∷ us))) o ≡ Some (wholes es) → ⊥
no_subsets u None es h = cc
no_subsets u (Some us) es h = cc

pub whole_parts : (x y : Known) (es : List Ends) → cons_extent x y ≡ Some (wholes es) → WholeParts x y es
unfolding cons_extent
whole_parts None y es h = cc
whole_parts (Some (whole e)) y es h = with_head e y (as_wholes y) es refl h
whole_parts (Some (truth e)) y es h = absurd (no_truths (is_truths y) es h)
whole_parts (Some (subset u)) y es h = absurd (no_subsets u (as_subsets y) es h)
whole_parts (Some (wholes fs)) y es h = cc
whole_parts (Some truths) y es h = cc
whole_parts (Some (subsets us)) y es h = cc
whole_parts (Some empty) y es h = cc

-- a list of sets
pub record SubsetParts (x y : Known) (us : List (List Range)) : Type 0 where
  pub head : List Range
  pub is_head : as_subset x ≡ Some head
  pub all : us ≡ head ∷ subsets_in y

as_subsets_in : (y : Known) (us : List (List Range)) → as_subsets y ≡ Some us → us ≡ subsets_in y
as_subsets_in (Some (subsets vs)) us h = cc
as_subsets_in (Some empty) us h = cc
as_subsets_in None us h = cc
as_subsets_in (Some (whole e)) us h = cc
as_subsets_in (Some (truth e)) us h = cc
as_subsets_in (Some (subset u)) us h = cc
as_subsets_in (Some truths) us h = cc
as_subsets_in (Some (wholes es)) us h = cc

with_subset : (u : List Range) (y : Known) (o : Option (List (List Range))) (us : List (List Range)) → as_subsets y ≡ o → option_and_then (λ vs. Some (subsets (u ∷ vs))) o ≡ Some (subsets us) → SubsetParts (Some (subset u)) y us
with_subset u y None us h k = cc
with_subset u y (Some vs) us h k =
    let tail : vs ≡ subsets_in y = as_subsets_in y vs h in
    let all : u ∷ vs ≡ us = cc in
    record { head = u; is_head = refl; all = sym all ∙ ap (λ ws. u ∷ ws) tail }

truths_no_subsets : (b : Bool) (us : List (List Range)) → cond b (Some truths) None ≡ Some (subsets us) → ⊥
truths_no_subsets true us h = cc
truths_no_subsets false us h = cc

wholes_no_subsets : (e : Ends) (o : Option (List Ends)) (us : List (List Range)) → option_and_then (λ es. Some (wholes (e ∷ es))) o ≡ Some (subsets us) → ⊥
wholes_no_subsets e None us h = cc
wholes_no_subsets e (Some es) us h = cc

pub subset_parts : (x y : Known) (us : List (List Range)) → cons_extent x y ≡ Some (subsets us) → SubsetParts x y us
unfolding cons_extent
subset_parts None y us h = cc
subset_parts (Some (whole e)) y us h = absurd (wholes_no_subsets e (as_wholes y) us h)
subset_parts (Some (truth e)) y us h = absurd (truths_no_subsets (is_truths y) us h)
subset_parts (Some (subset u)) y us h = with_subset u y (as_subsets y) us refl h
subset_parts (Some (wholes fs)) y us h = cc
subset_parts (Some truths) y us h = cc
subset_parts (Some (subsets vs)) y us h = cc
subset_parts (Some empty) y us h = cc

-- ---- a node by its kind

pub by_kind : (f : ℕ → Known) (e : Entry) (k : NodeKind) → e.node.kind ≡ k → node_extent e (map f (children e.node)) ≡ kind_extent e k (map f (take (arity k) (e.node.a ∷ e.node.b ∷ e.node.c ∷ [])))
by_kind f e k h = ap (λ (j : NodeKind). kind_extent e j (map f (take (arity j) (e.node.a ∷ e.node.b ∷ e.node.c ∷ [])))) h

below_kind : (id : ℕ) (n : Node) (k : NodeKind) → n.kind ≡ k → AllBelow id (children n) → AllBelow id (take (arity k) (n.a ∷ n.b ∷ n.c ∷ []))
below_kind id n k h all = subst (λ (j : NodeKind). AllBelow id (take (arity j) (n.a ∷ n.b ∷ n.c ∷ []))) h all

-- a Cons over its children's bounds
module _ (sets : Sets) (stored : List Stored) (id : ℕ) (s : Stored) (sound : IsSound sets stored) (there : slice_get stored id ≡ Some s) (cons : s.node.kind ≡ Cons) where
  there_entry : slice_get (entries sets stored) id ≡ Some (seen sets s)
  there_entry = get-entries sets stored id ∙ ap (option_map (seen sets)) there

  cons_below : AllBelow id (s.node.a ∷ s.node.b ∷ [])
  cons_below = below_kind id s.node Cons cons (sound.arena.ordered id (seen sets s) there_entry)

  cons_is : extent (entries sets stored) id ≡ cons_extent (extent (entries sets stored) s.node.a) (extent (entries sets stored) s.node.b)
  unfolding extents
  cons_is = unroll node_extent (entries sets stored) id (seen sets s) there_entry (sound.arena.ordered id (seen sets s) there_entry) ∙ by_kind (extent (entries sets stored)) (seen sets s) Cons cons

pub is_wholes : (r : Reach) → has_wholes r ≡ true → r ≡ Wholes
is_wholes (Whole i) h = cc
is_wholes (Truth i) h = cc
is_wholes (Subset k) h = cc
is_wholes Wholes h = refl
is_wholes Truths h = cc
is_wholes Subsets h = cc
is_wholes Empty h = cc

pub is_subsets : (r : Reach) → has_subsets r ≡ true → r ≡ Subsets
is_subsets (Whole i) h = cc
is_subsets (Truth i) h = cc
is_subsets (Subset k) h = cc
is_subsets Wholes h = cc
is_subsets Truths h = cc
is_subsets Subsets h = refl
is_subsets Empty h = cc

pub long_wholes : (sets : Sets) (stored : List Stored) (id : ℕ) (s : Stored) → IsSound sets stored → slice_get stored id ≡ Some s → has_wholes s.reach ≡ true → HasWholes sets stored id s.node
long_wholes sets stored id s sound there h =
    let r : s.reach ≡ Wholes = is_wholes s.reach h in
    let cons : s.node.kind ≡ Cons = sound.long id s there (ap is_long r) in
    let told : Tells sets Wholes (extent (entries sets stored) id) = subst (λ (q : Reach). Tells sets q (extent (entries sets stored) id)) r (sound.tells id s there) in
    let parts = whole_parts _ _ (wholes_at sets stored id) (sym (cons_is sets stored id s sound there cons) ∙ told) in
    record { smaller = (cons_below sets stored id s sound there cons).1.0; head = parts.head; is_head = parts.is_head; all = parts.all }

pub no_wholes : (sets : Sets) (r : Reach) (x : Known) → Tells sets r x → has_wholes r ≡ false → wholes_in x ≡ []
no_wholes sets (Whole i) x t h = ap wholes_in t
no_wholes sets (Truth i) x t h = ap wholes_in t
no_wholes sets (Subset k) x t h = ap wholes_in t.is
no_wholes sets Wholes x t h = cc
no_wholes sets Truths x t h = ap wholes_in t
no_wholes sets Subsets x t h = ap wholes_in t
no_wholes sets Empty x t h = ap wholes_in t

pub no_subset_list : (sets : Sets) (r : Reach) (x : Known) → Tells sets r x → has_subsets r ≡ false → subsets_in x ≡ []
no_subset_list sets (Whole i) x t h = ap subsets_in t
no_subset_list sets (Truth i) x t h = ap subsets_in t
no_subset_list sets (Subset k) x t h = ap subsets_in t.is
no_subset_list sets Wholes x t h = ap subsets_in t
no_subset_list sets Truths x t h = ap subsets_in t
no_subset_list sets Subsets x t h = cc
no_subset_list sets Empty x t h = ap subsets_in t

pub single_told : (t : Table) (r : Option Reach) (x : Known) → TellsAny t.sets.items r x → TellsSingle t (single_in r) x
single_told t None x h = ap as_single h
single_told t (Some (Whole i)) x h = h
single_told t (Some (Truth i)) x h = h
single_told t (Some (Subset k)) x h = h
single_told t (Some Wholes) x h = ap as_single h
single_told t (Some Truths) x h = ap as_single h
single_told t (Some Subsets) x h = ap as_single h
single_told t (Some Empty) x h = ap as_single h

pub row_told : (t : Table) (r : Option Reach) (x : Known) → TellsAny t.sets.items r x → TellsRow (row_in r) x
row_told t None x h = ap as_list h
row_told t (Some (Whole i)) x h = ap as_list h
row_told t (Some (Truth i)) x h = ap as_list h
row_told t (Some (Subset k)) x h = ap as_list h.is
row_told t (Some Wholes) x h = h
row_told t (Some Truths) x h = h
row_told t (Some Subsets) x h = h
row_told t (Some Empty) x h = h

pub wholes_told : (t : Table) (r : Option Reach) (x : Known) → TellsAny t.sets.items r x → cond (is_whole_list r) (Some (wholes_in x)) None ≡ as_wholes x
wholes_told t None x h = sym (ap as_wholes h)
wholes_told t (Some (Whole i)) x h = sym (ap as_wholes h)
wholes_told t (Some (Truth i)) x h = sym (ap as_wholes h)
wholes_told t (Some (Subset k)) x h = sym (ap as_wholes h.is)
wholes_told t (Some Wholes) x h = sym (ap as_wholes h)
wholes_told t (Some Truths) x h = sym (ap as_wholes h)
wholes_told t (Some Subsets) x h = sym (ap as_wholes h)
wholes_told t (Some Empty) x h = ap (λ y. Some (wholes_in y)) h ∙ sym (ap as_wholes h)

pub truths_told : (t : Table) (r : Option Reach) (x : Known) → TellsAny t.sets.items r x → is_truth_list r ≡ is_truths x
truths_told t None x h = sym (ap is_truths h)
truths_told t (Some (Whole i)) x h = sym (ap is_truths h)
truths_told t (Some (Truth i)) x h = sym (ap is_truths h)
truths_told t (Some (Subset k)) x h = sym (ap is_truths h.is)
truths_told t (Some Wholes) x h = sym (ap is_truths h)
truths_told t (Some Truths) x h = sym (ap is_truths h)
truths_told t (Some Subsets) x h = sym (ap is_truths h)
truths_told t (Some Empty) x h = sym (ap is_truths h)

pub subsets_told : (t : Table) (r : Option Reach) (x : Known) → TellsAny t.sets.items r x → cond (is_subset_list r) (Some (subsets_in x)) None ≡ as_subsets x
subsets_told t None x h = sym (ap as_subsets h)
subsets_told t (Some (Whole i)) x h = sym (ap as_subsets h)
subsets_told t (Some (Truth i)) x h = sym (ap as_subsets h)
subsets_told t (Some (Subset k)) x h = sym (ap as_subsets h.is)
subsets_told t (Some Wholes) x h = sym (ap as_subsets h)
subsets_told t (Some Truths) x h = sym (ap as_subsets h)
subsets_told t (Some Subsets) x h = sym (ap as_subsets h)
subsets_told t (Some Empty) x h = ap (λ y. Some (subsets_in y)) h ∙ sym (ap as_subsets h)

pub interval_told : (t : Table) (r : Option Reach) (x : Known) → TellsAny t.sets.items r x → interval_in r ≡ ends_in x
interval_told t None x h = sym (ap ends_in h)
interval_told t (Some (Whole i)) x h = sym (ap ends_in h)
interval_told t (Some (Truth i)) x h = sym (ap ends_in h)
interval_told t (Some (Subset k)) x h = sym (ap ends_in h.is)
interval_told t (Some Wholes) x h = sym (ap ends_in h)
interval_told t (Some Truths) x h = sym (ap ends_in h)
interval_told t (Some Subsets) x h = sym (ap ends_in h)
interval_told t (Some Empty) x h = sym (ap ends_in h)

pub sort_told : (sets : Sets) (r : Option Reach) (x : Known) → TellsAny sets r x → sort_in r ≡ sort_of x
sort_told sets None x h = sym (ap sort_of h)
sort_told sets (Some (Whole i)) x h = sym (ap sort_of h)
sort_told sets (Some (Truth i)) x h = sym (ap sort_of h)
sort_told sets (Some (Subset k)) x h = sym (ap sort_of h.is)
sort_told sets (Some Wholes) x h = sym (ap sort_of h)
sort_told sets (Some Truths) x h = sym (ap sort_of h)
sort_told sets (Some Subsets) x h = sym (ap sort_of h)
sort_told sets (Some Empty) x h = sym (ap sort_of h)

pub has_sort : (x : Known) → IsSome x → sort_of x ≡ None → ⊥
has_sort None h k = cc
has_sort (Some (whole e)) h k = cc
has_sort (Some (truth e)) h k = cc
has_sort (Some (subset u)) h k = cc
has_sort (Some (wholes es)) h k = cc
has_sort (Some truths) h k = cc
has_sort (Some (subsets us)) h k = cc
has_sort (Some empty) h k = cc
