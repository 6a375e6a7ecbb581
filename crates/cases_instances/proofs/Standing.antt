-- Nodes of an arena that a test takes.
use Rattle.std.proofs.Common.{◌≡◌, ◌≢◌, ℕ, ◌+◌, ◌<◌, ◌≤◌, List, [], ◌∷◌, length, Bool, true, false, ◌&&◌, Option, Some, None, IsSome, option_map, slice_get, inl, inr, refl, sym, ap, subst, ◌∙◌, arith}
use Rattle.std.specs.Cmp.Lexicographic.{pointwise}
use Rattle.std.specs.Ordering.{int_eq}
use Rattle.std.proofs.lemmas.Bool.{and_parts, cases_lt}
use Rattle.std.proofs.lemmas.Bool.Decides.{Decides-int_eq}
use Rattle.std.proofs.lemmas.Option.{slice_get_within}
use Rattle.mz_value.specs.Ranges.{Range}
use Rattle.mz_arena.specs.declared.node.Node.{Node}
use Rattle.mz_arena.specs.declared.node.NodeKind.{NodeKind}
use Rattle.mz_arena.specs.declared.node.NodeKind.TheVariants as kinds
use Rattle.mz_arena.specs.declared.node.Sort.TheVariants as node_sort
use Rattle.mz_arena.specs.Entries.{Entry, is_free, is_local}
use Rattle.mz_arena.specs.FreeNodes.{is_set_kind}
use Rattle.mz_arena.specs.Arenas.{IsArena, IsSetConst}
use Rattle.mz_arena.specs.Extents.{Known, whole, truth, subset, wholes, truths, subsets, empty, as_truth, as_whole, sort_of}
use Rattle.mz_instance.specs.Parts.{Sort, Whole, Truth, Subset, Part, is_subset_sort, truth_mark, IsNode}
use Rattle.mz_instance.specs.Instance.{CanTake}
use Rattle.cases_instances.specs.Nodes.{IsVariableNode, IsKeptAt, AreKept}

-- ---- equal sets

pub pointwise_same : (f : Range → Range → Bool) → ((r s : Range) → f r s ≡ true → r ≡ s) → (a b : List Range) → pointwise f a b ≡ true → a ≡ b
pointwise_same f is [] [] h = refl
pointwise_same f is [] (s ∷ ss) h = absurd (cc)
pointwise_same f is (r ∷ rs) [] h = absurd (cc)
pointwise_same f is (r ∷ rs) (s ∷ ss) h =
    let p = and_parts (f r s) (pointwise f rs ss) h in
    let here : r ≡ s = is r s p.0 in
    let rest : rs ≡ ss = pointwise_same f is rs ss p.1 in
    cc

pub range_same : (r s : Range) → (int_eq r.0 s.0 && int_eq r.1 s.1) ≡ true → r ≡ s
range_same r s h =
    let p = and_parts (int_eq r.0 s.0) (int_eq r.1 s.1) h in
    let low = (Decides-int_eq r.0 s.0).0 p.0 in
    let high = (Decides-int_eq r.1 s.1).0 p.1 in
    ap (λ n. (n, r.1)) low ∙ ap (λ n. (s.0, n)) high

-- ---- the node that was looked up

pub record IsRead (es : List Entry) (id : ℕ) (n : Node) : Type 0 where
  pub there : Entry
  pub stands : slice_get es id ≡ Some there
  pub is : there.node ≡ n

pub read_node : (es : List Entry) (id : ℕ) (n : Node) → option_map (λ e. e.node) (slice_get es id) ≡ Some n → IsRead es id n
read_node es id n h = by (slice_get es id) refl h
  where
    by : (o : Option Entry) → slice_get es id ≡ o → option_map (λ e. e.node) o ≡ Some n → IsRead es id n
    by None g m = absurd (cc)
    by (Some e) g m = let same : e.node ≡ n = cc in record { there = e; stands = g; is = same }

local_free : (k : NodeKind) → is_local k ≡ true → is_free k ≡ true
local_free kinds.Local h = refl
local_free kinds.SetLocal h = refl
local_free _ h = absurd (cc)

module _ (es : List Entry) (id : ℕ) (n : Node) (a : IsArena es) (h : option_map (λ e. e.node) (slice_get es id) ≡ Some n) where
  read : IsRead es id n
  read = read_node es id n h

  pub domain_there : is_free n.kind ≡ true → IsSetConst es n.a
  domain_there f = let r = read in subst (λ (x : Node). IsSetConst es x.a) r.is ((a.domains id r.there r.stands (ap (λ (x : Node). is_free x.kind) r.is ∙ f)).const)

  pub variable_free : (sort : Sort) → IsVariableNode n sort → is_free n.kind ≡ true
  variable_free Whole v = ap is_free v.0
  variable_free Truth v = ap is_free v.0
  variable_free Subset v = ap is_free v

  variable_local : (sort : Sort) → IsVariableNode n sort → is_local n.kind ≡ false
  variable_local Whole v = ap is_local v.0
  variable_local Truth v = ap is_local v.0
  variable_local Subset v = ap is_local v

  variable_sort : (sort : Sort) → IsVariableNode n sort → is_set_kind n.kind ≡ is_subset_sort sort
  variable_sort Whole v = ap is_set_kind v.0
  variable_sort Truth v = ap is_set_kind v.0
  variable_sort Subset v = ap is_set_kind v

  variable_mark : (sort : Sort) → IsVariableNode n sort → sort ≢ Subset → n.c ≡ truth_mark sort
  variable_mark Whole v o = v.1
  variable_mark Truth v o = v.1
  variable_mark Subset v o = absurd (o refl)

  set_read : (c : IsSetConst es n.a) (u : List Range) → option_map (λ (e : Entry). e.set) (slice_get es n.a) ≡ Some u → c.there.set ≡ u
  set_read c u g = let m : ◌≡◌ {A = Option (List Range)} (Some c.there.set) (Some u) = sym (ap (option_map (λ (e : Entry). e.set)) c.stands) ∙ g in cc

  pub node_given : (k : ℕ) (p : Part) (u : List Range) → IsVariableNode n p.sort → n.b ≡ k → option_map (λ (e : Entry). e.set) (slice_get es n.a) ≡ Some u → u ≡ p.set → IsNode es false k p id
  node_given k p u v b g same =
      let r = read in
      let free = variable_free p.sort v in
      let c = domain_there free in
      record {
        there = r.there;
        stands = r.stands;
        free = ap (λ (x : Node). is_free x.kind) r.is ∙ free;
        local = ap (λ (x : Node). is_local x.kind) r.is ∙ variable_local p.sort v;
        sort = ap (λ (x : Node). is_set_kind x.kind) r.is ∙ variable_sort p.sort v;
        mark = λ o. ap (λ (x : Node). x.c) r.is ∙ variable_mark p.sort v o;
        own = a.own id r.there r.stands (ap (λ (x : Node). is_free x.kind) r.is ∙ free);
        number = ap (λ (x : Node). x.b) r.is ∙ b;
        over = c.there;
        domain = ap (λ (x : Node). slice_get es x.a) r.is ∙ c.stands;
        set = set_read c u g ∙ same;
      }

  -- ---- what is kept of it

  is_there : (e : Entry) → slice_get es id ≡ Some e → e.node ≡ n
  is_there e s = let r = read in let same : ◌≡◌ {A = Option Entry} (Some r.there) (Some e) = sym r.stands ∙ s in let one : r.there ≡ e = cc in ap (λ (x : Entry). x.node) (sym one) ∙ r.is

  no_choice : is_local n.kind ≡ false → (e : Entry) → slice_get es id ≡ Some e → is_local e.node.kind ≡ true → CanTake es e
  no_choice f e s t = let k = ap (λ (x : Node). is_local x.kind) (is_there e s) ∙ f in absurd (cc)

  pub variable_kept : (ids : List ℕ) → is_local n.kind ≡ false → slice_get ids n.b ≡ Some id → IsKeptAt es ids id
  variable_kept ids f at e s = record { own = λ w l. ap (λ (x : Node). slice_get ids x.b) (is_there e s) ∙ at; chosen = no_choice f e s }

  pub other_kept : (ids : List ℕ) → is_free n.kind ≡ false → is_local n.kind ≡ false → IsKeptAt es ids id
  other_kept ids w f e s = record { own = λ t l. (let k = ap (λ (x : Node). is_free x.kind) (is_there e s) ∙ w in absurd (cc)); chosen = no_choice f e s }

  pub choice_there : is_local n.kind ≡ true → IsSetConst es n.a
  choice_there f = domain_there (local_free n.kind f)

  pub choice_kept : (ids : List ℕ) → is_local n.kind ≡ true → ((c : IsSetConst es n.a) → is_set_kind n.kind ≡ false → c.there.set ≢ []) → IsKeptAt es ids id
  choice_kept ids f some e s =
      let c = choice_there f in
      record {
        own = λ t l. (let k = ap (λ (x : Node). is_local x.kind) (is_there e s) ∙ f in absurd (cc));
        chosen = λ t. record { over = c.there; domain = ap (λ (x : Node). slice_get es x.a) (is_there e s) ∙ c.stands; some = λ k. some c (sym (ap (λ (x : Node). is_set_kind x.kind) (is_there e s)) ∙ k) };
      }

  -- a set that has something
  pub set_some : (u : List Range) → option_map (λ (e : Entry). e.set) (slice_get es n.a) ≡ Some u → (is_set_kind n.kind ≡ false → u ≢ []) → (c : IsSetConst es n.a) → is_set_kind n.kind ≡ false → c.there.set ≢ []
  set_some u g o c k e = o k (sym (set_read c u g) ∙ e)

-- ---- all of them

pub all_kept : (es : List Entry) (ids : List ℕ) (here : ℕ) → length es ≤ here → ((j : ℕ) → j < here → IsKeptAt es ids j) → AreKept es ids
all_kept es ids here le all id e s = all id (omega (arith, le, slice_get_within es id e s)) e s

pub kept_next : (es : List Entry) (ids : List ℕ) (here : ℕ) → ((j : ℕ) → j < here → IsKeptAt es ids j) → IsKeptAt es ids here → (j : ℕ) → j < here + 1 → IsKeptAt es ids j
kept_next es ids here all now j l = elim (cases_lt j here) [
  | inl less ↦ all j less
  | inr not_less ↦ (let same : here ≡ j = omega (arith, l, not_less) in subst (IsKeptAt es ids) same now)
]

-- ---- roots and objectives

pub truth_known : (x : Known) → sort_of x ≡ Some node_sort.Boolean → IsSome (as_truth x)
truth_known None h = absurd (cc)
truth_known (Some (whole e)) h = absurd (cc)
truth_known (Some (truth e)) h = refl
truth_known (Some (subset u)) h = absurd (cc)
truth_known (Some (wholes es)) h = absurd (cc)
truth_known (Some truths) h = absurd (cc)
truth_known (Some (subsets us)) h = absurd (cc)
truth_known (Some empty) h = absurd (cc)

pub whole_known : (x : Known) → sort_of x ≡ Some node_sort.Integer → IsSome (as_whole x)
whole_known None h = absurd (cc)
whole_known (Some (whole e)) h = refl
whole_known (Some (truth e)) h = absurd (cc)
whole_known (Some (subset u)) h = absurd (cc)
whole_known (Some (wholes es)) h = absurd (cc)
whole_known (Some truths) h = absurd (cc)
whole_known (Some (subsets us)) h = absurd (cc)
whole_known (Some empty) h = absurd (cc)
