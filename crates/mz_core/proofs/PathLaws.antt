-- The path of coercions leads to the higher type.
use Rattle.std.proofs.Common.{◌≡◌, Bool, true, false, not, ◌&&◌, ◌||◌, List, [], ◌∷◌, ◌++◌, Option, Some, None, nat_eq, inl, inr, refl, sym, ◌∙◌, subst, if◌then◌else◌, append_assoc}
use Rattle.std.proofs.lemmas.Bool.{and_parts, or_cases, cases_Bool, not-true, eqb-true, both_ways}
use Rattle.std.specs.Bool.{beq}
use Rattle.mz_core.specs.declared.types.Base.{Base}
use Rattle.mz_core.specs.declared.types.Base.TheVariants as base
use Rattle.mz_core.specs.declared.types.Ix.{Ix}
use Rattle.mz_core.specs.declared.types.Ix.TheVariants as ix
use Rattle.mz_core.specs.declared.types.Coercion.TheVariants.{ToVar, ToOpt, SetToArray, IndexToInt}
use Rattle.mz_core.specs.Types.{PlainType, is_set, is_text, is_allowed}
use Rattle.mz_core.specs.Coercions.{Raises, bool_to_int, enum_to_int, set_enum_to_set_int, bottom_to_base, set_bottom_to_set, HasElements, integers, cases, Coerces, to_var, to_opt, to_base, to_array, to_int_index, PathLink, Leads, arrived, goes, Below}
use Rattle.mz_core.specs.Order.{same_base, raises, base_below, dims_below, no_dims, is_list, set_of, below_some, becomes_array, same_type, mark_below, below}
use Rattle.mz_core.specs.Paths.{raising, base_links, index_links, opt_links, var_links, mark_links, links_by, coercions}
use Rattle.mz_core.proofs.Tests.{and_is, same_bool_is, same_base_is, same_type_is, same_type_refl, mark_below_refl}
use Rattle.mz_core.proofs.OrderLaws.{Fits, BecomesArray, array_is, array_parts, shape_cases, below_cases, complete}

pub leads_on : {t u v : PlainType} {first then_on : List PathLink} → Leads t first u → Leads u then_on v → Leads t (first ++ then_on) v
leads_on (arrived t) m = m
leads_on (goes c u s ok rest) m = goes c u s ok (leads_on rest m)

-- a type below an allowed one with the same base is allowed
mark_under : (a b x : Bool) → mark_below a b ≡ true → not (b && x) ≡ true → not (a && x) ≡ true
mark_under false b x h k = refl
mark_under true true x h k = k
mark_under true false x h k = absurd cc

pub allowed_under : (t u : PlainType) → t.base ≡ u.base → mark_below t.var u.var ≡ true → mark_below t.opt u.opt ≡ true → is_allowed u ≡ true → is_allowed t ≡ true
allowed_under t u e v o ok =
    let p = and_parts (not (u.opt && (is_set u.base || is_text u.base))) (not (u.var && is_text u.base)) ok in
    rw e (and_is (mark_under t.opt u.opt (is_set u.base || is_text u.base) o p.0) (mark_under t.var u.var (is_text u.base) v p.1))

pub raising_is : (a b : Base) → raises a b ≡ true → Raises (raising a) a b
raising_is base.Bool base.Int h = bool_to_int
raising_is (base.Enum e) base.Int h = enum_to_int e
raising_is (base.SetEnum e) base.SetInt h = set_enum_to_set_int e
raising_is base.SetBottom b h = set_bottom_to_set b h
raising_is base.Bottom b h = bottom_to_base b
raising_is a b h = absurd cc

raises_apart : (a b : Base) → base_below a b ≡ true → same_base a b ≡ false → raises a b ≡ true
raises_apart a b h n = elim (or_cases (same_base a b) (raises a b) h) [ inl s ↦ absurd (both_ways (same_base a b) n s) | inr r ↦ r ]

base_leads : (t : PlainType) (b : Base) → base_below t.base b ≡ true → is_allowed (record t { base = b }) ≡ true → Leads t (base_links t b) (record t { base = b })
base_leads t b h ok = elim (cases_Bool (same_base t.base b)) [
  | inl e ↦ rw e (subst (λ x. Leads t [] (record t { base = x })) (same_base_is t.base b e) (arrived t))
  | inr n ↦ rw n (goes (raising t.base) (record t { base = b }) (to_base t (raising t.base) b (raising_is t.base b (raises_apart t.base b h n))) ok (arrived (record t { base = b })))
]

-- a mark that isn't the same and may be set wasn't set, and is
mark_rises : (a b : Bool) → mark_below a b ≡ true → beq a b ≡ false → (a ≡ false) × (b ≡ true)
mark_rises true true h n = absurd cc
mark_rises true false h n = absurd cc
mark_rises false true h n = (refl, refl)
mark_rises false false h n = absurd cc

opt_leads : (t : PlainType) (o : Bool) → mark_below t.opt o ≡ true → is_allowed (record t { opt = o }) ≡ true → Leads t (opt_links t o) (record t { opt = o })
opt_leads t o h ok = elim (cases_Bool (beq t.opt o)) [
  | inl e ↦ rw e (subst (λ x. Leads t [] (record t { opt = x })) (same_bool_is t.opt o e) (arrived t))
  | inr n ↦ rw n (up o (mark_rises t.opt o h n) ok)
]
  where
    up : (o : Bool) → (t.opt ≡ false) × (o ≡ true) → is_allowed (record t { opt = o }) ≡ true → Leads t ((ToOpt, record t { opt = o }) ∷ []) (record t { opt = o })
    up true p ok = goes ToOpt (record t { opt = true }) (to_opt t p.0) ok (arrived (record t { opt = true }))
    up false p ok = absurd (cc p.1)

var_leads : (t : PlainType) (v : Bool) → mark_below t.var v ≡ true → is_allowed (record t { var = v }) ≡ true → Leads t (var_links t v) (record t { var = v })
var_leads t v h ok = elim (cases_Bool (beq t.var v)) [
  | inl e ↦ rw e (subst (λ x. Leads t [] (record t { var = x })) (same_bool_is t.var v e) (arrived t))
  | inr n ↦ rw n (up v (mark_rises t.var v h n) ok)
]
  where
    up : (v : Bool) → (t.var ≡ false) × (v ≡ true) → is_allowed (record t { var = v }) ≡ true → Leads t ((ToVar, record t { var = v }) ∷ []) (record t { var = v })
    up true p ok = goes ToVar (record t { var = true }) (to_var t p.0) ok (arrived (record t { var = true }))
    up false p ok = absurd (cc p.1)

marks_lead : (t u : PlainType) → t.base ≡ u.base → mark_below t.var u.var ≡ true → mark_below t.opt u.opt ≡ true → is_allowed u ≡ true → Leads t (mark_links t u) (record t { opt = u.opt; var = u.var })
marks_lead t u e v o ok =
    leads_on (opt_leads t u.opt o (allowed_under (record t { opt = u.opt }) u e v (mark_below_refl u.opt) ok))
    (var_leads (record t { opt = u.opt }) u.var v (allowed_under (record t { opt = u.opt; var = u.var }) u e (mark_below_refl u.var) (mark_below_refl u.opt) ok))

-- the place of the next index moves on
moved : (t : PlainType) (links : List PathLink) (done ys : List Ix) (y : Ix) → Leads t links (record t { dims = (done ++ (y ∷ [])) ++ ys }) → Leads t links (record t { dims = done ++ (y ∷ ys) })
moved t links done ys y h = subst (λ ds. Leads t links (record t { dims = ds })) (append_assoc done (y ∷ []) ys) h

indices_lead : (t : PlainType) (done xs ys : List Ix) → t.dims ≡ done ++ xs → dims_below xs ys ≡ true → is_allowed t ≡ true → Leads t (index_links t done xs ys) (record t { dims = done ++ ys })
unfolding index_links dims_below
indices_lead t done [] [] e h ok = subst (λ x. Leads t [] (record t { dims = x })) e (arrived t)
indices_lead t done [] (y ∷ ys) e h ok = absurd cc
indices_lead t done (x ∷ xs) [] e h ok = absurd cc
indices_lead t done (ix.Int ∷ xs) (ix.Int ∷ ys) e h ok =
    moved t (index_links t (done ++ (ix.Int ∷ [])) xs ys) done ys ix.Int (indices_lead t (done ++ (ix.Int ∷ [])) xs ys (e ∙ sym (append_assoc done (ix.Int ∷ []) xs)) h ok)
indices_lead t done (ix.Int ∷ xs) (ix.Enum f ∷ ys) e h ok = absurd cc
indices_lead t done (ix.Enum f ∷ xs) (ix.Int ∷ ys) e h ok =
    goes IndexToInt (record t { dims = done ++ (ix.Int ∷ xs) }) (to_int_index t done xs f e) ok
    (subst (λ ds. Leads (record t { dims = done ++ (ix.Int ∷ xs) }) (index_links (record t { dims = done ++ (ix.Int ∷ xs) }) (done ++ (ix.Int ∷ [])) xs ys) (record t { dims = ds })) (append_assoc done (ix.Int ∷ []) ys)
    (indices_lead (record t { dims = done ++ (ix.Int ∷ xs) }) (done ++ (ix.Int ∷ [])) xs ys (sym (append_assoc done (ix.Int ∷ []) xs)) h ok))
indices_lead t done (ix.Enum f ∷ xs) (ix.Enum g ∷ ys) e h ok =
    let p = and_parts (nat_eq f g) (dims_below xs ys) h in
    rw p.0 (subst (λ i. Leads t (index_links t (done ++ (ix.Enum f ∷ [])) xs ys) (record t { dims = done ++ (ix.Enum i ∷ ys) })) (eqb-true f g p.0)
    (moved t (index_links t (done ++ (ix.Enum f ∷ [])) xs ys) done ys (ix.Enum f) (indices_lead t (done ++ (ix.Enum f ∷ [])) xs ys (e ∙ sym (append_assoc done (ix.Enum f ∷ []) xs)) p.1 ok)))

pub no_dims_is : (ds : List Ix) → no_dims ds ≡ true → ds ≡ []
no_dims_is [] h = refl
no_dims_is (d ∷ ds) h = absurd cc

pub is_list_is : (ds : List Ix) → is_list ds ≡ true → ds ≡ ix.Int ∷ []
is_list_is (ix.Int ∷ []) h = refl
is_list_is (ix.Int ∷ (d ∷ ds)) h = absurd cc
is_list_is (ix.Enum e ∷ ds) h = absurd cc
is_list_is [] h = absurd cc

set_of_is : (b s : Base) → set_of b ≡ Some s → HasElements s b
set_of_is base.Int s e = let q : base.SetInt ≡ s = cc in subst (λ x. HasElements x base.Int) q integers
set_of_is (base.Enum n) s e = let q : base.SetEnum n ≡ s = cc in subst (λ x. HasElements x (base.Enum n)) q (cases n)
set_of_is b s e = absurd cc

pub par_allowed : (v o : Bool) (b : Base) (ds : List Ix) → v ≡ false → o ≡ false → is_allowed (record { var = v; opt = o; base = b; dims = ds }) ≡ true
par_allowed v o b ds p q = rw (p, q) refl

plain_leads : (t u : PlainType) → Fits t u → base_below t.base u.base ≡ true → dims_below t.dims u.dims ≡ true → Leads t (links_by t u None) u
plain_leads t u f p q =
    let ok = allowed_under (record t { base = u.base }) u refl f.var f.opt f.allowed in
    leads_on (base_leads t u.base p ok)
    (leads_on (indices_lead (record t { base = u.base }) [] t.dims u.dims refl q ok)
    (marks_lead (record t { base = u.base; dims = u.dims }) u refl f.var f.opt f.allowed))

array_leads : (t u : PlainType) → Fits t u → BecomesArray t u → (s : Option Base) → set_of u.base ≡ s → Leads t (links_by t u s) u
array_leads t u f b None e = absurd (cc (subst (λ x. below_some t.base x ≡ true) e b.set))
array_leads t u f b (Some s) e =
    let v = not-true t.var b.not_var in
    let o = not-true t.opt b.not_opt in
    leads_on (base_leads t s (subst (λ x. below_some t.base x ≡ true) e b.set) (par_allowed t.var t.opt s t.dims v o))
    (goes SetToArray (record t { base = u.base; dims = u.dims })
    (subst (λ ds. Coerces SetToArray (record t { base = s }) (record t { base = u.base; dims = ds })) (sym (is_list_is u.dims b.list))
    (to_array (record t { base = s }) u.base v o (no_dims_is t.dims b.scalar) (set_of_is u.base s e)))
    (allowed_under (record t { base = u.base; dims = u.dims }) u refl f.var f.opt f.allowed)
    (marks_lead (record t { base = u.base; dims = u.dims }) u refl f.var f.opt f.allowed))

fits_leads : (t u : PlainType) → Fits t u → Leads t (links_by t u (if becomes_array t u then set_of u.base else None)) u
fits_leads t u f = elim (cases_Bool (becomes_array t u)) [
  | inl a ↦ rw a (array_leads t u f (array_parts t u a) (set_of u.base) refl)
  | inr n ↦ rw n (shape_cases t u f.shape (plain_leads t u f) (λ b. absurd (both_ways (becomes_array t u) n (array_is b))))
]

-- the path that the test promises
pub coercions_lead : (t u : PlainType) → below t u ≡ true → Leads t (coercions t u) u
unfolding coercions
coercions_lead t u h = elim (cases_Bool (same_type t u)) [
  | inl e ↦ rw e (subst (λ x. Leads t [] x) (same_type_is t u e) (arrived t))
  | inr n ↦ rw n (elim (below_cases t u h) [
    | inl e ↦ absurd (both_ways (same_type t u) n (subst (λ x. same_type t x ≡ true) e (same_type_refl t)))
    | inr f ↦ fits_leads t u f
  ])
]

pub sound : (t u : PlainType) → below t u ≡ true → Below t u
sound t u h = (coercions t u, coercions_lead t u h)

pub Below_test : {t u : PlainType} → Below t u → below t u ≡ true
Below_test b = complete b.1
