-- The test of the order is the order that the steps make, and the path of coercions leads there.
use Rattle.std.proofs.Common.{◌≡◌, ℕ, true, not, ◌&&◌, List, [], ◌∷◌, ◌++◌, ◌⊎◌, inl, inr, refl, subst}
use Rattle.std.proofs.lemmas.Bool.{and_parts, or_cases}
use Rattle.mz_core.specs.declared.types.Base.{Base}
use Rattle.mz_core.specs.declared.types.Base.TheVariants as base
use Rattle.mz_core.specs.declared.types.Ix.{Ix}
use Rattle.mz_core.specs.declared.types.Ix.TheVariants as ix
use Rattle.mz_core.specs.declared.types.Coercion.{Coercion}
use Rattle.mz_core.specs.Types.{PlainType, is_allowed}
use Rattle.mz_core.specs.Coercions.{Raises, bool_to_int, enum_to_int, set_enum_to_set_int, bottom_to_base, set_bottom_to_set, HasElements, integers, cases, Coerces, to_var, to_opt, to_base, to_array, to_int_index, PathLink, Leads, arrived, goes}
use Rattle.mz_core.specs.Order.{same_base, raises, base_below, index_below, dims_below, no_dims, is_list, is_par_scalar, set_of, below_some, becomes_array, same_type, mark_below, marks_below, shape_below, below}
use Rattle.mz_core.proofs.Tests.{and_is, or_left, or_right, same_type_is, same_type_refl, dims_below_refl, mark_below_refl, base_below_refl, raises_below, raises_below_some}

-- what the test asks for, where t isn't u
pub record Fits (t u : PlainType) : Type 0 where
  pub allowed : is_allowed u ≡ true
  pub var : mark_below t.var u.var ≡ true
  pub opt : mark_below t.opt u.opt ≡ true
  pub shape : shape_below t u ≡ true

pub fits_below : (t u : PlainType) → Fits t u → below t u ≡ true
unfolding below
fits_below t u f = or_right (same_type t u) (and_is f.allowed (and_is (and_is f.var f.opt) f.shape))

pub below_refl : (t : PlainType) → below t t ≡ true
unfolding below
below_refl t = or_left (is_allowed t && (marks_below t t && shape_below t t)) (same_type_refl t)

pub below_cases : (t u : PlainType) → below t u ≡ true → (t ≡ u) ⊎ Fits t u
unfolding below
below_cases t u h = elim (or_cases (same_type t u) (is_allowed u && (marks_below t u && shape_below t u)) h) [
  | inl e ↦ inl (same_type_is t u e)
  | inr f ↦
      let p = and_parts (is_allowed u) (marks_below t u && shape_below t u) f in
      let q = and_parts (marks_below t u) (shape_below t u) p.1 in
      let m = and_parts (mark_below t.var u.var) (mark_below t.opt u.opt) q.0 in
      inr (record { allowed = p.0; var = m.0; opt = m.1; shape = q.1 })
]

-- the parts of `becomes_array`
pub record BecomesArray (t u : PlainType) : Type 0 where
  pub not_var : not t.var ≡ true
  pub not_opt : not t.opt ≡ true
  pub scalar : no_dims t.dims ≡ true
  pub list : is_list u.dims ≡ true
  pub set : below_some t.base (set_of u.base) ≡ true

pub array_parts : (t u : PlainType) → becomes_array t u ≡ true → BecomesArray t u
array_parts t u h =
    let p = and_parts (is_par_scalar t) (is_list u.dims && below_some t.base (set_of u.base)) h in
    let q = and_parts (not t.var) (not t.opt && no_dims t.dims) p.0 in
    let r = and_parts (not t.opt) (no_dims t.dims) q.1 in
    let s = and_parts (is_list u.dims) (below_some t.base (set_of u.base)) p.1 in
    record { not_var = q.0; not_opt = r.0; scalar = r.1; list = s.0; set = s.1 }

pub array_is : {t u : PlainType} → BecomesArray t u → becomes_array t u ≡ true
array_is b = and_is (and_is b.not_var (and_is b.not_opt b.scalar)) (and_is b.list b.set)

-- a shape is below another as it is, or as an array of a set's elements
pub shape_cases : {X : Type 0} (t u : PlainType) → shape_below t u ≡ true → (base_below t.base u.base ≡ true → dims_below t.dims u.dims ≡ true → X) → (BecomesArray t u → X) → X
shape_cases t u h plain array = elim (or_cases (base_below t.base u.base && dims_below t.dims u.dims) (becomes_array t u) h) [
  | inl p ↦ let q = and_parts (base_below t.base u.base) (dims_below t.dims u.dims) p in plain q.0 q.1
  | inr a ↦ array (array_parts t u a)
]

pub shape_plain : (t u : PlainType) → base_below t.base u.base ≡ true → dims_below t.dims u.dims ≡ true → shape_below t u ≡ true
shape_plain t u p q = or_left (becomes_array t u) (and_is p q)

pub shape_array : (t u : PlainType) → BecomesArray t u → shape_below t u ≡ true
shape_array t u b = or_right (base_below t.base u.base && dims_below t.dims u.dims) (array_is b)

pub fits_refl : (t : PlainType) → is_allowed t ≡ true → Fits t t
fits_refl t ok = record {
  allowed = ok;
  var = mark_below_refl t.var;
  opt = mark_below_refl t.opt;
  shape = shape_plain t t (base_below_refl t.base) (dims_below_refl t.dims);
}

-- FROM STEPS TO THE TEST

raises_is : {c : Coercion} {a b : Base} → Raises c a b → raises a b ≡ true
raises_is bool_to_int = refl
raises_is (enum_to_int e) = refl
raises_is (set_enum_to_set_int e) = refl
raises_is (bottom_to_base b) = refl
raises_is (set_bottom_to_set b h) = h

elements_below : {a b : Base} (c : Base) → HasElements a b → base_below b c ≡ true → below_some a (set_of c) ≡ true
elements_below base.Int integers h = refl
elements_below c integers h = absurd cc
elements_below base.Int (cases e) h = or_right (same_base (base.SetEnum e) base.SetInt) refl
elements_below (base.Enum f) (cases e) h = h
elements_below c (cases e) h = absurd cc

list_below : (ds : List Ix) → dims_below (ix.Int ∷ []) ds ≡ true → is_list ds ≡ true
unfolding dims_below
list_below (ix.Int ∷ []) h = refl
list_below (ix.Int ∷ (d ∷ ds)) h = h
list_below (ix.Enum e ∷ ds) h = absurd cc
list_below [] h = h

lower_index_below : (before after ds : List Ix) (e : ℕ) → dims_below (before ++ (ix.Int ∷ after)) ds ≡ true → dims_below (before ++ (ix.Enum e ∷ after)) ds ≡ true
unfolding dims_below
lower_index_below [] after (ix.Int ∷ ds) e h = h
lower_index_below [] after (ix.Enum f ∷ ds) e h = absurd cc
lower_index_below [] after [] e h = h
lower_index_below (b ∷ before) after [] e h = h
lower_index_below (b ∷ before) after (d ∷ ds) e h =
    let p = and_parts (index_below b d) (dims_below (before ++ (ix.Int ∷ after)) ds) h in
    and_is p.0 (lower_index_below before after ds e p.1)

some_dims : {X : Type 0} (before after : List Ix) (d : Ix) → no_dims (before ++ (d ∷ after)) ≡ true → X
some_dims [] after d h = absurd cc
some_dims (x ∷ before) after d h = absurd cc

step_fits : {c : Coercion} {t u : PlainType} (v : PlainType) → Coerces c t u → Fits u v → Fits t v
step_fits v (to_var t e) f = record {
  allowed = f.allowed;
  var = rw e refl;
  opt = f.opt;
  shape = shape_cases (record t { var = true }) v f.shape (shape_plain t v) (λ b. absurd (cc b.not_var));
}
step_fits v (to_opt t e) f = record {
  allowed = f.allowed;
  var = f.var;
  opt = rw e refl;
  shape = shape_cases (record t { opt = true }) v f.shape (shape_plain t v) (λ b. absurd (cc b.not_opt));
}
step_fits v (to_base t c b r) f = record {
  allowed = f.allowed;
  var = f.var;
  opt = f.opt;
  shape = shape_cases (record t { base = b }) v f.shape
      (λ p q. shape_plain t v (raises_below t.base b v.base (raises_is r) p) q)
      (λ a. shape_array t v (record { not_var = a.not_var; not_opt = a.not_opt; scalar = a.scalar; list = a.list; set = raises_below_some t.base b (set_of v.base) (raises_is r) a.set }));
}
step_fits v (to_array t b ev eo ed h) f = record {
  allowed = f.allowed;
  var = rw ev refl;
  opt = rw eo refl;
  shape = shape_cases (record t { base = b; dims = ix.Int ∷ [] }) v f.shape
      (λ p q. shape_array t v (record { not_var = rw ev refl; not_opt = rw eo refl; scalar = rw ed refl; list = list_below v.dims q; set = elements_below v.base h p }))
      (λ a. absurd (cc a.scalar));
}
step_fits v (to_int_index t before after e d) f = record {
  allowed = f.allowed;
  var = f.var;
  opt = f.opt;
  shape = shape_cases (record t { dims = before ++ (ix.Int ∷ after) }) v f.shape
      (λ p q. shape_plain t v p (rw d (lower_index_below before after v.dims e q)))
      (λ a. some_dims before after ix.Int a.scalar);
}

pub complete : {t u : PlainType} {links : List PathLink} → Leads t links u → below t u ≡ true
complete (arrived t) = below_refl t
complete (goes {t} c u {links} {v} s ok rest) = elim (below_cases u v (complete rest)) [
  | inl e ↦ subst (λ x. below t x ≡ true) e (fits_below t u (step_fits u s (fits_refl u ok)))
  | inr f ↦ fits_below t v (step_fits v s f)
]
