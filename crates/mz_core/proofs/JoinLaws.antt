-- The join is the least type above two, and there is none where it is None.
use Rattle.std.proofs.Common.{◌≡◌, Bool, true, false, not, ◌&&◌, ◌||◌, List, [], ◌∷◌, Option, Some, None, nat_eq, length, inl, inr, refl, ap, sym, ◌∙◌, subst, arith}
use Rattle.std.proofs.lemmas.Bool.{and_parts, or_cases, cases_Bool, not-true, both_ways, eq-eqb, eqb-true}
use Rattle.std.specs.Option.{option_map, option_or}
use Rattle.mz_core.specs.declared.types.Base.{Base}
use Rattle.mz_core.specs.declared.types.Base.TheVariants as base
use Rattle.mz_core.specs.declared.types.Ix.{Ix}
use Rattle.mz_core.specs.declared.types.Ix.TheVariants as ix
use Rattle.mz_core.specs.Types.{PlainType, is_allowed}
use Rattle.mz_core.specs.Order.{base_below, raises, same_base, dims_below, no_dims, is_par_scalar, set_of, below_some, mark_below, shape_below, below}
use Rattle.mz_core.specs.Join.{IsLeast, IsJoin, base_join, indices_join, dims_join, plain_join, element_join, one_dim, list_of, array_join, join_apart, join}
use Rattle.mz_core.proofs.Tests.{and_is, same_base_is, mark_below_refl, base_below_refl, dims_below_refl}
use Rattle.mz_core.proofs.OrderLaws.{Fits, fits_below, below_refl, below_cases, BecomesArray, shape_cases, shape_plain, shape_array}
use Rattle.mz_core.proofs.PathLaws.{allowed_under, par_allowed, no_dims_is, is_list_is, sound, Below_test}
use Rattle.mz_core.proofs.BaseJoins.{LeastBase, IsBaseJoin, base_join_is, LeastElement, IsElementJoin, EachEnumAbove, element_join_is, below_each, indices_join_first, indices_join_second, indices_join_least, dims_below_length}

-- by the test

record Least (t u j : PlainType) : Type 0 where
  first : below t j ≡ true
  second : below u j ≡ true
  least : (v : PlainType) → below t v ≡ true → below u v ≡ true → below j v ≡ true

least_is : {t u j : PlainType} → Least t u j → IsLeast t u j
least_is {t} {u} {j} l = record {
  first = sound t j l.first;
  second = sound u j l.second;
  least = λ v p q. sound j v (l.least v (Below_test p) (Below_test q));
}

least_test : {t u j : PlainType} → IsLeast t u j → Least t u j
least_test {t} {u} {j} l = record {
  first = Below_test l.first;
  second = Below_test l.second;
  least = λ v p q. Below_test (l.least v (sound t v p) (sound u v q));
}

swapped : {t u j : PlainType} → Least t u j → Least u t j
swapped l = record { first = l.second; second = l.first; least = λ v p q. l.least v q p }

-- two types of which neither is below the other
pub record Apart (t u : PlainType) : Type 0 where
  pub not_below : below t u ≡ false
  pub not_above : below u t ≡ false

apart_swapped : {t u : PlainType} → Apart t u → Apart u t
apart_swapped a = record { not_below = a.not_above; not_above = a.not_below }

-- what is above both is another type than either
apart_fits : (t u v : PlainType) → Apart t u → below t v ≡ true → below u v ≡ true → Fits t v
apart_fits t u v a p q = elim (below_cases t v p) [
  | inl e ↦ absurd (both_ways (below u t) a.not_above (subst (λ x. below u x ≡ true) (sym e) q))
  | inr f ↦ f
]

-- marks

mark_first : (a b : Bool) → mark_below a (a || b) ≡ true
mark_first true b = refl
mark_first false b = refl

mark_second : (a b : Bool) → mark_below b (a || b) ≡ true
mark_second true true = refl
mark_second true false = refl
mark_second false true = refl
mark_second false false = refl

mark_least : (a b c : Bool) → mark_below a c ≡ true → mark_below b c ≡ true → mark_below (a || b) c ≡ true
mark_least true b c p q = p
mark_least false b c p q = q

neither : (a b : Bool) → not a ≡ true → not b ≡ true → not (a || b) ≡ true
neither false false p q = refl
neither true b p q = p
neither false true p q = q

-- TYPES WITH AS MANY DIMENSIONS

abbrev plain : PlainType → PlainType → Base → PlainType
plain t u b = record { var = t.var || u.var; opt = t.opt || u.opt; base = b; dims = indices_join t.dims u.dims }

no_list : {X : Type 0} (xs ys : List Ix) → length xs ≡ length ys → no_dims xs ≡ true → dims_below ys (ix.Int ∷ []) ≡ true → X
no_list xs ys e n h = absurd (omega (arith, e, ap length (no_dims_is xs n), dims_below_length ys (ix.Int ∷ []) h))

-- what is above both has the shape of both, or is an array that both become
shapes : {X : Type 0} (t u v : PlainType) → length t.dims ≡ length u.dims → Fits t v → Fits u v → (base_below t.base v.base ≡ true → base_below u.base v.base ≡ true → dims_below t.dims v.dims ≡ true → dims_below u.dims v.dims ≡ true → X) → (BecomesArray t v → BecomesArray u v → X) → X
shapes t u v e f g both arrays =
    shape_cases t v f.shape
    (λ p q. shape_cases u v g.shape (λ r s. both p r q s)
    (λ b. no_list u.dims t.dims (sym e) b.scalar (subst (λ ds. dims_below t.dims ds ≡ true) (is_list_is v.dims b.list) q)))
    (λ a. shape_cases u v g.shape
    (λ r s. no_list t.dims u.dims e a.scalar (subst (λ ds. dims_below u.dims ds ≡ true) (is_list_is v.dims a.list) s))
    (λ b. arrays a b))

some_least : (a b j : Base) → ((c : Base) → base_below a c ≡ true → base_below b c ≡ true → base_below j c ≡ true) → (s : Option Base) → below_some a s ≡ true → below_some b s ≡ true → below_some j s ≡ true
some_least a b j l None p q = p
some_least a b j l (Some s) p q = l s p q

some_none : (a b : Base) → ((c : Base) → base_below a c ≡ true → base_below b c ≡ true → ⊥) → (s : Option Base) → below_some a s ≡ true → below_some b s ≡ true → ⊥
some_none a b l None p q = absurd cc
some_none a b l (Some s) p q = l s p q

scalars : (xs ys : List Ix) → no_dims xs ≡ true → no_dims (indices_join xs ys) ≡ true
scalars [] ys h = refl
scalars (x ∷ xs) ys h = absurd cc

plain_shape : (t u v : PlainType) (b : Base) → length t.dims ≡ length u.dims → LeastBase t.base u.base b → Fits t v → Fits u v → shape_below (plain t u b) v ≡ true
plain_shape t u v b e l f g =
    shapes t u v e f g
    (λ p r q s. shape_plain (plain t u b) v (l.least v.base p r) (indices_join_least t.dims u.dims v.dims q s))
    (λ a c. shape_array (plain t u b) v (record {
      not_var = neither t.var u.var a.not_var c.not_var;
      not_opt = neither t.opt u.opt a.not_opt c.not_opt;
      scalar = scalars t.dims u.dims a.scalar;
      list = a.list;
      set = some_least t.base u.base b l.least (set_of v.base) a.set c.set;
    }))

plain_fits : (t u v : PlainType) (b : Base) → length t.dims ≡ length u.dims → LeastBase t.base u.base b → Fits t v → Fits u v → Fits (plain t u b) v
plain_fits t u v b e l f g = record {
  allowed = f.allowed;
  var = mark_least t.var u.var v.var f.var g.var;
  opt = mark_least t.opt u.opt v.opt f.opt g.opt;
  shape = plain_shape t u v b e l f g;
}

plain_least : (t u : PlainType) (b : Base) → Apart t u → length t.dims ≡ length u.dims → LeastBase t.base u.base b → is_allowed (plain t u b) ≡ true → Least t u (plain t u b)
plain_least t u b a e l ok = record {
  first = fits_below t (plain t u b) (record { allowed = ok; var = mark_first t.var u.var; opt = mark_first t.opt u.opt; shape = shape_plain t (plain t u b) l.first (indices_join_first t.dims u.dims e) });
  second = fits_below u (plain t u b) (record { allowed = ok; var = mark_second t.var u.var; opt = mark_second t.opt u.opt; shape = shape_plain u (plain t u b) l.second (indices_join_second t.dims u.dims e) });
  least = λ v p q. fits_below (plain t u b) v (plain_fits t u v b e l (apart_fits t u v a p q) (apart_fits u t v (apart_swapped a) q p));
}

-- what is below an allowed type is allowed

abbrev typed : Bool → Bool → Base → List Ix → PlainType
typed v o b ds = record { var = v; opt = o; base = b; dims = ds }

-- what is neither a set nor a text has any marks
any_marks : (v o : Bool) → not (o && false) && not (v && false) ≡ true
any_marks true true = refl
any_marks true false = refl
any_marks false true = refl
any_marks false false = refl

raises_allowed : (v o w p : Bool) (a c : Base) (ds es : List Ix) → raises a c ≡ true → mark_below v w ≡ true → mark_below o p ≡ true → is_allowed (typed w p c es) ≡ true → is_allowed (typed v o a ds) ≡ true
raises_allowed v o w p base.Bool c ds es r m n ok = any_marks v o
raises_allowed v o w p (base.Enum e) c ds es r m n ok = any_marks v o
raises_allowed v o w p base.Bottom c ds es r m n ok = any_marks v o
raises_allowed v o w p (base.SetEnum e) base.SetInt ds es r m n ok = allowed_under (typed v o (base.SetEnum e) ds) (typed w p (base.SetEnum e) es) refl m n ok
raises_allowed v o w p base.SetBottom base.SetInt ds es r m n ok = allowed_under (typed v o base.SetBottom ds) (typed w p base.SetBottom es) refl m n ok
raises_allowed v o w p base.SetBottom (base.SetEnum e) ds es r m n ok = allowed_under (typed v o base.SetBottom ds) (typed w p base.SetBottom es) refl m n ok
raises_allowed v o w p base.SetBottom base.SetBottom ds es r m n ok = allowed_under (typed v o base.SetBottom ds) (typed w p base.SetBottom es) refl m n ok
raises_allowed v o w p a c ds es r m n ok = absurd cc

fits_allowed : (j v : PlainType) → Fits j v → is_allowed j ≡ true
fits_allowed j v f = shape_cases j v f.shape
    (λ p q. elim (or_cases (same_base j.base v.base) (raises j.base v.base) p) [
      | inl e ↦ allowed_under j v (same_base_is j.base v.base e) f.var f.opt f.allowed
      | inr r ↦ raises_allowed j.var j.opt v.var v.opt j.base v.base j.dims v.dims r f.var f.opt f.allowed
    ])
    (λ a. par_allowed j.var j.opt j.base j.dims (not-true j.var a.not_var) (not-true j.opt a.not_opt))

plain_join_is : (t u : PlainType) → Apart t u → length t.dims ≡ length u.dims → (o : Option Base) → IsBaseJoin t.base u.base o → IsJoin t u (plain_join t u (indices_join t.dims u.dims) o)
plain_join_is t u a e None k = λ j l. let m = least_test l in
    let f = apart_fits t u j a m.first m.second in
    let g = apart_fits u t j (apart_swapped a) m.second m.first in
    shapes t u j e f g (λ p r q s. k j.base p r) (λ b c. some_none t.base u.base k (set_of j.base) b.set c.set)
plain_join_is t u a e (Some b) k = elim (cases_Bool (is_allowed (plain t u b))) [
  | inl ok ↦ rw ok (least_is (plain_least t u b a e k ok))
  | inr n ↦ rw n (λ j l. let m = least_test l in
      let f = apart_fits t u j a m.first m.second in
      let g = apart_fits u t j (apart_swapped a) m.second m.first in
      both_ways (is_allowed (plain t u b)) n (fits_allowed (plain t u b) j (plain_fits t u j b e k f g)))
]

-- A PAR SET AND AN ARRAY

one_dim_length : (ds : List Ix) → one_dim ds ≡ true → length ds ≡ 1
one_dim_length (d ∷ []) h = refl
one_dim_length (d ∷ (x ∷ ds)) h = absurd cc
one_dim_length [] h = absurd cc

one_dim_below : (ds : List Ix) → one_dim ds ≡ true → dims_below ds (ix.Int ∷ []) ≡ true
unfolding dims_below
one_dim_below (d ∷ []) h = refl
one_dim_below (d ∷ (x ∷ ds)) h = absurd cc
one_dim_below [] h = absurd cc

one_dim_is : (ds : List Ix) → dims_below ds (ix.Int ∷ []) ≡ true → one_dim ds ≡ true
unfolding dims_below
one_dim_is (d ∷ []) h = refl
one_dim_is (d ∷ (x ∷ ds)) h = absurd (omega (arith, dims_below_length (d ∷ (x ∷ ds)) (ix.Int ∷ []) h))
one_dim_is [] h = absurd cc

-- a base of arrays has any marks
element_allowed : (a b : Base) (v o : Bool) (ds : List Ix) → below_some a (set_of b) ≡ true → is_allowed (typed v o b ds) ≡ true
element_allowed a base.Int v o ds h = any_marks v o
element_allowed a (base.Enum e) v o ds h = any_marks v o
element_allowed a b v o ds h = absurd cc

-- the marks and dimensions of a set that becomes an array
record ParScalar (t : PlainType) : Type 0 where
  not_var : not t.var ≡ true
  not_opt : not t.opt ≡ true
  scalar : no_dims t.dims ≡ true

par_scalar_parts : (t : PlainType) → is_par_scalar t ≡ true → ParScalar t
par_scalar_parts t h =
    let p = and_parts (not t.var) (not t.opt && no_dims t.dims) h in
    let q = and_parts (not t.opt) (no_dims t.dims) p.1 in
    record { not_var = p.0; not_opt = q.0; scalar = q.1 }

mark_any : (a b : Bool) → not a ≡ true → mark_below a b ≡ true
mark_any false b h = refl
mark_any true b h = absurd cc

-- what is above a par set and an array is an array that the set becomes
over_list : {X : Type 0} (t u v : PlainType) → ParScalar t → one_dim u.dims ≡ true → Fits t v → Fits u v → (BecomesArray t v → base_below u.base v.base ≡ true → dims_below u.dims v.dims ≡ true → X) → X
over_list t u v s o f g go =
    shape_cases u v g.shape
    (λ p q. shape_cases t v f.shape
    (λ r d. absurd (omega (arith, ap length (no_dims_is t.dims s.scalar), dims_below_length t.dims v.dims d, dims_below_length u.dims v.dims q, one_dim_length u.dims o)))
    (λ a. go a p q))
    (λ b. absurd (omega (arith, ap length (no_dims_is u.dims b.scalar), one_dim_length u.dims o)))

list_above : (t u : PlainType) (b : Base) → ParScalar t → one_dim u.dims ≡ true → below_some t.base (set_of b) ≡ true → base_below u.base b ≡ true → Fits t (list_of u b) × Fits u (list_of u b)
list_above t u b s o h k = (
  record {
    allowed = element_allowed t.base b u.var u.opt (ix.Int ∷ []) h;
    var = mark_any t.var u.var s.not_var;
    opt = mark_any t.opt u.opt s.not_opt;
    shape = shape_array t (list_of u b) (record { not_var = s.not_var; not_opt = s.not_opt; scalar = s.scalar; list = refl; set = h });
  },
  record {
    allowed = element_allowed t.base b u.var u.opt (ix.Int ∷ []) h;
    var = mark_below_refl u.var;
    opt = mark_below_refl u.opt;
    shape = shape_plain u (list_of u b) k (one_dim_below u.dims o);
  },
)

list_least : (t u : PlainType) (b : Base) → Apart t u → ParScalar t → one_dim u.dims ≡ true → LeastElement t.base u.base b → Least t u (list_of u b)
list_least t u b a s o l = let both = list_above t u b s o l.set l.second in record {
  first = fits_below t (list_of u b) both.0;
  second = fits_below u (list_of u b) both.1;
  least = λ v p q. let f = apart_fits t u v a p q in
      let g = apart_fits u t v (apart_swapped a) q p in
      over_list t u v s o f g (λ c h d. fits_below (list_of u b) v (record {
        allowed = f.allowed;
        var = g.var;
        opt = g.opt;
        shape = shape_plain (list_of u b) v (l.least v.base c.set h) (subst (λ ds. dims_below (ix.Int ∷ []) ds ≡ true) (sym (is_list_is v.dims c.list)) (dims_below_refl (ix.Int ∷ [])));
      }));
}

-- where the elements have no least base, each enum is one
list_none : (t u j : PlainType) → ParScalar t → one_dim u.dims ≡ true → ((c : Base) → below_some t.base (set_of c) ≡ true → base_below u.base c ≡ true → EachEnumAbove t.base u.base) → Least t u j → BecomesArray t j → base_below u.base j.base ≡ true → ⊥
list_none t u j s o k l a h =
    let each = k j.base a.set h in
    below_each t.base j.base a.set (λ e.
    let both = list_above t u (base.Enum e) s o (each e).0 (each e).1 in
    base_of j (list_of u (base.Enum e)) (is_list_is j.dims a.list) refl (l.least (list_of u (base.Enum e)) (fits_below t (list_of u (base.Enum e)) both.0) (fits_below u (list_of u (base.Enum e)) both.1)))
  where
    base_of : (j v : PlainType) → j.dims ≡ ix.Int ∷ [] → v.dims ≡ ix.Int ∷ [] → below j v ≡ true → base_below j.base v.base ≡ true
    base_of j v d e b = elim (below_cases j v b) [
      | inl same ↦ subst (λ x. base_below j.base x.base ≡ true) same (base_below_refl j.base)
      | inr f ↦ shape_cases j v f.shape (λ p q. p) (λ c. absurd (omega (arith, ap length (no_dims_is j.dims c.scalar), ap length d)))
    ]

abbrev IsArrayJoin : PlainType → PlainType → Option PlainType → Type 0
IsArrayJoin t u None = (j : PlainType) → Least t u j → BecomesArray t j → base_below u.base j.base ≡ true → dims_below u.dims j.dims ≡ true → ⊥
IsArrayJoin t u (Some j) = Least t u j

by_element : (t u : PlainType) → Apart t u → ParScalar t → one_dim u.dims ≡ true → (o : Option Base) → IsElementJoin t.base u.base o → IsArrayJoin t u (option_map (list_of u) o)
by_element t u a s o None k = λ j l c h d. list_none t u j s o k l c h
by_element t u a s o (Some b) k = list_least t u b a s o k

array_join_is : (t u : PlainType) → Apart t u → IsArrayJoin t u (array_join t u)
array_join_is t u a = elim (cases_Bool (is_par_scalar t && one_dim u.dims)) [
  | inl h ↦
      let p = and_parts (is_par_scalar t) (one_dim u.dims) h in
      rw h (by_element t u a (par_scalar_parts t p.0) p.1 (element_join t.base u.base) (element_join_is t.base u.base))
  | inr n ↦ rw n (λ j l c h d. both_ways (is_par_scalar t && one_dim u.dims) n
      (and_is (and_is c.not_var (and_is c.not_opt c.scalar)) (one_dim_is u.dims (subst (λ ds. dims_below u.dims ds ≡ true) (is_list_is j.dims c.list) d))))
]

either_is : (t u : PlainType) → Apart t u → nat_eq (length t.dims) (length u.dims) ≡ false → (x y : Option PlainType) → IsArrayJoin t u x → IsArrayJoin u t y → IsJoin t u (option_or x y)
either_is t u a n (Some j) y k l = least_is k
either_is t u a n None (Some j) k l = least_is (swapped l)
either_is t u a n None None k l = λ j is.
    let m = least_test is in
    let f = apart_fits t u j a m.first m.second in
    let g = apart_fits u t j (apart_swapped a) m.second m.first in
    let same : length t.dims ≡ length u.dims → ⊥ = λ e. both_ways (nat_eq (length t.dims) (length u.dims)) n (eq-eqb (length t.dims) (length u.dims) e) in
    shape_cases t j f.shape
    (λ p q. shape_cases u j g.shape
    (λ r s. same (dims_below_length t.dims j.dims q ∙ sym (dims_below_length u.dims j.dims s)))
    (λ b. l j (swapped m) b p q))
    (λ c. shape_cases u j g.shape
    (λ r s. k j m c r s)
    (λ b. same (ap length (no_dims_is t.dims c.scalar) ∙ sym (ap length (no_dims_is u.dims b.scalar)))))

join_apart_is : (t u : PlainType) → Apart t u → IsJoin t u (join_apart t u (dims_join t.dims u.dims))
join_apart_is t u a = elim (cases_Bool (nat_eq (length t.dims) (length u.dims))) [
  | inl e ↦ rw e (plain_join_is t u a (eqb-true (length t.dims) (length u.dims) e) (base_join t.base u.base) (base_join_is t.base u.base))
  | inr n ↦ rw n (either_is t u a n (array_join t u) (array_join u t) (array_join_is t u a) (array_join_is u t (apart_swapped a)))
]

pub join_is : (t u : PlainType) → IsJoin t u (join t u)
unfolding join
join_is t u = elim (cases_Bool (below t u)) [
  | inl h ↦ rw h (least_is (record { first = h; second = below_refl u; least = λ v p q. q }))
  | inr n ↦ rw n (elim (cases_Bool (below u t)) [
    | inl h ↦ rw h (least_is (record { first = below_refl t; second = h; least = λ v p q. p }))
    | inr m ↦ rw m (join_apart_is t u (record { not_below = n; not_above = m }))
  ])
]
