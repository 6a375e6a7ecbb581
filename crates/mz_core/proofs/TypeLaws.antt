-- Laws of the order, by the relation and by the test.
use Rattle.std.proofs.Common.{◌≡◌, Bool, true, false, List, [], ◌∷◌, length, inl, inr, refl, ap, sym, ◌∙◌, arith}
use Rattle.std.proofs.lemmas.Bool.{and_parts, or_cases, eqb-true}
use Rattle.mz_core.specs.declared.types.Base.{Base}
use Rattle.mz_core.specs.declared.types.Base.TheVariants as base
use Rattle.mz_core.specs.declared.types.Ix.{Ix}
use Rattle.mz_core.specs.declared.types.Ix.TheVariants as ix
use Rattle.mz_core.specs.Types.{PlainType}
use Rattle.mz_core.specs.Coercions.{Below}
use Rattle.mz_core.specs.Order.{same_base, raises, base_below, index_below, dims_below, mark_below, below}
use Rattle.mz_core.specs.Coercions.{IsPartialOrder}
use Rattle.mz_core.proofs.Tests.{same_base_is, type_of}
use Rattle.mz_core.proofs.OrderLaws.{Fits, BecomesArray, below_refl, below_cases, shape_cases}
use Rattle.mz_core.proofs.PathLaws.{leads_on, sound, Below_test, no_dims_is, is_list_is}
use Rattle.mz_core.proofs.BaseJoins.{dims_below_length}

pub Below_refl : (t : PlainType) → Below t t
Below_refl t = sound t t (below_refl t)

pub Below_trans : (t u v : PlainType) → Below t u → Below u v → Below t v
Below_trans t u v p q = (_, leads_on p.1 q.1)

pub below_trans : (t u v : PlainType) → below t u ≡ true → below u v ≡ true → below t v ≡ true
below_trans t u v p q = Below_test (Below_trans t u v (sound t u p) (sound u v q))

mark_antisymm : (a b : Bool) → mark_below a b ≡ true → mark_below b a ≡ true → a ≡ b
mark_antisymm true true p q = refl
mark_antisymm true false p q = absurd cc
mark_antisymm false true p q = absurd cc
mark_antisymm false false p q = refl

raises_antisymm : (a b : Base) → raises a b ≡ true → raises b a ≡ true → a ≡ b
raises_antisymm base.Bool base.Int p q = absurd cc
raises_antisymm (base.Enum e) base.Int p q = absurd cc
raises_antisymm (base.SetEnum e) base.SetInt p q = absurd cc
raises_antisymm base.SetBottom base.SetBottom p q = refl
raises_antisymm base.SetBottom base.SetInt p q = absurd cc
raises_antisymm base.SetBottom (base.SetEnum e) p q = absurd cc
raises_antisymm base.Bottom base.Bottom p q = refl
raises_antisymm base.Bottom base.SetBottom p q = absurd cc
raises_antisymm a b p q = absurd cc

base_antisymm : (a b : Base) → base_below a b ≡ true → base_below b a ≡ true → a ≡ b
base_antisymm a b p q = elim (or_cases (same_base a b) (raises a b) p) [
  | inl e ↦ same_base_is a b e
  | inr r ↦ elim (or_cases (same_base b a) (raises b a) q) [
    | inl e ↦ sym (same_base_is b a e)
    | inr s ↦ raises_antisymm a b r s
  ]
]

index_antisymm : (x y : Ix) → index_below x y ≡ true → index_below y x ≡ true → x ≡ y
index_antisymm ix.Int ix.Int p q = refl
index_antisymm ix.Int (ix.Enum f) p q = absurd cc
index_antisymm (ix.Enum e) ix.Int p q = absurd cc
index_antisymm (ix.Enum e) (ix.Enum f) p q = ap ix.Enum (eqb-true e f p)

dims_antisymm : (xs ys : List Ix) → dims_below xs ys ≡ true → dims_below ys xs ≡ true → xs ≡ ys
unfolding dims_below
dims_antisymm [] [] p q = refl
dims_antisymm [] (y ∷ ys) p q = absurd cc
dims_antisymm (x ∷ xs) [] p q = absurd cc
dims_antisymm (x ∷ xs) (y ∷ ys) p q =
    let a = and_parts (index_below x y) (dims_below xs ys) p in
    let b = and_parts (index_below y x) (dims_below ys xs) q in
    rw (index_antisymm x y a.0 b.0, dims_antisymm xs ys a.1 b.1) refl

-- a list is no set that becomes one
no_way_back : {X : Type 0} (t u : PlainType) → BecomesArray t u → Fits u t → X
no_way_back t u b f = shape_cases u t f.shape
    (λ p q. absurd (omega (arith, dims_below_length u.dims t.dims q, ap length (no_dims_is t.dims b.scalar), ap length (is_list_is u.dims b.list))))
    (λ c. absurd (omega (arith, ap length (no_dims_is u.dims c.scalar), ap length (is_list_is u.dims b.list))))

fits_antisymm : (t u : PlainType) → Fits t u → Fits u t → t ≡ u
fits_antisymm t u f g = shape_cases t u f.shape
    (λ p q. shape_cases u t g.shape
    (λ r s. ap (λ x. type_of x t.opt t.base t.dims) (mark_antisymm t.var u.var f.var g.var)
    ∙ ap (λ x. type_of u.var x t.base t.dims) (mark_antisymm t.opt u.opt f.opt g.opt)
    ∙ ap (λ x. type_of u.var u.opt x t.dims) (base_antisymm t.base u.base p r)
    ∙ ap (λ x. type_of u.var u.opt u.base x) (dims_antisymm t.dims u.dims q s))
    (λ b. no_way_back u t b f))
    (λ b. no_way_back t u b g)

pub below_antisymm : (t u : PlainType) → below t u ≡ true → below u t ≡ true → t ≡ u
below_antisymm t u p q = elim (below_cases t u p) [
  | inl e ↦ e
  | inr f ↦ elim (below_cases u t q) [ inl e ↦ sym e | inr g ↦ fits_antisymm t u f g ]
]

pub types_ordered : IsPartialOrder
types_ordered = record {
  reflexive = Below_refl;
  transitive = Below_trans;
  antisymmetric = λ t u p q. below_antisymm t u (Below_test p) (Below_test q);
}
