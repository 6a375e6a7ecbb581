-- What the tests of types say.
use Rattle.std.proofs.Common.{◌≡◌, Bool, true, false, ◌&&◌, ◌||◌, List, [], ◌∷◌, refl, ap, ◌∙◌, Option, Some, None}
use Rattle.std.proofs.lemmas.Bool.{and_parts, and_from, eqb-true, eq-eqb}
use Rattle.std.specs.Bool.{beq}
use Rattle.std.specs.Cmp.{booleans_Decides}
use Rattle.mz_core.specs.declared.types.Base.{Base}
use Rattle.mz_core.specs.declared.types.Base.TheVariants as base
use Rattle.mz_core.specs.declared.types.Ix.{Ix}
use Rattle.mz_core.specs.declared.types.Ix.TheVariants as ix
use Rattle.mz_core.specs.Types.{PlainType}
use Rattle.mz_core.specs.Order.{same_base, same_index, same_dims, same_type, raises, base_below, index_below, dims_below, mark_below, below_some}

pub and_is : {a b : Bool} → a ≡ true → b ≡ true → a && b ≡ true
and_is {a} {b} p q = and_from a b p q

pub or_left : {a : Bool} (b : Bool) → a ≡ true → a || b ≡ true
or_left b p = rw p refl

pub or_right : (a : Bool) {b : Bool} → b ≡ true → a || b ≡ true
or_right true p = refl
or_right false p = p

-- equality

pub same_bool_is : (a b : Bool) → beq a b ≡ true → a ≡ b
same_bool_is a b h = (booleans_Decides a b).0 h

pub same_bool_refl : (a : Bool) → beq a a ≡ true
same_bool_refl a = (booleans_Decides a a).1 refl

pub same_base_is : (a b : Base) → same_base a b ≡ true → a ≡ b
same_base_is base.Bool base.Bool h = refl
same_base_is base.Int base.Int h = refl
same_base_is (base.Enum e) (base.Enum f) h = ap base.Enum (eqb-true e f h)
same_base_is base.SetInt base.SetInt h = refl
same_base_is (base.SetEnum e) (base.SetEnum f) h = ap base.SetEnum (eqb-true e f h)
same_base_is base.SetBottom base.SetBottom h = refl
same_base_is base.Text base.Text h = refl
same_base_is base.Bottom base.Bottom h = refl
same_base_is a b h = absurd cc

pub same_base_refl : (a : Base) → same_base a a ≡ true
same_base_refl (base.Enum e) = eq-eqb e e refl
same_base_refl (base.SetEnum e) = eq-eqb e e refl
same_base_refl a = refl

pub same_index_is : (x y : Ix) → same_index x y ≡ true → x ≡ y
same_index_is ix.Int ix.Int h = refl
same_index_is (ix.Enum e) (ix.Enum f) h = ap ix.Enum (eqb-true e f h)
same_index_is x y h = absurd cc

pub same_index_refl : (x : Ix) → same_index x x ≡ true
same_index_refl ix.Int = refl
same_index_refl (ix.Enum e) = eq-eqb e e refl

pub same_dims_is : (xs ys : List Ix) → same_dims xs ys ≡ true → xs ≡ ys
unfolding same_dims
same_dims_is [] [] h = refl
same_dims_is (x ∷ xs) (y ∷ ys) h =
    let p = and_parts (same_index x y) (same_dims xs ys) h in
    rw (same_index_is x y p.0, same_dims_is xs ys p.1) refl
same_dims_is xs ys h = absurd cc

pub same_dims_refl : (xs : List Ix) → same_dims xs xs ≡ true
unfolding same_dims
same_dims_refl [] = refl
same_dims_refl (x ∷ xs) = and_is (same_index_refl x) (same_dims_refl xs)

abbrev pub type_of : Bool → Bool → Base → List Ix → PlainType
type_of v o b ds = record { var = v; opt = o; base = b; dims = ds }

pub same_type_is : (t u : PlainType) → same_type t u ≡ true → t ≡ u
unfolding same_type
same_type_is t u h =
    let p = and_parts (beq t.var u.var) (beq t.opt u.opt && (same_base t.base u.base && same_dims t.dims u.dims)) h in
    let q = and_parts (beq t.opt u.opt) (same_base t.base u.base && same_dims t.dims u.dims) p.1 in
    let r = and_parts (same_base t.base u.base) (same_dims t.dims u.dims) q.1 in
    ap (λ x. type_of x t.opt t.base t.dims) (same_bool_is t.var u.var p.0)
    ∙ ap (λ x. type_of u.var x t.base t.dims) (same_bool_is t.opt u.opt q.0)
    ∙ ap (λ x. type_of u.var u.opt x t.dims) (same_base_is t.base u.base r.0)
    ∙ ap (λ x. type_of u.var u.opt u.base x) (same_dims_is t.dims u.dims r.1)

pub same_type_refl : (t : PlainType) → same_type t t ≡ true
unfolding same_type
same_type_refl t = and_is (same_bool_refl t.var) (and_is (same_bool_refl t.opt) (and_is (same_base_refl t.base) (same_dims_refl t.dims)))

-- order

pub index_below_refl : (x : Ix) → index_below x x ≡ true
index_below_refl ix.Int = refl
index_below_refl (ix.Enum e) = eq-eqb e e refl

pub dims_below_refl : (xs : List Ix) → dims_below xs xs ≡ true
unfolding dims_below
dims_below_refl [] = refl
dims_below_refl (x ∷ xs) = and_is (index_below_refl x) (dims_below_refl xs)

pub mark_below_refl : (a : Bool) → mark_below a a ≡ true
mark_below_refl true = refl
mark_below_refl false = refl

pub base_below_refl : (a : Base) → base_below a a ≡ true
base_below_refl a = or_left (raises a a) (same_base_refl a)

-- a base that is raised to another is below what that one is below
pub raises_below : (a b c : Base) → raises a b ≡ true → base_below b c ≡ true → base_below a c ≡ true
raises_below base.Bool base.Int base.Int h k = refl
raises_below (base.Enum e) base.Int base.Int h k = refl
raises_below (base.SetEnum e) base.SetInt base.SetInt h k = refl
raises_below base.SetBottom base.SetInt base.SetInt h k = refl
raises_below base.SetBottom (base.SetEnum e) base.SetInt h k = refl
raises_below base.SetBottom (base.SetEnum e) (base.SetEnum f) h k = refl
raises_below base.SetBottom base.SetBottom c h k = k
raises_below base.Bottom b c h k = or_right (same_base base.Bottom c) refl
raises_below a b c h k = absurd cc

pub raises_below_some : (a b : Base) (s : Option Base) → raises a b ≡ true → below_some b s ≡ true → below_some a s ≡ true
raises_below_some a b None h k = k
raises_below_some a b (Some s) h k = raises_below a b s h k
