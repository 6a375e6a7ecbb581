-- The least base and the least index types above two.
use Rattle.std.proofs.Common.{◌≡◌, ℕ, true, false, ◌||◌, List, [], ◌∷◌, Option, Some, None, nat_eq, is_some, length, refl, ap, sym, ◌∙◌, subst, inl, inr, arith}
use Rattle.std.proofs.lemmas.Bool.{and_parts, or_cases, cases_Bool, both_ways, true≢false, eqb-true, eq-eqb}
use Rattle.mz_core.specs.declared.types.Base.{Base}
use Rattle.mz_core.specs.declared.types.Base.TheVariants as base
use Rattle.mz_core.specs.declared.types.Ix.{Ix}
use Rattle.mz_core.specs.declared.types.Ix.TheVariants as ix
use Rattle.mz_core.specs.Order.{base_below, raises, same_base, same_index, index_below, dims_below, set_of, below_some}
use Rattle.mz_core.specs.Join.{base_apart, base_join, index_join, indices_join, number_above, element_join}
use Rattle.mz_core.specs.Types.{is_set}
use Rattle.mz_core.specs.Coercions.{Raises, bool_to_int, enum_to_int, set_enum_to_set_int, bottom_to_base, set_bottom_to_set}
use Rattle.mz_core.specs.declared.types.Coercion.{Coercion}
use Rattle.mz_core.proofs.Tests.{and_is, or_right, base_below_refl, index_below_refl, same_index_is, same_base_is}
use Rattle.mz_core.proofs.PathLaws.{raising_is}

-- BASES

pub record LeastBase (a b j : Base) : Type 0 where
  pub first : base_below a j ≡ true
  pub second : base_below b j ≡ true
  pub least : (c : Base) → base_below a c ≡ true → base_below b c ≡ true → base_below j c ≡ true

abbrev pub IsBaseJoin : Base → Base → Option Base → Type 0
IsBaseJoin a b None = (c : Base) → base_below a c ≡ true → base_below b c ≡ true → ⊥
IsBaseJoin a b (Some j) = LeastBase a b j

-- an enum is below no other enum
pub enum_below : (e f : ℕ) → base_below (base.Enum e) (base.Enum f) ≡ true → e ≡ f
enum_below e f h = elim (or_cases (nat_eq e f) false h) [ inl p ↦ eqb-true e f p | inr p ↦ absurd cc ]

set_enum_below : (e f : ℕ) → base_below (base.SetEnum e) (base.SetEnum f) ≡ true → e ≡ f
set_enum_below e f h = elim (or_cases (nat_eq e f) false h) [ inl p ↦ eqb-true e f p | inr p ↦ absurd cc ]

same_below : (a b : Base) → a ≡ b → base_below a b ≡ true
same_below a b e = subst (λ x. base_below a x ≡ true) e (base_below_refl a)

enums_least : (e f : ℕ) → base_below (base.Enum e) (base.Enum f) ≡ false → (c : Base) → base_below (base.Enum e) c ≡ true → base_below (base.Enum f) c ≡ true → base_below base.Int c ≡ true
enums_least e f n base.Int p q = refl
enums_least e f n (base.Enum g) p q =
    absurd (both_ways (base_below (base.Enum e) (base.Enum f)) n (same_below (base.Enum e) (base.Enum f) (ap base.Enum (enum_below e g p ∙ sym (enum_below f g q)))))
enums_least e f n c p q = absurd cc

sets_least : (e f : ℕ) → base_below (base.SetEnum e) (base.SetEnum f) ≡ false → (c : Base) → base_below (base.SetEnum e) c ≡ true → base_below (base.SetEnum f) c ≡ true → base_below base.SetInt c ≡ true
sets_least e f n base.SetInt p q = refl
sets_least e f n (base.SetEnum g) p q =
    absurd (both_ways (base_below (base.SetEnum e) (base.SetEnum f)) n (same_below (base.SetEnum e) (base.SetEnum f) (ap base.SetEnum (set_enum_below e g p ∙ sym (set_enum_below f g q)))))
sets_least e f n c p q = absurd cc

bool_least : (f : ℕ) (c : Base) → base_below base.Bool c ≡ true → base_below (base.Enum f) c ≡ true → base_below base.Int c ≡ true
bool_least f base.Int p q = refl
bool_least f c p q = absurd cc

-- nothing is above two bases that are apart, where the table has none
raised_apart : {f g : Coercion} {a b c : Base} → Raises f a c → Raises g b c → base_apart a b ≡ None → base_below a b ≡ false → base_below b a ≡ false → ⊥
raised_apart {b = b} (bottom_to_base x) s e n m = both_ways (base_below base.Bottom b) n (or_right (same_base base.Bottom b) refl)
raised_apart {a = a} r (bottom_to_base x) e n m = both_ways (base_below base.Bottom a) m (or_right (same_base base.Bottom a) refl)
raised_apart bool_to_int bool_to_int e n m = absurd cc
raised_apart bool_to_int (enum_to_int f) e n m = absurd cc
raised_apart bool_to_int (set_bottom_to_set b h) e n m = absurd cc
raised_apart (enum_to_int f) bool_to_int e n m = absurd cc
raised_apart (enum_to_int f) (enum_to_int g) e n m = absurd cc
raised_apart (enum_to_int f) (set_bottom_to_set b h) e n m = absurd cc
raised_apart (set_enum_to_set_int f) (set_enum_to_set_int g) e n m = absurd cc
raised_apart (set_enum_to_set_int f) (set_bottom_to_set b h) e n m = absurd cc
raised_apart (set_bottom_to_set b h) bool_to_int e n m = absurd cc
raised_apart (set_bottom_to_set b h) (enum_to_int g) e n m = absurd cc
raised_apart (set_bottom_to_set b h) (set_enum_to_set_int g) e n m = absurd cc
raised_apart (set_bottom_to_set b h) (set_bottom_to_set c k) e n m = absurd cc

-- a base below another is it, or is raised to it
raised : (a b c : Base) → base_below b a ≡ false → base_below a c ≡ true → base_below b c ≡ true → raises a c ≡ true
raised a b c m p q = elim (or_cases (same_base a c) (raises a c) p) [
  | inl e ↦ absurd (both_ways (base_below b a) m (subst (λ x. base_below b x ≡ true) (sym (same_base_is a c e)) q))
  | inr r ↦ r
]

none_above : (a b c : Base) → base_apart a b ≡ None → base_below a b ≡ false → base_below b a ≡ false → base_below a c ≡ true → base_below b c ≡ true → ⊥
none_above a b c e n m p q = raised_apart (raising_is a c (raised a b c m p q)) (raising_is b c (raised b a c n q p)) e n m

base_apart_is : (a b : Base) → base_below a b ≡ false → base_below b a ≡ false → IsBaseJoin a b (base_apart a b)
base_apart_is base.Bool (base.Enum f) n m = record { first = refl; second = refl; least = bool_least f }
base_apart_is (base.Enum e) base.Bool n m = record { first = refl; second = refl; least = λ c p q. bool_least e c q p }
base_apart_is (base.Enum e) (base.Enum f) n m = record { first = refl; second = refl; least = enums_least e f n }
base_apart_is (base.SetEnum e) (base.SetEnum f) n m = record { first = refl; second = refl; least = sets_least e f n }
base_apart_is a b n m = λ c. none_above a b c refl n m

pub base_join_is : (a b : Base) → IsBaseJoin a b (base_join a b)
base_join_is a b = elim (cases_Bool (base_below a b)) [
  | inl h ↦ rw h (record { first = h; second = base_below_refl b; least = λ c p q. q })
  | inr n ↦ rw n (elim (cases_Bool (base_below b a)) [
    | inl h ↦ rw h (record { first = base_below_refl a; second = h; least = λ c p q. p })
    | inr m ↦ rw m (base_apart_is a b n m)
  ])
]

-- BASES OF ARRAYS THAT SETS BECOME

pub record LeastElement (a b j : Base) : Type 0 where
  pub set : below_some a (set_of j) ≡ true
  pub second : base_below b j ≡ true
  pub least : (c : Base) → below_some a (set_of c) ≡ true → base_below b c ≡ true → base_below j c ≡ true

-- each enum is the base of an array above both
abbrev pub EachEnumAbove : Base → Base → Type 0
EachEnumAbove a b = (e : ℕ) → (below_some a (set_of (base.Enum e)) ≡ true) × (base_below b (base.Enum e) ≡ true)

abbrev pub IsElementJoin : Base → Base → Option Base → Type 0
IsElementJoin a b None = (c : Base) → below_some a (set_of c) ≡ true → base_below b c ≡ true → EachEnumAbove a b
IsElementJoin a b (Some j) = LeastElement a b j

of_integers : (c : Base) → below_some base.SetInt (set_of c) ≡ base_below base.Int c
of_integers base.Int = refl
of_integers c = refl

of_cases : (e : ℕ) (c : Base) → below_some (base.SetEnum e) (set_of c) ≡ base_below (base.Enum e) c
of_cases e base.Int = refl
of_cases e (base.Enum f) = refl
of_cases e c = refl

-- a set whose elements have base x
by_elements : (a x b : Base) → ((c : Base) → below_some a (set_of c) ≡ base_below x c) → (o : Option Base) → IsBaseJoin x b o → IsElementJoin a b o
by_elements a x b s None k = λ c p q. absurd (k c (sym (s c) ∙ p) q)
by_elements a x b s (Some j) k = record { set = s j ∙ k.first; second = k.second; least = λ c p q. k.least c (sym (s c) ∙ p) q }

-- {} and what is Bottom become any array
abbrev Any : Base → Type 0
Any a = (b : Base) → is_some (set_of b) ≡ true → below_some a (set_of b) ≡ true

any_bottom : Any base.Bottom
any_bottom base.Int h = refl
any_bottom (base.Enum e) h = refl
any_bottom b h = absurd cc

any_set : Any base.SetBottom
any_set base.Int h = refl
any_set (base.Enum e) h = refl
any_set b h = absurd cc

bool_number : (a c : Base) → below_some a (set_of c) ≡ true → base_below base.Bool c ≡ true → base_below base.Int c ≡ true
bool_number a base.Int p q = refl
bool_number a base.Bool p q = p
bool_number a c p q = absurd cc

no_number : (a b c : Base) → number_above b ≡ None → below_some a (set_of c) ≡ true → base_below b c ≡ true → b ≡ base.Bottom
no_number a base.SetInt base.Int e p q = absurd cc
no_number a base.SetInt c e p q = absurd cc
no_number a (base.SetEnum f) base.Int e p q = absurd cc
no_number a (base.SetEnum f) c e p q = absurd cc
no_number a base.SetBottom base.Int e p q = absurd cc
no_number a base.SetBottom c e p q = absurd cc
no_number a base.Text base.Int e p q = absurd cc
no_number a base.Text c e p q = absurd cc
no_number a base.Bottom c e p q = refl
no_number a b c e p q = absurd cc

above_each : (a b : Base) → Any a → b ≡ base.Bottom → EachEnumAbove a b
above_each a b any e = λ n. (any (base.Enum n) refl, subst (λ x. base_below x (base.Enum n) ≡ true) (sym e) refl)

number_above_is : (a b : Base) → Any a → IsElementJoin a b (number_above b)
number_above_is a base.Bool any = record { set = any base.Int refl; second = refl; least = bool_number a }
number_above_is a base.Int any = record { set = any base.Int refl; second = refl; least = λ c p q. q }
number_above_is a (base.Enum e) any = record { set = any (base.Enum e) refl; second = base_below_refl (base.Enum e); least = λ c p q. q }
number_above_is a b any = λ c p q. above_each a b any (no_number a b c refl p q)

-- no array comes from what is neither a set nor Bottom
no_set : {X : Type 0} (a c : Base) → is_set a || same_base a base.Bottom ≡ false → below_some a (set_of c) ≡ true → X
no_set base.Bool base.Int n h = absurd cc
no_set base.Bool c n h = absurd cc
no_set base.Int base.Int n h = absurd cc
no_set base.Int c n h = absurd cc
no_set (base.Enum e) base.Int n h = absurd cc
no_set (base.Enum e) c n h = absurd cc
no_set base.Text base.Int n h = absurd cc
no_set base.Text c n h = absurd cc
no_set a c n h = absurd cc

pub element_join_is : (a b : Base) → IsElementJoin a b (element_join a b)
element_join_is base.SetInt b = by_elements base.SetInt base.Int b of_integers (base_join base.Int b) (base_join_is base.Int b)
element_join_is (base.SetEnum e) b = by_elements (base.SetEnum e) (base.Enum e) b (of_cases e) (base_join (base.Enum e) b) (base_join_is (base.Enum e) b)
element_join_is base.SetBottom b = number_above_is base.SetBottom b any_set
element_join_is base.Bottom b = number_above_is base.Bottom b any_bottom
element_join_is a b = λ c p q. no_set a c refl p

-- no base of an array is below each enum
pub below_each : (a j : Base) → below_some a (set_of j) ≡ true → ((e : ℕ) → base_below j (base.Enum e) ≡ true) → ⊥
below_each a base.Int h each = absurd (true≢false (sym (each 0)))
below_each a (base.Enum f) h each = absurd (omega (arith, enum_below f 0 (each 0), enum_below f 1 (each 1)))
below_each a j h each = absurd cc

-- INDICES

pub indices_join_first : (xs ys : List Ix) → length xs ≡ length ys → dims_below xs (indices_join xs ys) ≡ true
unfolding dims_below
indices_join_first [] ys e = refl
indices_join_first (x ∷ xs) [] e = absurd (omega (arith, e))
indices_join_first (x ∷ xs) (y ∷ ys) e = and_is (index_join_first x y) (indices_join_first xs ys (omega (arith, e)))
  where
    index_join_first : (x y : Ix) → index_below x (index_join x y) ≡ true
    index_join_first x y = elim (cases_Bool (same_index x y)) [ inl e ↦ rw e (index_below_refl x) | inr n ↦ rw n refl ]

pub indices_join_second : (xs ys : List Ix) → length xs ≡ length ys → dims_below ys (indices_join xs ys) ≡ true
unfolding dims_below
indices_join_second [] [] e = refl
indices_join_second [] (y ∷ ys) e = absurd (omega (arith, e))
indices_join_second (x ∷ xs) [] e = absurd (omega (arith, e))
indices_join_second (x ∷ xs) (y ∷ ys) e = and_is (index_join_second x y) (indices_join_second xs ys (omega (arith, e)))
  where
    index_join_second : (x y : Ix) → index_below y (index_join x y) ≡ true
    index_join_second x y = elim (cases_Bool (same_index x y)) [ inl e ↦ rw e (subst (λ z. index_below y z ≡ true) (sym (same_index_is x y e)) (index_below_refl y)) | inr n ↦ rw n refl ]

pub indices_join_least : (xs ys zs : List Ix) → dims_below xs zs ≡ true → dims_below ys zs ≡ true → dims_below (indices_join xs ys) zs ≡ true
unfolding dims_below
indices_join_least [] ys zs p q = p
indices_join_least (x ∷ xs) [] [] p q = refl
indices_join_least (x ∷ xs) [] (z ∷ zs) p q = absurd cc
indices_join_least (x ∷ xs) (y ∷ ys) [] p q = absurd cc
indices_join_least (x ∷ xs) (y ∷ ys) (z ∷ zs) p q =
    let a = and_parts (index_below x z) (dims_below xs zs) p in
    let b = and_parts (index_below y z) (dims_below ys zs) q in
    and_is (index_join_least x y z a.0 b.0) (indices_join_least xs ys zs a.1 b.1)
  where
    index_join_least : (x y z : Ix) → index_below x z ≡ true → index_below y z ≡ true → index_below (index_join x y) z ≡ true
    index_join_least x y ix.Int p q = refl
    index_join_least ix.Int y (ix.Enum g) p q = absurd cc
    index_join_least (ix.Enum e) ix.Int (ix.Enum g) p q = absurd cc
    index_join_least (ix.Enum e) (ix.Enum f) (ix.Enum g) p q = rw (eq-eqb e f (eqb-true e g p ∙ sym (eqb-true f g q))) p

pub dims_below_length : (xs ys : List Ix) → dims_below xs ys ≡ true → length xs ≡ length ys
unfolding dims_below
dims_below_length [] [] h = refl
dims_below_length [] (y ∷ ys) h = absurd cc
dims_below_length (x ∷ xs) [] h = absurd cc
dims_below_length (x ∷ xs) (y ∷ ys) h =
    let p = and_parts (index_below x y) (dims_below xs ys) h in
    omega (arith, dims_below_length xs ys p.1)
