-- The resolution is the first best candidate, and what it means.
use Rattle.std.proofs.lemmas.Bool.{and_parts}
use Rattle.std.proofs.Common.{◌≡◌, ℕ, zero, suc, ◌+◌, Bool, true, false, not, ◌&&◌, ◌||◌, List, [], ◌∷◌, Option, Some, None, ◌⊎◌, inl, inr, refl, sym, subst, arith, if◌then◌else◌, ◌∙◌}
use Rattle.std.specs.Prelude.{slice_get}
use Rattle.std.specs.List.{list_any, list_all, position_from}
use Rattle.mz_core.specs.Types.{PlainType, PlainSignature}
use Rattle.mz_core.specs.Order.{below}
use Rattle.mz_core.proofs.OrderLaws.{complete}
use Rattle.mz_core.proofs.PathLaws.{leads_on, sound}
use Rattle.mz_overload.specs.declared.resolution.Resolution.{Resolution}
use Rattle.mz_overload.specs.declared.resolution.Resolution.TheVariants.{One, Ambiguous}
use Rattle.mz_overload.specs.Best.{all_below, accepts, is_least, is_best, resolution_of, resolution, IsAccepting, IsBest, IsResolution}
use Rattle.mz_overload.specs.StepsResolution.{resolution_from, first_accepting}

-- the order goes on, since paths do
below_trans : (t u v : PlainType) → below t u ≡ true → below u v ≡ true → below t v ≡ true
below_trans t u v p q = let a = sound t u p in let b = sound u v q in complete (leads_on a.1 b.1)

bool_case : (b : Bool) → (b ≡ true) ⊎ (b ≡ false)
bool_case true = inl refl
bool_case false = inr refl

implied : (a b : Bool) → not a || b ≡ true → a ≡ true → b ≡ true
implied true b h e = h
implied false b h e = absurd cc

implies : (a b : Bool) → (a ≡ true → b ≡ true) → not a || b ≡ true
implies true b h = h refl
implies false b h = refl

all_of : {a b : Bool} → a ≡ true → b ≡ true → a && b ≡ true
all_of p q = rw (p, q) refl

-- the order on lists of types goes on
pub all_below_trans : (ts us vs : List PlainType) → all_below ts us ≡ true → all_below us vs ≡ true → all_below ts vs ≡ true
unfolding all_below
all_below_trans [] [] [] p q = refl
all_below_trans [] [] (v ∷ vs) p q = q
all_below_trans [] (u ∷ us) vs p q = absurd cc
all_below_trans (t ∷ ts) [] vs p q = absurd cc
all_below_trans (t ∷ ts) (u ∷ us) [] p q = absurd cc
all_below_trans (t ∷ ts) (u ∷ us) (v ∷ vs) p q =
    let a = and_parts (below t u) (all_below ts us) p in
    let b = and_parts (below u v) (all_below us vs) q in
    all_of (below_trans t u v a.0 b.0) (all_below_trans ts us vs a.1 b.1)

-- a candidate below a least one is least
least_below : (ds : List PlainSignature) (args : List PlainType) (c d : PlainSignature) → all_below c.params d.params ≡ true → is_least ds args d ≡ true → is_least ds args c ≡ true
unfolding is_least
least_below [] args c d p h = refl
least_below (x ∷ ds) args c d p h =
    let a = and_parts (not (accepts args x) || all_below d.params x.params) (is_least ds args d) h in
    all_of (implies (accepts args x) (all_below c.params x.params) (λ e. all_below_trans c.params d.params x.params p (implied (accepts args x) (all_below d.params x.params) a.0 e))) (least_below ds args c d p a.1)

-- what is least of all is least of the rest
abbrev OfAll : List PlainSignature → List PlainSignature → List PlainType → Type 0
OfAll all rest args = (c : PlainSignature) → is_least all args c ≡ true → is_least rest args c ≡ true

least_rest : (all rest : List PlainSignature) (args : List PlainType) (d : PlainSignature) → OfAll all (d ∷ rest) args → OfAll all rest args
unfolding is_least
least_rest all rest args d h c e = (and_parts (not (accepts args d) || all_below c.params d.params) (is_least rest args c) (h c e)).1

least_first : (all rest : List PlainSignature) (args : List PlainType) (d c : PlainSignature) → OfAll all (d ∷ rest) args → is_least all args c ≡ true → accepts args d ≡ true → all_below c.params d.params ≡ true
unfolding is_least
least_first all rest args d c h e a = implied (accepts args d) (all_below c.params d.params) (and_parts (not (accepts args d) || all_below c.params d.params) (is_least rest args c) (h c e)).0 a

-- c is the best, or else the first best of the rest
abbrev first_best : List PlainSignature → List PlainType → ℕ → PlainSignature → ℕ → List PlainSignature → Resolution
first_best all args k c i rest = resolution_of (if is_best all args c then Some k else position_from (is_best all args) i rest) true

-- a candidate above c that is best leaves c the best
passed : (c_is d_is : Bool) (k i : ℕ) (r : Option ℕ) → (d_is ≡ true → c_is ≡ true) → resolution_of (if c_is then Some k else r) true ≡ resolution_of (if c_is then Some k else (if d_is then Some i else r)) true
passed true d_is k i r h = refl
passed false true k i r h = absurd (let e = h refl in cc)
passed false false k i r h = refl

replaced : (c_is d_is : Bool) (k i : ℕ) (r : Option ℕ) → (c_is ≡ true → ⊥) → resolution_of (if d_is then Some i else r) true ≡ resolution_of (if c_is then Some k else (if d_is then Some i else r)) true
replaced true d_is k i r h = absurd (h refl)
replaced false d_is k i r h = refl

settled : (a l : Bool) (k : ℕ) → a ≡ true → (if l then One k else Ambiguous) ≡ resolution_of (if a && l then Some k else None) true
settled true true k e = refl
settled true false k e = refl
settled false l k e = absurd cc

branch : (a b : Bool) (x y z : Resolution) → (a ≡ false → y ≡ z) → (a ≡ true → b ≡ true → y ≡ z) → (a ≡ true → b ≡ false → x ≡ z) → (if a && not b then x else y) ≡ z
branch true true x y z f g h = g refl refl
branch true false x y z f g h = h refl refl
branch false b x y z f g h = f refl

refused : (a l : Bool) → a ≡ false → a && l ≡ true → ⊥
refused true l e f = absurd cc
refused false l e f = absurd cc

pub from_is : (all : List PlainSignature) (args : List PlainType) (k : ℕ) (c : PlainSignature) (i : ℕ) (rest : List PlainSignature) → accepts args c ≡ true → OfAll all rest args → resolution_from all args k c i rest ≡ first_best all args k c i rest
unfolding resolution_from
from_is all args k c i [] a h = settled (accepts args c) (is_least all args c) k a
from_is all args k c i (d ∷ ds) a h =
    let after = position_from (is_best all args) (i + 1) ds in
    let rest_of : OfAll all ds args = least_rest all ds args d h in
    let stays = from_is all args k c (i + 1) ds a rest_of in
    branch (accepts args d) (all_below c.params d.params) (resolution_from all args i d (i + 1) ds) (resolution_from all args k c (i + 1) ds) (first_best all args k c i (d ∷ ds))
    (λ e. stays ∙ passed (is_best all args c) (is_best all args d) k i after (λ f. absurd (refused (accepts args d) (is_least all args d) e f)))
    (λ e b. stays ∙ passed (is_best all args c) (is_best all args d) k i after (λ f. all_of a (least_below all args c d b (and_parts (accepts args d) (is_least all args d) f).1)))
    (λ e b. from_is all args i d (i + 1) ds e rest_of ∙ replaced (is_best all args c) (is_best all args d) k i after (λ f. let g = least_first all ds args d c h (and_parts (accepts args c) (is_least all args c) f).1 e in cc))

-- no candidate before the i-th accepts
abbrev best_of : List PlainSignature → List PlainType → ℕ → List PlainSignature → Resolution
best_of all args i rest = resolution_of (position_from (is_best all args) i rest) (list_any (accepts args) rest)

begins : (a l : Bool) (x y : Resolution) (i : ℕ) (r : Option ℕ) (s : Bool) → (a ≡ true → x ≡ resolution_of (if a && l then Some i else r) true) → (a ≡ false → y ≡ resolution_of r s) → (if a then x else y) ≡ resolution_of (if a && l then Some i else r) (a || s)
begins true l x y i r s f g = f refl
begins false l x y i r s f g = g refl

pub first_is : (all : List PlainSignature) (args : List PlainType) (i : ℕ) (rest : List PlainSignature) → OfAll all rest args → first_accepting all args i rest ≡ best_of all args i rest
unfolding first_accepting
first_is all args i [] h = refl
first_is all args i (c ∷ cs) h =
    begins (accepts args c) (is_least all args c) (resolution_from all args i c (i + 1) cs) (first_accepting all args (i + 1) cs) i (position_from (is_best all args) (i + 1) cs) (list_any (accepts args) cs)
    (λ e. from_is all args i c (i + 1) cs e (least_rest all cs args c h))
    (λ e. first_is all args (i + 1) cs (least_rest all cs args c h))

-- the first that passes a test stands in the list, and passes
abbrev Hit : {X : Type 0} → (X → Bool) → ℕ → List X → ℕ → Type 0
Hit {X} t i xs k = (m : ℕ) × ((c : X) × (slice_get xs m ≡ Some c) × (t c ≡ true) × (i + m ≡ k))

hit : {X : Type 0} (t : X → Bool) (i : ℕ) (xs : List X) (k : ℕ) → position_from t i xs ≡ Some k → Hit t i xs k
hit t i [] k e = absurd cc
hit {X} t i (x ∷ xs) k e = elim (bool_case (t x)) [
  | inl h ↦ let f = rw h at e in let q : i ≡ k = cc in (zero, (x, refl, h, omega arith))
  | inr h ↦ let r = hit t (i + 1) xs k (rw h at e) in (suc r.0, (r.1.0, r.1.1, r.1.2, omega (arith, r.1.3)))
]

-- where none passes, no element does
miss : {X : Type 0} (t : X → Bool) (i : ℕ) (xs : List X) → position_from t i xs ≡ None → (m : ℕ) (c : X) → slice_get xs m ≡ Some c → t c ≡ true → ⊥
miss t i [] e m c at h = absurd cc
miss {X} t i (x ∷ xs) e zero c at h = elim (bool_case (t x)) [
  | inl f ↦ let g = rw f at e in cc
  | inr f ↦ let q : x ≡ c = cc in let g = subst (λ y. t y ≡ false) q f in cc
]
miss {X} t i (x ∷ xs) e (suc m) c at h = elim (bool_case (t x)) [
  | inl f ↦ let g = rw f at e in cc
  | inr f ↦ miss t (i + 1) xs (rw f at e) m c at h
]

some_passes : {X : Type 0} (t : X → Bool) (xs : List X) → list_any t xs ≡ true → (m : ℕ) × ((c : X) × (slice_get xs m ≡ Some c) × (t c ≡ true))
some_passes t [] e = absurd cc
some_passes {X} t (x ∷ xs) e = elim (bool_case (t x)) [
  | inl h ↦ (zero, (x, refl, h))
  | inr h ↦ let r = some_passes t xs (rw h at e) in (suc r.0, (r.1.0, r.1.1, r.1.2))
]

none_passes : {X : Type 0} (t : X → Bool) (xs : List X) → list_any t xs ≡ false → (m : ℕ) (c : X) → slice_get xs m ≡ Some c → t c ≡ true → ⊥
none_passes t [] e m c at h = absurd cc
none_passes {X} t (x ∷ xs) e zero c at h = let q : x ≡ c = cc in let g = subst (λ y. t y ≡ true) (sym q) h in let f = rw g at e in cc
none_passes {X} t (x ∷ xs) e (suc m) c at h = elim (bool_case (t x)) [
  | inl f ↦ let g = rw f at e in cc
  | inr f ↦ none_passes t xs (rw f at e) m c at h
]

all_pass : {X : Type 0} (t : X → Bool) (xs : List X) → list_all t xs ≡ true → (m : ℕ) (c : X) → slice_get xs m ≡ Some c → t c ≡ true
all_pass t [] e m c at = absurd cc
all_pass {X} t (x ∷ xs) e zero c at = let q : x ≡ c = cc in subst (λ y. t y ≡ true) q (and_parts (t x) (list_all t xs) e).0
all_pass t (x ∷ xs) e (suc m) c at = all_pass t xs (and_parts (t x) (list_all t xs) e).1 m c at

each_passes : {X : Type 0} (t : X → Bool) (xs : List X) → ((m : ℕ) (c : X) → slice_get xs m ≡ Some c → t c ≡ true) → list_all t xs ≡ true
each_passes t [] h = refl
each_passes t (x ∷ xs) h = all_of (h zero x refl) (each_passes t xs (λ m c at. h (suc m) c at))

best_passes : (cands : List PlainSignature) (args : List PlainType) (k : ℕ) (c : PlainSignature) → IsBest cands args k c → is_best cands args c ≡ true
unfolding is_least
best_passes cands args k c b =
    all_of b.accepted.accepting (each_passes (λ d. not (accepts args d) || all_below c.params d.params) cands
    (λ m d at. implies (accepts args d) (all_below c.params d.params) (λ a. b.least m d (record { at = at; accepting = a }))))

least_of : (cands : List PlainSignature) (args : List PlainType) (c : PlainSignature) → is_least cands args c ≡ true → (j : ℕ) (d : PlainSignature) → IsAccepting cands args j d → all_below c.params d.params ≡ true
unfolding is_least
least_of cands args c h j d a = implied (accepts args d) (all_below c.params d.params) (all_pass (λ x. not (accepts args x) || all_below c.params x.params) cands h j d a.at) a.accepting

is_resolution_of : (cands : List PlainSignature) (args : List PlainType) (o : Option ℕ) (b : Bool) → position_from (is_best cands args) 0 cands ≡ o → list_any (accepts args) cands ≡ b → IsResolution cands args (resolution_of o b)
is_resolution_of cands args (Some k) b e f =
    let r = hit (is_best cands args) 0 cands k e in
    let c = r.1.0 in
    let q : r.0 ≡ k = omega (arith, r.1.3) in
    let p = and_parts (accepts args c) (is_least cands args c) r.1.2 in
    (c, record { accepted = record { at = subst (λ m. slice_get cands m ≡ Some c) q r.1.1; accepting = p.0 }; least = least_of cands args c p.1 })
is_resolution_of cands args None true e f =
    let r = some_passes (accepts args) cands f in
    ((r.0, (r.1.0, record { at = r.1.1; accepting = r.1.2 })), λ k c b. miss (is_best cands args) 0 cands e k c b.accepted.at (best_passes cands args k c b))
is_resolution_of cands args None false e f = λ j d a. none_passes (accepts args) cands f j d a.at a.accepting

-- the resolution means what it is to mean
pub resolution_is : (cands : List PlainSignature) (args : List PlainType) → IsResolution cands args (resolution cands args)
unfolding resolution
resolution_is cands args = is_resolution_of cands args (position_from (is_best cands args) 0 cands) (list_any (accepts args) cands) refl refl

-- the first candidate that accepts, and those that replace it, lead to the first best
pub chosen_first : (cands : List PlainSignature) (args : List PlainType) → first_accepting cands args 0 cands ≡ resolution cands args
unfolding resolution
chosen_first cands args = first_is cands args 0 cands (λ c h. h)

pub chosen_is : (cands : List PlainSignature) (args : List PlainType) (r : Resolution) → r ≡ resolution cands args → IsResolution cands args r
chosen_is cands args r e = subst (λ x. IsResolution cands args x) (sym e) (resolution_is cands args)
