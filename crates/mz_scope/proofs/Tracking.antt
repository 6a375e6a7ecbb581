-- What was declared and given a value before each occurrence.
use Rattle.std.proofs.Common.{◌≡◌, ℕ, zero, suc, ◌+◌, ◌<◌, ◌≤◌, Bool, true, false, List, [], ◌∷◌, ◌++◌, refl, ap, sym, ◌∙◌, subst, Option, Some, None, length, get_or, take, drop, append-nil, arith}
use Rattle.std.specs.Prelude.{◌&&◌, ◌||◌, nat_eq, if◌then◌else◌}
use Rattle.std.proofs.lemmas.List.{take_more, drop_all}
use Rattle.mz_base.specs.declared.fault.Span.{Span}
use Rattle.mz_scope_names.specs.declared.occurrence.Occurrence.{Occurrence}
use Rattle.mz_scope_names.specs.declared.occurrence.Role.{Role}
use Rattle.mz_scope_names.specs.declared.occurrence.Role.TheVariants.{Declared, Overloaded, Valued, Used, Local, Lacking, Wanting, Caseless, Listed, Misfit}
use Rattle.mz_scope_names.specs.Sets.{holds, with_name}
use Rattle.mz_scope_names.proofs.Holding.{holds_added, holds_both}
use Rattle.mz_scope_names.proofs.Lists.{flat_of_both}
use Rattle.mz_scope.specs.Spaces.{declares, gives, names_with, name_in}
use Rattle.mz_scope.specs.Tests.{is_repeated, first_after}
use Rattle.mz_scope.specs.StepsTests.{Tracks, repeated_in, declared_after, valued_after}

or_false : (a : Bool) → (a || false) ≡ a
or_false true = refl
or_false false = refl

-- a set after a name, and the names with a role after an occurrence
with_one : (has : Role → Bool) (os : List Occurrence) (o : Occurrence) (n : ℕ) → holds n (names_with has (os ++ o ∷ [])) ≡ (holds n (names_with has os) || holds n (name_in has o))
with_one has os o n = ap (λ z. holds n z) (flat_of_both (name_in has) os (o ∷ [])) ∙ holds_both n (names_with has os) (name_in has o ++ []) ∙ ap (λ z. holds n (names_with has os) || holds n z) (simp append-nil)

added : (has : Role → Bool) (os : List Occurrence) (o : Occurrence) (ds : List ℕ) → has o.role ≡ true → ((n : ℕ) → holds n ds ≡ holds n (names_with has os)) → (n : ℕ) → holds n (with_name ds o.name) ≡ holds n (names_with has (os ++ o ∷ []))
added has os o ds h e n =
    holds_added n o.name ds ∙ ap (λ z. z || nat_eq n o.name) (e n) ∙ ap (λ z. holds n (names_with has os) || z) (sym (or_false (nat_eq n o.name)))
    ∙ ap (λ z. holds n (names_with has os) || holds n (if z then o.name ∷ [] else [])) (sym h) ∙ sym (with_one has os o n)

kept : (has : Role → Bool) (os : List Occurrence) (o : Occurrence) (ds : List ℕ) → has o.role ≡ false → ((n : ℕ) → holds n ds ≡ holds n (names_with has os)) → (n : ℕ) → holds n ds ≡ holds n (names_with has (os ++ o ∷ []))
kept has os o ds h e n =
    e n ∙ sym (or_false (holds n (names_with has os))) ∙ ap (λ z. holds n (names_with has os) || holds n (if z then o.name ∷ [] else [])) (sym h) ∙ sym (with_one has os o n)

declared_case : (r : Role) (os : List Occurrence) (o : Occurrence) (ds : List ℕ) → o.role ≡ r → ((n : ℕ) → holds n ds ≡ holds n (names_with declares os)) → (n : ℕ) → holds n (declared_after r ds o.name) ≡ holds n (names_with declares (os ++ o ∷ []))
declared_case Declared os o ds e t = added declares os o ds (ap declares e) t
declared_case Overloaded os o ds e t = kept declares os o ds (ap declares e) t
declared_case Valued os o ds e t = kept declares os o ds (ap declares e) t
declared_case Used os o ds e t = kept declares os o ds (ap declares e) t
declared_case Local os o ds e t = kept declares os o ds (ap declares e) t
declared_case Lacking os o ds e t = kept declares os o ds (ap declares e) t
declared_case Wanting os o ds e t = kept declares os o ds (ap declares e) t
declared_case Caseless os o ds e t = kept declares os o ds (ap declares e) t
declared_case Listed os o ds e t = kept declares os o ds (ap declares e) t
declared_case Misfit os o ds e t = kept declares os o ds (ap declares e) t

valued_case : (r : Role) (os : List Occurrence) (o : Occurrence) (vs : List ℕ) → o.role ≡ r → ((n : ℕ) → holds n vs ≡ holds n (names_with gives os)) → (n : ℕ) → holds n (valued_after r vs o.name) ≡ holds n (names_with gives (os ++ o ∷ []))
valued_case Valued os o vs e t = added gives os o vs (ap gives e) t
valued_case Declared os o vs e t = kept gives os o vs (ap gives e) t
valued_case Overloaded os o vs e t = kept gives os o vs (ap gives e) t
valued_case Used os o vs e t = kept gives os o vs (ap gives e) t
valued_case Local os o vs e t = kept gives os o vs (ap gives e) t
valued_case Lacking os o vs e t = kept gives os o vs (ap gives e) t
valued_case Wanting os o vs e t = kept gives os o vs (ap gives e) t
valued_case Caseless os o vs e t = kept gives os o vs (ap gives e) t
valued_case Listed os o vs e t = kept gives os o vs (ap gives e) t
valued_case Misfit os o vs e t = kept gives os o vs (ap gives e) t

pub tracks_none : (ds vs : List ℕ) (os : List Occurrence) → ds ≡ [] → vs ≡ [] → Tracks (take 0 os) ds vs
tracks_none ds vs os p q = record { declared = λ n. ap (λ z. holds n z) p; valued = λ n. ap (λ z. holds n z) q }

tracks_more : (os : List Occurrence) (o : Occurrence) (ds vs : List ℕ) → Tracks os ds vs → Tracks (os ++ o ∷ []) (declared_after o.role ds o.name) (valued_after o.role vs o.name)
tracks_more os o ds vs t = record { declared = declared_case o.role os o ds refl t.declared; valued = valued_case o.role os o vs refl t.valued }

repeated_case : (r : Role) (n : ℕ) (ds vs a b : List ℕ) → holds n ds ≡ holds n a → holds n vs ≡ holds n b → repeated_in r ds vs n ≡ ((declares r && holds n a) || (gives r && holds n b))
repeated_case Declared n ds vs a b p q = p ∙ sym (or_false (holds n a))
repeated_case Valued n ds vs a b p q = q
repeated_case Overloaded n ds vs a b p q = refl
repeated_case Used n ds vs a b p q = refl
repeated_case Local n ds vs a b p q = refl
repeated_case Lacking n ds vs a b p q = refl
repeated_case Wanting n ds vs a b p q = refl
repeated_case Caseless n ds vs a b p q = refl
repeated_case Listed n ds vs a b p q = refl
repeated_case Misfit n ds vs a b p q = refl

repeated_is : (os : List Occurrence) (o : Occurrence) (ds vs : List ℕ) → Tracks os ds vs → repeated_in o.role ds vs o.name ≡ is_repeated os o
repeated_is os o ds vs t = repeated_case o.role o.name ds vs (names_with declares os) (names_with gives os) (t.declared o.name) (t.valued o.name)

drop_next : {X : Type 0} (xs : List X) (i : ℕ) (x d : X) → i < length xs → x ≡ get_or xs i d → drop i xs ≡ x ∷ drop (suc i) xs
drop_next [] i x d h e = absurd (omega (arith, h))
drop_next (y ∷ xs) zero x d h e = ap (λ z. z ∷ xs) (sym e)
drop_next (y ∷ xs) (suc i) x d h e = drop_next xs i x d (omega (arith, h)) e

taken : (os : List Occurrence) (i : ℕ) (o : Occurrence) → i < length os → o ≡ get_or os i o → take (i + 1) os ≡ take i os ++ o ∷ []
taken os i o h e = take_more os i o h ∙ ap (λ z. take i os ++ z ∷ []) (sym e)

step : (os : List Occurrence) (i : ℕ) (o : Occurrence) → i < length os → o ≡ get_or os i o → first_after is_repeated (take i os) (drop i os) ≡ (if is_repeated (take i os) o then Some o.span else first_after is_repeated (take i os ++ o ∷ []) (drop (suc i) os))
unfolding first_after
step os i o h e = ap (λ z. first_after is_repeated (take i os) z) (drop_next os i o o h e)

pub not_repeated : (os : List Occurrence) (i : ℕ) (o : Occurrence) (ds vs es ws : List ℕ) (all : Option Span) → i < length os → o ≡ get_or os i o → Tracks (take i os) ds vs → repeated_in o.role ds vs o.name ≡ false → es ≡ declared_after o.role ds o.name → ws ≡ valued_after o.role vs o.name → all ≡ first_after is_repeated (take i os) (drop i os) → record { tracks : Tracks (take (i + 1) os) es ws; first : all ≡ first_after is_repeated (take (i + 1) os) (drop (i + 1) os) }
not_repeated os i o ds vs es ws all h e t r p q f =
    let more = taken os i o h e in
    let one : suc i ≡ i + 1 = omega arith in
    record {
      tracks = subst (λ z. Tracks z es ws) (sym more) (subst (λ z. Tracks (take i os ++ o ∷ []) z ws) (sym p) (subst (λ z. Tracks (take i os ++ o ∷ []) (declared_after o.role ds o.name) z) (sym q) (tracks_more (take i os) o ds vs t)));
      first = f ∙ step os i o h e ∙ ap (λ z. if z then Some o.span else first_after is_repeated (take i os ++ o ∷ []) (drop (suc i) os)) (sym (repeated_is (take i os) o ds vs t) ∙ r) ∙ ap (λ z. first_after is_repeated z (drop (suc i) os)) (sym more) ∙ ap (λ z. first_after is_repeated (take (i + 1) os) (drop z os)) one;
    }

pub repeated_here : (os : List Occurrence) (i : ℕ) (o : Occurrence) (ds vs : List ℕ) (all : Option Span) → i < length os → o ≡ get_or os i o → Tracks (take i os) ds vs → repeated_in o.role ds vs o.name ≡ true → all ≡ first_after is_repeated (take i os) (drop i os) → Some o.span ≡ all
repeated_here os i o ds vs all h e t r f =
    sym (f ∙ step os i o h e ∙ ap (λ z. if z then Some o.span else first_after is_repeated (take i os ++ o ∷ []) (drop (suc i) os)) (sym (repeated_is (take i os) o ds vs t) ∙ r))

pub none_repeated : (os : List Occurrence) (i : ℕ) (all : Option Span) → length os ≤ i → all ≡ first_after is_repeated (take i os) (drop i os) → None ≡ all
unfolding first_after
none_repeated os i all h f = sym (f ∙ ap (λ z. first_after is_repeated (take i os) z) (drop_all i os h))
