-- Declarations are given their values one by one.
use Rattle.std.proofs.Common.{◌≡◌, ◌∙◌, ℕ, zero, suc, ◌+◌, ◌<◌, Bool, true, false, List, [], ◌∷◌, Option, Some, None, map, length, get_or, set, refl, ap, subst, arith}
use Rattle.std.specs.Prelude.{nat_eq, if◌then◌else◌}
use Rattle.std.proofs.lemmas.List.{length-map}
use Rattle.mz_base.specs.Faults.{start_of}
use Rattle.mz_core.specs.declared.types.Base.TheVariants as base
use Rattle.mz_core.specs.Tree.{Tree, Decl}
use Rattle.mz_check_meaning.specs.Models.{entry_of}
use Rattle.mz_check_data.specs.WithData.{or_given, with_value, AreNumbered}
use Rattle.mz_check_data.specs.StepsValued.{given_to}

-- ---- one value, and then the others

or_later : (b : Bool) (e : Tree) (later v : Option Tree) → or_given v (if b then Some e else later) ≡ or_given (or_given v (if b then Some e else None)) later
or_later true e later None = refl
or_later false e later None = refl
or_later b e later (Some w) = refl

value_later : (x : ℕ × Tree) (vs : List (ℕ × Tree)) (d : Decl) → with_value (x ∷ vs) d ≡ with_value vs (with_value (x ∷ []) d)
unfolding entry_of
value_later x vs d = ap (λ (v : Option Tree). record d { value = v }) (or_later (nat_eq x.0 d.slot) x.1 (entry_of d.slot vs) d.value)

pub values_later : (x : ℕ × Tree) (vs : List (ℕ × Tree)) (ds : List Decl) → map (with_value (x ∷ vs)) ds ≡ map (with_value vs) (map (with_value (x ∷ [])) ds)
values_later x vs [] = refl
values_later x vs (d ∷ ds) = rw (value_later x vs d, values_later x vs ds) refl

-- ---- slots stay

slot_stays : (vs : List (ℕ × Tree)) (ds : List Decl) (k : ℕ) (d : Decl) → k < length ds → (get_or (map (with_value vs) ds) k d).slot ≡ (get_or ds k d).slot
slot_stays vs [] k d low = absurd (omega (arith, low))
slot_stays vs (x ∷ xs) zero d low = refl
slot_stays vs (x ∷ xs) (suc k) d low = slot_stays vs xs k d (omega (arith, low))

pub numbered_stays : (vs : List (ℕ × Tree)) (ds : List Decl) → AreNumbered ds → AreNumbered (map (with_value vs) ds)
numbered_stays vs ds h k d low =
    let within : k < length ds = subst (λ n. k < n) (length-map ds (with_value vs)) low in
    slot_stays vs ds k d within ∙ h k d within

-- ---- the declaration of one slot

not_equal : (j i : ℕ) → j < i → nat_eq i j ≡ false
not_equal j i low = grind (arith, low)

same : (k : ℕ) → nat_eq k k ≡ true
same k = grind arith

or_none : (v : Option Tree) → or_given v None ≡ v
or_none None = refl
or_none (Some e) = refl

other_stays : (k : ℕ) (e : Tree) (d : Decl) → nat_eq k d.slot ≡ false → with_value ((k, e) ∷ []) d ≡ d
unfolding entry_of
other_stays k e d h =
    ap (λ (b : Bool). record d { value = or_given d.value (if b then Some e else None) }) h
    ∙ ap (λ (v : Option Tree). record d { value = v }) (or_none d.value)

own_given : (k : ℕ) (e : Tree) (d : Decl) → d.slot ≡ k → with_value ((k, e) ∷ []) d ≡ given_to d e
unfolding entry_of
own_given k e d h = ap (λ (b : Bool). record d { value = or_given d.value (if b then Some e else None) }) (ap (nat_eq k) h ∙ same k)

-- the slots go up from a number
abbrev Ascend : ℕ → List Decl → Type 0
Ascend i [] = Unit {0}
Ascend i (d ∷ ds) = (d.slot ≡ i) × Ascend (i + 1) ds

ascending : (i : ℕ) (ds : List Decl) → ((k : ℕ) (d : Decl) → k < length ds → (get_or ds k d).slot ≡ i + k) → Ascend i ds
ascending i [] h = tt
ascending i (x ∷ xs) h = (
  h 0 x (omega arith) ∙ (let z : i + 0 ≡ i = omega arith in z),
  ascending (i + 1) xs (λ k d low. h (suc k) d (omega (arith, low)) ∙ (let z : i + suc k ≡ i + 1 + k = omega arith in z)),
)

all_later : (k : ℕ) (e : Tree) (i : ℕ) (ds : List Decl) → k < i → Ascend i ds → map (with_value ((k, e) ∷ [])) ds ≡ ds
all_later k e i [] low h = refl
all_later k e i (d ∷ ds) low h =
    rw (other_stays k e d (ap (nat_eq k) h.0 ∙ before k i low), all_later k e (i + 1) ds (omega (arith, low)) h.1) refl
  where
    before : (k i : ℕ) → k < i → nat_eq k i ≡ false
    before k i low = grind (arith, low)

-- the place of the slot from the number on
given_from : (e : Tree) (i k : ℕ) (ds : List Decl) (d : Decl) → k < length ds → Ascend i ds → map (with_value ((i + k, e) ∷ [])) ds ≡ set ds k (given_to (get_or ds k d) e)
given_from e i k [] d low h = absurd (omega (arith, low))
given_from e i zero (x ∷ xs) d low h =
    let here : x.slot ≡ i + 0 = h.0 ∙ (let z : i ≡ i + 0 = omega arith in z) in
    rw (own_given (i + 0) e x here, all_later (i + 0) e (i + 1) xs (omega arith) h.1) refl
given_from e i (suc k) (x ∷ xs) d low h =
    let apart : nat_eq (i + suc k) x.slot ≡ false = ap (nat_eq (i + suc k)) h.0 ∙ not_equal i (i + suc k) (omega arith) in
    let later : i + suc k ≡ i + 1 + k = omega arith in
    rw (other_stays (i + suc k) e x apart) (ap (λ ys. x ∷ ys) (ap (λ n. map (with_value ((n, e) ∷ [])) xs) later ∙ given_from e (i + 1) k xs d (omega (arith, low)) h.1))

pub one_given : (e : Tree) (k : ℕ) (ds : List Decl) (d : Decl) → AreNumbered ds → k < length ds → map (with_value ((k, e) ∷ [])) ds ≡ set ds k (given_to (get_or ds k d) e)
one_given e k ds d h low =
    let from : (k : ℕ) (d : Decl) → k < length ds → (get_or ds k d).slot ≡ 0 + k = λ j x l. h j x l ∙ (let z : j ≡ 0 + j = omega arith in z) in
    ap (λ n. map (with_value ((n, e) ∷ [])) ds) (let z : k ≡ 0 + k = omega arith in z) ∙ given_from e 0 k ds d low (ascending 0 ds from)

-- a slot that no declaration has
none_from : (e : Tree) (k i : ℕ) (ds : List Decl) → i + length ds < k + 1 → Ascend i ds → map (with_value ((k, e) ∷ [])) ds ≡ ds
none_from e k i [] high h = refl
none_from e k i (x ∷ xs) high h =
    let apart : nat_eq k x.slot ≡ false = ap (nat_eq k) h.0 ∙ not_equal i k (omega (arith, high)) in
    rw (other_stays k e x apart, none_from e k (i + 1) xs (omega (arith, high)) h.1) refl

pub none_given : (e : Tree) (k : ℕ) (ds : List Decl) → AreNumbered ds → length ds < k + 1 → map (with_value ((k, e) ∷ [])) ds ≡ ds
none_given e k ds h high =
    let from : (k : ℕ) (d : Decl) → k < length ds → (get_or ds k d).slot ≡ 0 + k = λ j x l. h j x l ∙ (let z : j ≡ 0 + j = omega arith in z) in
    none_from e k 0 ds (omega (arith, high)) (ascending 0 ds from)

-- no value
value_stays : (d : Decl) → with_value [] d ≡ d
unfolding entry_of
value_stays d = ap (λ (v : Option Tree). record d { value = v }) (or_none d.value)

pub all_stay : (ds : List Decl) → map (with_value []) ds ≡ ds
all_stay [] = refl
all_stay (d ∷ ds) = rw (value_stays d, all_stay ds) refl

-- any declaration
abbrev pub blank : Decl
blank = record {
  slot = 0;
  name = 0;
  span = start_of 0;
  ty = record { span = start_of 0; ty = record { var = false; opt = false; base = base.Bool; dims = [] }; index = []; set = None };
  value = None;
}
