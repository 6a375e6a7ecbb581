-- Free locals with places.
use Rattle.std.proofs.Common.{◌≡◌, ◌≢◌, ℕ, zero, suc, ◌<◌, min, List, [], ◌∷◌, length, replicate, refl, sym, ap, ◌∙◌, arith}
use Rattle.std.specs.Prelude.{ℤ, Result, Ok, Err, IfOk, Bool, true, false, if◌then◌else◌, Option, Some, None}
use Rattle.mz_value.specs.Ranges.{Range}
use Rattle.mz_core.specs.Types.{PlainType}
use Rattle.mz_builtin_values.specs.Shapes.{cap}
use Rattle.mz_operations.specs.Arrays.{place_count}
use Rattle.mz_operations.specs.Bounds as bounds
use Rattle.mz_meaning.specs.Runs.{Answer, State, Out}
use Rattle.mz_meaning.specs.Cells.{Bare, Cell, Sure, Var, sure}
use Rattle.mz_meaning.specs.Arrays.{Want, declared_ranges}
use Rattle.mz_meaning.specs.Domains.{Domain, domain_over}
use Rattle.mz_meaning.specs.Lets.{all_declared, choose, choose_places, chosen, free_array, local_domain, no_choices, unless_empty}
use Rattle.mz_eval_declared.specs.declared.want.Want as code
use Rattle.mz_eval_cells.specs.declared.types.Known.{Known}
use Rattle.mz_eval_cells.specs.declared.types.Sure as held
use Rattle.mz_eval_declared.specs.Wants.{local_of, wants_of}
use Rattle.mz_eval_declared.specs.Steps.{filled, bound_over, chosen_array}

pub same_count : (n c : ℕ) → min cap n ≡ min cap c → n < cap → n ≡ c
same_count n c e l = omega (arith, e)

none_counted : (n c : ℕ) → min cap n ≡ min cap c → n ≡ 0 → c ≡ 0
none_counted n c e z = omega (arith, e)

places_none : (t : PlainType) (ix : List Range) (d : Option Domain) (n : ℕ) (s : State) → n ≡ 0 → choose_places Bare t ix n d s ≡ Out (Var (bounds.many ix []) None, sure) s
places_none t ix d zero s e = refl
places_none t ix d (suc n) s e = absurd (omega arith)

pub without_places : (t : PlainType) (ix : List Range) (d : Option Domain) (n : ℕ) (s : State) → min cap n ≡ min cap (place_count ix) → n ≡ 0 → choose_places Bare t ix (place_count ix) d s ≡ Out (Var (bounds.many ix []) None, sure) s
without_places t ix d n s e z = places_none t ix d (place_count ix) s (none_counted n (place_count ix) e z)

pub some_counted : (n c : ℕ) → min cap n ≡ min cap c → n ≢ 0 → 0 < c
some_counted n c e l = omega (arith, e)

pub without_domain : (t : PlainType) (ix : List Range) (n : ℕ) (s : State) → 0 < n → choose_places Bare t ix n None s ≡ no_choices t ix s
without_domain t ix zero s l = absurd (omega arith)
without_domain t ix (suc n) s l = refl

pub with_places : (t : PlainType) (ix u : List Range) (n : ℕ) (s : State) → 0 < n → choose_places Bare t ix n (Some (domain_over t u)) s ≡ Out (Var (bounds.many ix (replicate n (bound_over t u))) None, sure) s
with_places t ix u zero s l = absurd (omega arith)
with_places t ix u (suc n) s l = refl

pub filled_is : (ix : List Range) (bs : List bounds.Bound) (b : bounds.Bound) (n : ℕ) → bs ≡ replicate n b → min cap n ≡ min cap (place_count ix) → n < cap → Var (bounds.many ix bs) None ≡ filled ix b
filled_is ix bs b n e c l = ap (λ xs. Var (bounds.many ix xs) None) (e ∙ ap (λ k. replicate k b) (same_count n (place_count ix) c l))

-- ---- with index sets, and without

pub chosen_one : {E : Type 0} (n : ℤ) (t : PlainType) (ws : List code.Want) (x : Want) (d : Option Domain) (r : Result (Known × held.Sure) E) → length ws < 1 → d ≡ unless_empty (local_domain n t x) → IfOk r (λ p. (s : State) → choose Bare t d s ≡ Out (local_of p) s) → IfOk r (λ p. (s : State) → chosen Bare n t (wants_of ws) x s ≡ Out (local_of p) s)
chosen_one n t (w ∷ ws) x d r l e g = absurd (omega arith)
chosen_one n t [] x d (Ok p) l e g = λ s. ap (λ o. choose Bare t o s) (sym e) ∙ g s
chosen_one n t [] x d (Err a) l e g = tt

pub chosen_many : {E : Type 0} (n : ℤ) (t : PlainType) (ws : List code.Want) (x : Want) (d : Option Domain) (r : Result (Known × held.Sure) E) → 0 < length ws → d ≡ unless_empty (local_domain n t x) → IfOk r (λ p. (s : State) → chosen_array t (wants_of ws) x d s ≡ Out (local_of p) s) → IfOk r (λ p. (s : State) → chosen Bare n t (wants_of ws) x s ≡ Out (local_of p) s)
chosen_many n t [] x d r l e g = absurd (omega arith)
chosen_many n t (w ∷ ws) x d (Ok p) l e g = λ s. ap (λ o. chosen_array t (wants_of (w ∷ ws)) x o s) (sym e) ∙ g s
chosen_many n t (w ∷ ws) x d (Err a) l e g = tt

abbrev array_or : PlainType → List Range → Want → Option Domain → State → Bool → Answer (Cell × Sure)
array_or t ix x d s b = (if b then free_array Bare t ix x d else no_choices t ix) s

pub with_all : {E : Type 0} (t : PlainType) (xs : List Want) (x : Want) (d : Option Domain) (ix : List Range) (r : Result (Known × held.Sure) E) → all_declared xs ≡ true → ix ≡ declared_ranges xs [] → IfOk r (λ p. (s : State) → free_array Bare t ix x d s ≡ Out (local_of p) s) → IfOk r (λ p. (s : State) → chosen_array t xs x d s ≡ Out (local_of p) s)
with_all t xs x d ix (Ok p) h e g = λ s. ap (array_or t (declared_ranges xs []) x d s) h ∙ ap (λ rs. free_array Bare t rs x d s) (sym e) ∙ g s
with_all t xs x d ix (Err a) h e g = tt

pub without_all : {E : Type 0} (t : PlainType) (xs : List Want) (x : Want) (d : Option Domain) (ix : List Range) (r : Result (Known × held.Sure) E) → all_declared xs ≡ false → ix ≡ declared_ranges xs [] → IfOk r (λ p. (s : State) → no_choices t ix s ≡ Out (local_of p) s) → IfOk r (λ p. (s : State) → chosen_array t xs x d s ≡ Out (local_of p) s)
without_all t xs x d ix (Ok p) h e g = λ s. ap (array_or t (declared_ranges xs []) x d s) h ∙ ap (λ rs. no_choices t rs s) (sym e) ∙ g s
without_all t xs x d ix (Err a) h e g = tt

-- ---- with places, and without

pub no_place : {E : Type 0} (t : PlainType) (ix : List Range) (d : Option Domain) (n : ℕ) (r : Result (Known × held.Sure) E) → min cap n ≡ min cap (place_count ix) → n ≡ 0 → IfOk r (λ p. local_of p ≡ (Var (bounds.many ix []) None, sure)) → IfOk r (λ p. (s : State) → choose_places Bare t ix (place_count ix) d s ≡ Out (local_of p) s)
no_place t ix d n (Ok p) e z g = λ s. without_places t ix d n s e z ∙ ap (λ q. Out q s) (sym g)
no_place t ix d n (Err a) e z g = tt

pub no_domain : {E : Type 0} (t : PlainType) (ix : List Range) (r : Result (Known × held.Sure) E) → 0 < place_count ix → IfOk r (λ p. (s : State) → no_choices t ix s ≡ Out (local_of p) s) → IfOk r (λ p. (s : State) → choose_places Bare t ix (place_count ix) None s ≡ Out (local_of p) s)
no_domain t ix (Ok p) l g = λ s. without_domain t ix (place_count ix) s l ∙ g s
no_domain t ix (Err a) l g = tt

pub each_place : {E : Type 0} (t : PlainType) (ix u : List Range) (r : Result (Known × held.Sure) E) → 0 < place_count ix → IfOk r (λ p. local_of p ≡ (filled ix (bound_over t u), sure)) → IfOk r (λ p. (s : State) → choose_places Bare t ix (place_count ix) (Some (domain_over t u)) s ≡ Out (local_of p) s)
each_place t ix u (Ok p) l g = λ s. with_places t ix u (place_count ix) s l ∙ ap (λ q. Out q s) (sym g)
each_place t ix u (Err a) l g = tt
