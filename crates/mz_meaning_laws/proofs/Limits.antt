-- A sum, a product or a power of which no partial result leaves the limit is exact.
use Rattle.std.proofs.Common.{◌≡◌, ℕ, zero, suc, ℤ, pos, ◌+ℤ◌, ◌*ℤ◌, int_lt, nat_abs, Bool, true, false, ◌&&◌, List, [], ◌∷◌, Option, Some, None, refl, sym, ap, ◌∙◌, if◌then◌else◌}
use Rattle.mz_value.specs.Contents.{Content, int}
use Rattle.mz_value.specs.Shown.{Names}
use Rattle.mz_interval.specs.Ends.{is_number}
use Rattle.mz_operations.specs.declared.row.Fold.{Fold}
use Rattle.mz_operations.specs.declared.row.Fold.TheVariants.{Sum, SumOfOptions, Product}
use Rattle.mz_operations.specs.declared.row.ScalarRow.TheVariants as scalar
use Rattle.mz_operations.specs.declared.row.Row.{Row}
use Rattle.mz_operations.specs.declared.row.Row.TheVariants.{Scalar}
use Rattle.mz_operations.specs.Views.{◌>>=◌}
use Rattle.mz_operations.specs.Numbers.{folded, fold_start, raised}
use Rattle.mz_operations.specs.Arguments.{Arguments, int_at, items_at}
use Rattle.mz_operations.specs.Arrays.{fold_from, summand}
use Rattle.mz_operations.specs.Values.{scalar_value, power, value}
use Rattle.mz_meaning.specs.Exact.{joined, powered, exact_power, exact_value}
use Rattle.mz_meaning_laws.specs.Limits.{if_some, stays, powers_stay, stays_in_limit}

first_true : (a b : Bool) → (a && b) ≡ true → a ≡ true
first_true true b h = refl
first_true false b h = absurd (cc)

second_true : (a b : Bool) → (a && b) ≡ true → b ≡ true
second_true true b h = h
second_true false b h = absurd (cc)

-- ---- folds

joined_is : (op : Fold) (acc x : ℤ) → is_number acc ≡ true → joined op acc x ≡ folded op acc x
unfolding folded
joined_is Sum acc x h = sym (ap (λ b. if b then acc +ℤ x else acc) h)
joined_is SumOfOptions acc x h = sym (ap (λ b. if b then acc +ℤ x else acc) h)
joined_is Product acc x h = sym (ap (λ b. if b then acc *ℤ x else acc) h)

abbrev exact_fold : Fold → ℤ → List Content → Option ℤ
exact_fold op acc xs = fold_from (summand op) (joined op) acc xs

abbrev limited_fold : Fold → ℤ → List Content → Option ℤ
limited_fold op acc xs = fold_from (summand op) (folded op) acc xs

step_exact : (op : Fold) (acc : ℤ) (o : Option ℤ) (xs : List Content) → ((next : ℤ) → stays op next xs ≡ true → exact_fold op next xs ≡ limited_fold op next xs) → is_number acc ≡ true → if_some (λ a. stays op (joined op acc a) xs) o ≡ true → (o >>= λ a. exact_fold op (joined op acc a) xs) ≡ (o >>= λ a. limited_fold op (folded op acc a) xs)
step_exact op acc None xs rest n h = refl
step_exact op acc (Some a) xs rest n h = rest (joined op acc a) h ∙ ap (λ next. limited_fold op next xs) (joined_is op acc a n)

fold_exact : (op : Fold) (acc : ℤ) (xs : List Content) → stays op acc xs ≡ true → exact_fold op acc xs ≡ limited_fold op acc xs
unfolding fold_from stays
fold_exact op acc [] h = refl
fold_exact op acc (x ∷ xs) h =
    step_exact op acc (summand op x) xs (λ next k. fold_exact op next xs k) (first_true (is_number acc) _ h) (second_true (is_number acc) _ h)

items_exact : (op : Fold) (o : Option (List Content)) → if_some (stays op (fold_start op)) o ≡ true → (o >>= λ xs. exact_fold op (fold_start op) xs >>= λ n. Some (int n)) ≡ (o >>= λ xs. limited_fold op (fold_start op) xs >>= λ n. Some (int n))
items_exact op None h = refl
items_exact op (Some xs) h = ap (λ r. r >>= λ n. Some (int n)) (fold_exact op (fold_start op) xs h)

-- ---- powers

power_exact : (x : ℤ) (n : ℕ) → powers_stay x n ≡ true → powered x n ≡ raised x n
unfolding powered raised powers_stay
power_exact x zero h = refl
power_exact x (suc n) h =
    joined_is Product (powered x n) x (second_true (powers_stay x n) _ h)
    ∙ ap (λ m. folded Product m x) (power_exact x n (first_true (powers_stay x n) _ h))

exponent_exact : (x k : ℤ) → powers_stay x (nat_abs k) ≡ true → exact_power x k ≡ power x k
exponent_exact x k h = ap (λ n. if int_lt k (pos 0) then None else Some n) (power_exact x (nat_abs k) h)

of_exponent : (x : ℤ) (o : Option ℤ) → if_some (λ k. powers_stay x (nat_abs k)) o ≡ true → (o >>= λ k. exact_power x k >>= λ n. Some (int n)) ≡ (o >>= λ k. power x k >>= λ n. Some (int n))
of_exponent x None h = refl
of_exponent x (Some k) h = ap (λ r. r >>= λ n. Some (int n)) (exponent_exact x k h)

of_base : (o e : Option ℤ) → if_some (λ x. if_some (λ k. powers_stay x (nat_abs k)) e) o ≡ true → (o >>= λ x. e >>= λ k. exact_power x k >>= λ n. Some (int n)) ≡ (o >>= λ x. e >>= λ k. power x k >>= λ n. Some (int n))
of_base None e h = refl
of_base (Some x) e h = of_exponent x e h

-- ---- rows

pub exact_is : (names : Names) (r : Row) (args : Arguments) → stays_in_limit r args ≡ true → exact_value names r args ≡ value names r args
unfolding scalar_value
exact_is names (Scalar (scalar.Fold op)) args h = items_exact op (items_at args 0) h
exact_is names (Scalar scalar.Power) args h = of_base (int_at args 0) (int_at args 1) h
exact_is names r args h = refl
