-- Calls with an undefined par argument: they are false.
use Rattle.std.proofs.Common.{◌≡◌, ℕ, Bool, false, [], ◌∷◌, Option, Some, None, refl, ap}
use Rattle.mz_value.specs.Contents.{Content}
use Rattle.mz_value.specs.Contents as values
use Rattle.mz_operations.specs.Views.{◌>>=◌}
use Rattle.mz_operations.specs.Arguments.{at, index_at, int_at}
use Rattle.mz_globals.specs.declared.global.Global.TheVariants as global
use Rattle.mz_globals.specs.Reading.{ints_at}
use Rattle.mz_globals.specs.Table.{line_of, truth}

nothing_two : {A : Type 0} (o : Option A) (f : A → Option Bool) → ((a : A) → f a ≡ None) → truth (o >>= f) ≡ Some (values.bool false)
nothing_two None f h = refl
nothing_two (Some a) f h = ap truth (h a)

nothing_three : {A B : Type 0} (o : Option A) (p : Option B) (f : A → B → Option Bool) → ((a : A) (b : B) → f a b ≡ None) → truth (o >>= λ a. p >>= λ b. f a b) ≡ Some (values.bool false)
nothing_three None p f h = refl
nothing_three (Some a) None f h = refl
nothing_three (Some a) (Some b) f h = ap truth (h a b)

pub no_windows : (x y w z : Option Content) → w ≡ None → (line_of global.SlidingSum).value (x ∷ y ∷ w ∷ z ∷ []) ≡ Some (values.bool false)
unfolding line_of int_at at
no_windows x y None z h = nothing_three (int_at (x ∷ y ∷ None ∷ z ∷ []) 0) (int_at (x ∷ y ∷ None ∷ z ∷ []) 1) _ (λ a b. refl)
no_windows x y (Some w) z h = absurd (cc)

pub no_table : (x t : Option Content) → t ≡ None → (line_of global.Table).value (x ∷ t ∷ []) ≡ Some (values.bool false)
unfolding line_of index_at at
no_table x None h = nothing_two (ints_at (x ∷ None ∷ []) 0) _ (λ a. refl)
no_table x (Some t) h = absurd (cc)

none_after : {A B : Type 0} (o : Option A) (f : A → Option B) → ((a : A) → f a ≡ None) → (o >>= f) ≡ None
none_after None f h = refl
none_after (Some a) f h = h a

none_after_two : {A B C : Type 0} (o : Option A) (p : Option B) (f : A → B → Option C) → ((a : A) (b : B) → f a b ≡ None) → (o >>= λ a. p >>= λ b. f a b) ≡ None
none_after_two None p f h = refl
none_after_two (Some a) p f h = none_after p (f a) (h a)

nothing_in : {A B : Type 0} (o : Option A) (p : Option B) (f : A → B → Option Bool) → p ≡ None → truth (o >>= λ a. p >>= λ b. f a b) ≡ Some (values.bool false)
nothing_in None p f h = refl
nothing_in (Some a) p f h = ap (λ q. truth (q >>= λ b. f a b)) h

pub no_states : (u v w x y z : Option Content) → v ≡ None → (line_of global.Regular).value (u ∷ v ∷ w ∷ x ∷ y ∷ z ∷ []) ≡ Some (values.bool false)
unfolding line_of int_at at
no_states u None w x y z h = nothing_two (ints_at (u ∷ None ∷ w ∷ x ∷ y ∷ z ∷ []) 0) _ (λ a. refl)
no_states u (Some v) w x y z h = absurd (cc)

pub no_letters : (u v w x y z : Option Content) → w ≡ None → (line_of global.Regular).value (u ∷ v ∷ w ∷ x ∷ y ∷ z ∷ []) ≡ Some (values.bool false)
unfolding line_of int_at at
no_letters u v None x y z h = nothing_in (ints_at (u ∷ v ∷ None ∷ x ∷ y ∷ z ∷ []) 0) _ _ (none_after (int_at (u ∷ v ∷ None ∷ x ∷ y ∷ z ∷ []) 1) _ (λ a. refl))
no_letters u v (Some w) x y z h = absurd (cc)

pub no_steps : (u v w x y z : Option Content) → x ≡ None → (line_of global.Regular).value (u ∷ v ∷ w ∷ x ∷ y ∷ z ∷ []) ≡ Some (values.bool false)
unfolding line_of int_at index_at at
no_steps u v w None y z h = nothing_in (ints_at (u ∷ v ∷ w ∷ None ∷ y ∷ z ∷ []) 0) _ _ (none_after_two (int_at (u ∷ v ∷ w ∷ None ∷ y ∷ z ∷ []) 1) (int_at (u ∷ v ∷ w ∷ None ∷ y ∷ z ∷ []) 2) _ (λ a b. refl))
no_steps u v w (Some x) y z h = absurd (cc)

pub no_start : (u v w x y z : Option Content) → y ≡ None → (line_of global.Regular).value (u ∷ v ∷ w ∷ x ∷ y ∷ z ∷ []) ≡ Some (values.bool false)
unfolding line_of int_at at
no_start u v w x None z h = nothing_three (ints_at (u ∷ v ∷ w ∷ x ∷ None ∷ z ∷ []) 0) _ _ (λ a b. refl)
no_start u v w x (Some y) z h = absurd (cc)
