-- Integers in the limit and outside, and rows that are no `show`.
use Rattle.std.proofs.Common.{◌≡◌, true, false, refl, sym, ap, ◌∙◌}
use Rattle.std.specs.Prelude.{ℤ, Some, None}
use Rattle.mz_base.specs.declared.kind.Kind.TheVariants.{Bounds}
use Rattle.mz_value.specs.Contents.{Content, bool, int, case, set, absent, text, array}
use Rattle.mz_interval.specs.Ends.{is_number}
use Rattle.mz_operations.specs.declared.row.Row.{Row}
use Rattle.mz_operations.specs.declared.row.Row.TheVariants.{Show, ShowArray}
use Rattle.mz_operations.specs.Views.{as_int}
use Rattle.mz_operations.specs.Answers.{Gives, Stops, limited}
use Rattle.mz_builtin_apply.specs.Applied.{is_applied}

int_is : (x : Content) (n : ℤ) → as_int x ≡ Some n → x ≡ int n
unfolding as_int
int_is (bool b) n e = cc
int_is (int m) n e = cc
int_is (case d k) n e = cc
int_is (set d s) n e = cc
int_is absent n e = cc
int_is (text t) n e = cc
int_is (array ix xs) n e = cc

stops : (n : ℤ) → is_number n ≡ false → limited (Some (int n)) ≡ Stops Bounds n
unfolding limited
stops n e = rw e refl

gives : (n : ℤ) → is_number n ≡ true → limited (Some (int n)) ≡ Gives (Some (int n))
unfolding limited
gives n e = rw e refl

pub outside : (x : Content) (n m : ℤ) → as_int x ≡ Some n → is_number n ≡ false → m ≡ n → limited (Some x) ≡ Stops Bounds m
outside x n m e out s = ap (λ y. limited (Some y)) (int_is x n e) ∙ stops n out ∙ ap (Stops Bounds) (sym s)

pub inside : (x : Content) (n : ℤ) → as_int x ≡ Some n → is_number n ≡ true → limited (Some x) ≡ Gives (Some x)
inside x n e within = ap (λ y. limited (Some y)) (int_is x n e) ∙ gives n within ∙ ap (λ y. Gives (Some y)) (sym (int_is x n e))

pub no_integer : (x : Content) → as_int x ≡ None → limited (Some x) ≡ Gives (Some x)
unfolding as_int limited
no_integer (bool b) e = refl
no_integer (int m) e = cc
no_integer (case d k) e = refl
no_integer (set d s) e = refl
no_integer absent e = refl
no_integer (text t) e = refl
no_integer (array ix xs) e = refl

pub no_show : (row : Row) → row ≡ Show → is_applied row ≡ true → ⊥
no_show row e a = let shown : is_applied Show ≡ false = unfold is_applied in refl in let both = ap is_applied e in cc

pub no_show_array : (row : Row) → row ≡ ShowArray → is_applied row ≡ true → ⊥
no_show_array row e a = let shown : is_applied ShowArray ≡ false = unfold is_applied in refl in let both = ap is_applied e in cc
