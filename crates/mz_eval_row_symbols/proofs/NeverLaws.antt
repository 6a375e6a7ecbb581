-- Connectives and comparisons of which an argument is undefined, and powers of an exponent that is.
use Rattle.std.proofs.Common.{◌≡◌, ◌∙◌, ℕ, true, false, [], ◌∷◌, Option, Some, None, refl, sym, ap}
use Rattle.std.specs.Option.{option_and_then}
use Rattle.mz_value.specs.Contents.{Content, bool}
use Rattle.std.specs.Global.{Global}
use Rattle.std.specs.declared.rc.Rc.{Rc}
use Rattle.mz_core.specs.declared.types.Base.{Base}
use Rattle.mz_arena.specs.Values.{Term}
use Rattle.mz_meaning.specs.Cells.{Mode, Blank, Given, held}
use Rattle.mz_eval_cells.specs.declared.types.VarValue.{VarValue}
use Rattle.mz_eval_cells.specs.declared.types.Origin.TheVariants as origin
use Rattle.mz_eval_cells.specs.declared.types.Known.TheVariants as known
use Rattle.mz_eval_cells.specs.Views.{cast_by, origin_value, var_content}
use Rattle.mz_value.specs.Shown.{Names}
use Rattle.mz_operations.specs.declared.row.ScalarRow.{ScalarRow}
use Rattle.mz_operations.specs.declared.row.ScalarRow.TheVariants as scalar
use Rattle.mz_operations.specs.declared.row.Row.TheVariants.{Scalar}
use Rattle.mz_operations.specs.Arguments.{at, bool_at, int_at, option_at, set_at, element_at, pair}
use Rattle.mz_operations.specs.Values.{scalar_value}
use Rattle.mz_operations.specs.Views.{as_bool, as_int, as_option, as_set, as_element}
use Rattle.mz_meaning.specs.Exact.{exact_value}
use Rattle.mz_symbol.specs.Readings.{Reading}
use Rattle.mz_eval_cells.specs.declared.types.Known.{Known}
use Rattle.mz_eval_symbols.specs.Taken.{cell_value}
use Rattle.mz_eval_row_symbols.specs.NodeRows.{told_by}
use Rattle.mz_eval_row_symbols.specs.StepsRows.{gives_truth}
use Rattle.mz_eval_row_symbols.specs.StepsNever.{IsNever, is_strict}

none_cast : (b : Option Base) → cast_by b None ≡ None
none_cast None = refl
none_cast (Some b) = refl

pub none_content : (x : VarValue) → x.origin ≡ origin.Nothing → (t : ℕ → Term) → var_content t x ≡ None
none_content x e t = ap (λ o. cast_by x.cast (origin_value t o)) e ∙ none_cast x.cast

held_none : (m : Mode) → held m None ≡ None
held_none (Blank n) = refl
held_none (Given f) = refl

pub nothing_value : (r : Reading) (k : Known) (x : Rc VarValue Global) → k ≡ known.Var x → ((t : ℕ → Term) → var_content t x.value ≡ None) → cell_value r k ≡ None
nothing_value r k x e n = ap (cell_value r) e ∙ ap (λ v. held r.mode (held r.mode v)) (n r.term) ∙ ap (held r.mode) (held_none r.mode) ∙ held_none r.mode

strict_truth : (w : ScalarRow) → is_strict w ≡ true → gives_truth w ≡ true
strict_truth (scalar.Logic op) h = refl
strict_truth (scalar.Order op) h = refl
strict_truth scalar.Equal h = refl
strict_truth scalar.Unequal h = refl
strict_truth scalar.SetEqual h = refl
strict_truth scalar.SetUnequal h = refl
strict_truth scalar.In h = refl
strict_truth w h = absurd (cc)

none_first : (names : Names) (w : ScalarRow) (y : Option Content) → is_strict w ≡ true → exact_value names (Scalar w) (None ∷ y ∷ []) ≡ None
unfolding scalar_value pair bool_at option_at set_at element_at at
none_first names (scalar.Logic op) y h = refl
none_first names (scalar.Order op) y h = refl
none_first names scalar.Equal y h = refl
none_first names scalar.Unequal y h = refl
none_first names scalar.SetEqual y h = refl
none_first names scalar.SetUnequal y h = refl
none_first names scalar.In y h = refl
none_first names w y h = absurd (cc)

stays : {A B : Type 0} (f : A → Option B) (o : Option A) → ((a : A) → f a ≡ None) → option_and_then f o ≡ None
stays f None h = refl
stays f (Some a) h = h a

none_second : (names : Names) (w : ScalarRow) (x : Option Content) → is_strict w ≡ true → exact_value names (Scalar w) (x ∷ None ∷ []) ≡ None
unfolding scalar_value pair bool_at option_at set_at element_at at
none_second names (scalar.Logic op) None h = refl
none_second names (scalar.Logic op) (Some v) h = stays _ (as_bool v) (λ a. refl)
none_second names (scalar.Order op) None h = refl
none_second names (scalar.Order op) (Some v) h = refl
none_second names scalar.Equal None h = refl
none_second names scalar.Equal (Some v) h = stays _ (as_option v) (λ a. refl)
none_second names scalar.Unequal None h = refl
none_second names scalar.Unequal (Some v) h = stays _ (as_option v) (λ a. refl)
none_second names scalar.SetEqual None h = refl
none_second names scalar.SetEqual (Some v) h = stays _ (as_set v) (λ a. refl)
none_second names scalar.SetUnequal None h = refl
none_second names scalar.SetUnequal (Some v) h = stays _ (as_set v) (λ a. refl)
none_second names scalar.In None h = refl
none_second names scalar.In (Some v) h = stays _ (as_element v) (λ a. refl)
none_second names w x h = absurd (cc)

pub first_missing : (w : ScalarRow) (a b : Known) → is_strict w ≡ true → ((r : Reading) → cell_value r a ≡ None) → IsNever w a b
first_missing w a b h n = record {
  truth = strict_truth w h;
  value = λ r names. ap (λ v. exact_value names (Scalar w) (v ∷ cell_value r b ∷ [])) (n r) ∙ none_first names w (cell_value r b) h;
}

pub second_missing : (w : ScalarRow) (a b : Known) → is_strict w ≡ true → ((r : Reading) → cell_value r b ≡ None) → IsNever w a b
second_missing w a b h n = record {
  truth = strict_truth w h;
  value = λ r names. ap (λ v. exact_value names (Scalar w) (cell_value r a ∷ v ∷ [])) (n r) ∙ none_second names w (cell_value r a) h;
}

-- false is what such a row tells
pub never_told : (r : Reading) (names : Names) (w : ScalarRow) (a b : Known) → IsNever w a b → Some (bool false) ≡ told_by (gives_truth w) (exact_value names (Scalar w) (cell_value r a ∷ cell_value r b ∷ []))
never_told r names w a b n = ap (λ g. told_by g None) (sym n.truth) ∙ ap (told_by (gives_truth w)) (sym (n.value r names))

-- a power without an exponent is undefined
pub no_power : (names : Names) (x : Option Content) → exact_value names (Scalar scalar.Power) (x ∷ None ∷ []) ≡ None
unfolding int_at at
no_power names None = refl
no_power names (Some v) = stays _ (as_int v) (λ a. refl)
