-- The cell of a place.
use Rattle.std.proofs.Common.{◌≡◌, ◌∙◌, ℕ, Option, Some, None, IsSome, refl, sym, ap, subst}
use Rattle.mz_value.specs.Contents.{Content}
use Rattle.mz_operations.specs.Bounds as bounds
use Rattle.mz_meaning.specs.Cells.{Var, Mode, Blank, Given, held}
use Rattle.mz_meaning.specs.Domains.{domain_bound}
use Rattle.mz_symbol.specs.declared.types.Free.{Free}
use Rattle.mz_symbol.specs.declared.types.Symbol.{Symbol}
use Rattle.mz_symbol.specs.Symbols.{symbol_value, domain_of}
use Rattle.mz_symbol.specs.Runs.{Run}
use Rattle.mz_symbol.specs.Readings.{Reading, IsGiven, Reads}
use Rattle.mz_symbol.specs.Arguments.{as_argument}
use Rattle.mz_symbol_rows.specs.RowValues.{argument}
use Rattle.mz_symbol_rows.proofs.RowLaws.{argument_kept}
use Rattle.mz_symbol_rows.specs.OptionValues.{IsWholeOf}
use Rattle.mz_symbol_rows.proofs.WholeLaws.{whole_value}
use Rattle.mz_eval_cells.specs.declared.types.Known.{Known}
use Rattle.mz_eval_cells.specs.Views.{seen}
use Rattle.mz_model_state.specs.Variables.{IsPlaceCell}

blank_same : (m : Mode) (v w : Option Content) → (IsGiven m → held m v ≡ held m w) → held m v ≡ held m w
blank_same (Blank n) v w same = refl
blank_same (Given f) v w same = same tt

there : (r : Reading) (y : Symbol) (v : Option Content) → symbol_value r.term y ≡ v → IsSome v → argument r y ≡ held r.mode (symbol_value r.term y)
there r y None is some = absurd (cc)
there r y (Some x) is some = argument_kept r y x is

-- what stands for a place, as an argument
whole_argument : (s : Run) (a x : Symbol) (r : Reading) → IsWholeOf s a x → Reads r s → IsSome (symbol_value r.term a) → argument r x ≡ held r.mode (symbol_value r.term a)
whole_argument s a x r h reads some =
    let same = whole_value s a x r h reads some in
    there r x (symbol_value r.term x) refl (subst (λ (v : Option Content). IsSome v) (sym same) some) ∙ ap (held r.mode) same

pub place_seen : (s : Run) (k : Known) (f : Free) (x : Symbol) (b : bounds.Bound) → IsWholeOf s f.symbol x → b ≡ domain_bound (domain_of f) → ((r : Reading) → seen r k ≡ Var (bounds.one b) (argument r x)) → IsPlaceCell s (λ r. seen r k) f
place_seen s k f x b h is told = λ r reads some.
    told r
    ∙ ap (λ (b : bounds.Bound). Var (bounds.one b) (argument r x)) is
    ∙ ap (Var (bounds.one (domain_bound (domain_of f)))) (blank_same r.mode (as_argument x.base x.occurs (symbol_value r.term x)) (symbol_value r.term f.symbol) (λ g. whole_argument s f.symbol x r h reads (some g)))
