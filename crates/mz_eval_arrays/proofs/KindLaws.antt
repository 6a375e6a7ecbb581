-- What counts as false where it is undefined.
use Rattle.std.proofs.Common.{◌≡◌, ◌∙◌, ℕ, Bool, true, false, Option, Some, None, is_some, refl, ap}
use Rattle.mz_value.specs.Contents.{Content}
use Rattle.mz_core.specs.declared.types.Base.{Base}
use Rattle.mz_core.specs.declared.types.Base.TheVariants as base
use Rattle.mz_meaning.specs.Cells.{held}
use Rattle.mz_symbol.specs.declared.types.Symbol.{Symbol}
use Rattle.mz_symbol.specs.Symbols.{symbol_value}
use Rattle.mz_symbol.specs.Readings.{Reading, symbol_seen}
use Rattle.mz_symbol.specs.Arguments.{as_argument}
use Rattle.mz_symbol_rows.specs.RowValues.{argument}
use Rattle.mz_eval_arrays.specs.ArrayCells.{counted, is_counted}

pub as_counted : (b : Base) (o : Option ℕ) (v : Option Content) → as_argument b o v ≡ counted (is_counted b (is_some o)) v
as_counted base.Bool None v = refl
as_counted base.Bool (Some o) v = refl
as_counted b None v = refl
as_counted b (Some o) v = refl

pub counted_twice : (q : Bool) (v : Option Content) → counted q (counted q v) ≡ counted q v
counted_twice true v = refl
counted_twice false v = refl

pub own_argument : (r : Reading) (s : Symbol) → is_counted s.base (is_some s.occurs) ≡ false → argument r s ≡ symbol_seen r s
own_argument r s h = ap (held r.mode) (as_counted s.base s.occurs (symbol_value r.term s) ∙ ap (λ q. counted q (symbol_value r.term s)) h)
