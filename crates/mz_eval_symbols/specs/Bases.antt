-- The bases of symbols.
use Rattle.mz_core.specs.declared.types.Base.{Base}
use Rattle.mz_core.specs.declared.types.Base.TheVariants as base

-- THE BASE OF THE SYMBOLS OF A NODE'S VALUES: what has no base of its own is of integers, or of sets of them
abbrev pub symbol_base : Base → Base
symbol_base base.Bottom = base.Int
symbol_base base.SetBottom = base.SetInt
symbol_base b = b
