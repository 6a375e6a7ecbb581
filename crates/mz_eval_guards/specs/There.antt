-- Whether what symbols stand for is there, by the terms of their nodes.
use Rattle.std.specs.Prelude.{ℕ, Bool, true, not, ◌||◌, Option, Some, None, is_some}
use Rattle.mz_core.specs.declared.types.Base.{Base}
use Rattle.mz_core.specs.declared.types.Base.TheVariants as base
use Rattle.mz_arena.specs.Values.{Term, as_number, as_set, is_true}
use Rattle.mz_symbol.specs.declared.types.Symbol.{Symbol}
use Rattle.mz_symbol.specs.Readings.{Reading}

-- the value of a base that a term is
abbrev pub value_there : Base → Term → Bool
value_there base.SetInt x = is_some (as_set x)
value_there (base.SetEnum e) x = is_some (as_set x)
value_there b x = is_some (as_number x)

-- what is no option: a truth value is always there
abbrev pub plain_there : Base → Term → Bool
plain_there base.Bool x = true
plain_there b x = value_there b x

-- what is absent is there
abbrev pub there_by : Base → Option ℕ → (ℕ → Term) → ℕ → Bool
there_by b None t x = plain_there b (t x)
there_by b (Some o) t x = not (is_true (t o)) || value_there b (t x)

abbrev pub symbol_there : Symbol → Reading → Bool
symbol_there s r = there_by s.base s.occurs r.term s.term
