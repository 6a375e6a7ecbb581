-- The parts of the test of what is left out by name. Mirror of src/left_out.rt; private clauses only.
use Rattle.std.specs.Prelude.{ℕ, Bool, ◌&&◌, ◌||◌, List, [], ◌∷◌, codes}
use Rattle.std.specs.Str.{bytes_eq}
use Rattle.mz_core.specs.Types.{PlainType}
use Rattle.mz_check_meaning.specs.Coerced.{is_set_type}
use Rattle.mz_check_meaning.specs.Calls.{is_order, is_equality, is_power, is_array, is_option, is_text_type, par, would_fit}

abbrev pub is_range : List ℕ → Bool
is_range name = bytes_eq name (codes "..")

abbrev pub is_compared : List ℕ → PlainType → PlainType → Bool
is_compared name t u =
    ((is_order name || is_equality name) && (is_array t && is_array u))
    || ((is_order name && ((is_set_type t && is_set_type u) || (is_option t || is_option u)))
    || (bytes_eq name (codes "=") && (is_text_type t && is_text_type u)))

abbrev pub is_range_if_par : List ℕ → PlainType → PlainType → Bool
is_range_if_par name t u = is_range name && would_fit name (par t ∷ par u ∷ [])

abbrev pub is_power_if_par : List ℕ → PlainType → PlainType → Bool
is_power_if_par name t u = is_power name && would_fit name (t ∷ par u ∷ [])
