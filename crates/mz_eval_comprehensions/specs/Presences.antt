-- Whether an element of a comprehension occurs, as the code has it.
use Rattle.std.specs.Prelude.{◌≡◌, ℕ, Bool, true, false, Option, Some, None}
use Rattle.mz_core.specs.declared.types.Base.{Base}
use Rattle.mz_core.specs.declared.types.Base.TheVariants as base
use Rattle.mz_arena.specs.Values.{is_true}
use Rattle.mz_meaning.specs.Comprehensions as comprehensions
use Rattle.mz_meaning.specs.Comprehensions.{if_given}
use Rattle.mz_symbol.specs.declared.types.Symbol.{Symbol}
use Rattle.mz_symbol.specs.Readings.{Reading}
use Rattle.mz_eval_comprehensions.specs.declared.presences.types.Presence.{Presence}
use Rattle.mz_eval_comprehensions.specs.declared.presences.types.Presence.TheVariants as presence

-- where a node is true. In a run without values nothing is known of it
abbrev pub where_true : Reading → ℕ → comprehensions.Presence
where_true r id = Some (if_given r.mode (is_true (r.term id)))

-- under a reading
abbrev pub presence_seen : Reading → Presence → comprehensions.Presence
presence_seen r presence.Always = None
presence_seen r (presence.Where id) = where_true r id

-- a Boolean that is no option
pub record IsPlainTruth (s : Symbol) : Type 0 where
  pub base : s.base ≡ base.Bool
  pub occurs : s.occurs ≡ None

abbrev pub is_set_base : Base → Bool
is_set_base base.SetInt = true
is_set_base (base.SetEnum e) = true
is_set_base b = false

-- a set that is no option
pub record IsPlainSet (s : Symbol) : Type 0 where
  pub base : is_set_base s.base ≡ true
  pub occurs : s.occurs ≡ None
