-- What the code's values stand for.
use Rattle.std.specs.Prelude.{ℕ, List, map, Vec}
use Rattle.std.specs.declared.alloc.Global.{Global}
use Rattle.mz_core.specs.declared.types.Ix.{Ix}
use Rattle.mz_core.specs.declared.types.TypeInst.{TypeInst}
use Rattle.mz_core.specs.declared.types.Signature.{Signature}
use Rattle.mz_core.specs.Types.{PlainType, plain_type, plain_signature}
use Rattle.mz_builtin.specs.declared.choices.Choices.{Choices as Found}
use Rattle.mz_builtin.specs.declared.candidates.Wanted.{Wanted}
use Rattle.mz_builtin.specs.declared.candidates.Wanted.TheVariants.{All, Accepting}
use Rattle.mz_builtin.specs.Readings.{Choices, Maker, all_params, Numbered}
use Rattle.mz_builtin.specs.StepsFits.{accepting_params}

abbrev pub plain_choices : Found → Choices
plain_choices c = record { enums = c.enums.items; indices = c.indices.items; ranks = c.ranks.items }

abbrev pub index_lists_of : List (Vec Ix Global) → List (List Ix)
index_lists_of ls = map (λ l. l.items) ls

abbrev pub type_lists_of : List (Vec TypeInst Global) → List (List PlainType)
type_lists_of ls = map (λ l. map plain_type l.items) ls

-- a numbered signature
abbrev pub plain_numbered : (ℕ × Signature) → Numbered
plain_numbered s = (s.0, plain_signature s.1)

-- which lists of parameters are wanted
unfoldable pub maker_of : Choices → List PlainType → Wanted → Maker
maker_of c args All = all_params c
maker_of c args Accepting = accepting_params c args
