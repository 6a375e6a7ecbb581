-- Mirror of src/; private clauses only.
use Rattle.std.specs.Prelude.{◌≡◌, ℕ, false, List, [], ◌∷◌, ◌++◌, length, map, replicate, None, Some}
use Rattle.mz_value.specs.Ranges.{Range}
use Rattle.mz_value.specs.Contents.{contents}
use Rattle.mz_value.specs.Contents as values
use Rattle.mz_operations.specs.Bounds as bounds
use Rattle.mz_meaning.specs.Cells.{Cell, Mode, Sure, Var, held, is_par, is_true, sure, value_of}
use Rattle.mz_meaning.specs.Domains.{Domain}
use Rattle.mz_meaning.specs.Lets as lets
use Rattle.mz_meaning.specs.Lets.{choices_from}
use Rattle.mz_meaning.specs.Runs.{Run, State, Answer, Out, noted}
use Rattle.mz_symbol.specs.Readings.{Reading}
use Rattle.mz_eval_symbols.specs.Taken.{array_argument}
use Rattle.mz_eval_cells.specs.declared.types.Known.{Known}
use Rattle.mz_eval_cells.specs.Views.{seen}
use Rattle.mz_eval_guards.specs.declared.types.Guard.{Guard}
use Rattle.mz_eval_guards.specs.Guards.{guard_seen}
use Rattle.mz_eval_names.specs.declared.types.Names.{Names}

-- a var cell without a value
pub record HasNoValue (c : Cell) : Type 0 where
  pub var : is_par c ≡ false
  pub none : value_of c ≡ None

-- one name more, and this guard
abbrev pub with_name : Reading → Names → ℕ → Known → Guard → lets.Names
with_name r b slot k holds = record { slots = b.slots.items ++ slot ∷ []; cells = map (seen r) b.cells.items ++ seen r k ∷ []; holds = guard_seen r holds }

-- what a constraint tells
abbrev pub met : Cell → Sure
met c = record { par = is_par c; is = is_true (value_of c) }

-- a local with whether what is declared of it holds
abbrev pub local_out : Cell → Sure → State → Answer (Cell × Sure)
local_out c x s = Out (c, x) s

-- a cell without a value where something that is declared doesn't hold
abbrev pub unchosen_cell : List Range → List bounds.Bound → Cell
unchosen_cell ix bs = Var (bounds.many ix bs) None

-- an array whose elements are the line with this number
abbrev pub line_cell : Reading → List Range → List bounds.Bound → ℕ → Cell
line_cell r ix bs l = Var (bounds.many ix bs) (array_argument r ix l)

-- an array without places
abbrev pub empty_cell : Mode → List Range → Cell
empty_cell m ix = Var (bounds.many ix []) (held m (Some (values.array ix values.none)))

-- an array with these ranges and bounds, of which each place took a choice, the first one with this number
abbrev pub chosen_cell : Mode → List Range → List bounds.Bound → ℕ → Cell
chosen_cell m ix bs k = Var (bounds.many ix bs) (held m (Some (values.array ix (contents (choices_from m k (length bs))))))

-- each place takes a choice from a domain
abbrev pub taken_places : Mode → List Range → List bounds.Bound → Domain → Run (Cell × Sure)
taken_places m ix bs d = λ s. local_out (chosen_cell m ix bs (length s.taken)) sure (noted m (replicate (length bs) d) 0 s)
