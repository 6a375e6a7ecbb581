-- What lists of cells in code stand for.
use Rattle.std.specs.Prelude.{Bool, true, false, List, [], map, Some, None}
use Rattle.mz_value.specs.Contents.{content}
use Rattle.mz_value.specs.Shown.{elements}
use Rattle.mz_operations.specs.Arrays.{element_of}
use Rattle.mz_operations.specs.Bounds as bounds
use Rattle.mz_meaning.specs.Cells.{Cell, Var, par_value}
use Rattle.mz_meaning.specs.Comprehensions.{Presence, Element}
use Rattle.mz_eval_cells.specs.declared.types.Known.{Known}
use Rattle.mz_eval_cells.specs.Views.{cell_of, known_bound}
use Rattle.mz_eval_arrays.specs.declared.gathering.Gathered.{Gathered}
use Rattle.mz_eval_arrays.specs.declared.gathering.Gathered.TheVariants as gathering
use Rattle.mz_eval_arrays.specs.declared.running.Elements.{Elements}
use Rattle.mz_eval_arrays.specs.declared.running.Elements.TheVariants as running

abbrev pub gathered_by : (Known → Cell) → Gathered → List Cell
gathered_by see (gathering.Items v) = map (λ x. par_value (content x)) v.items
gathered_by see (gathering.Cells v) = map see v.items

abbrev pub gathered : Gathered → List Cell
gathered g = gathered_by cell_of g

-- the branches under var conditions, with their conditions
abbrev pub pairs_by : (Known → Cell) → List (Known × Known) → List (Cell × Cell)
pairs_by see ps = map (λ p. (see p.0, see p.1)) ps

abbrev pub pairs_of : List (Known × Known) → List (Cell × Cell)
pairs_of ps = pairs_by cell_of ps

-- whether an element surely occurs; one that may be absent doesn't tell here whether it is
abbrev pub occurs_if : Bool → Presence
occurs_if true = None
occurs_if false = Some false

-- what a generator runs over
abbrev pub elements_of : Elements → List Element
elements_of running.Nothing = []
elements_of (running.Numbers of surely s) = map (λ n. (par_value (element_of of n), occurs_if surely)) (elements s.now)
elements_of (running.Values xs) = map (λ x. (par_value (content x), None)) xs.now
elements_of (running.Places bs) = map (λ b. (Var (bounds.one (known_bound b)) None, None)) bs.now
