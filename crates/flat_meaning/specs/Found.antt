-- WHERE A FAITHFUL PROGRAM HAS THE VARIABLES of its instance: at the places that are the numbers of their parts.
use Rattle.std.specs.Prelude.{◌≡◌, ℕ, suc, List, [], ◌∷◌, Bool, true, false, Option, Some, None, is_none, slice_get}
use Rattle.std.specs.Option.{option_map}
use Rattle.mz_base.specs.Names.{text_of}
use Rattle.mz_value.specs.Ranges.{Range}
use Rattle.mz_arena.specs.Instances.{VarCell, ModelVar, Instance}
use Rattle.mz_instance.specs.Parts.{sort_of, base_of, next, after_cells}
use Rattle.mz_instance.specs.Instance.{IsInstance}
use Rattle.fz_program.specs.Names.{Name}
use Rattle.fz_program.specs.declared.program.Domain.{Domain}
use Rattle.fz_program.specs.Flat.{Variable, Program}
use Rattle.flat_meaning.specs.Front.{domain_by, value_place}
use Rattle.flat_meaning.specs.Reading.{CellPlaces, Layout, Alone, Rows, value_alone, with_occurrence, layout_by}
use Rattle.flat_meaning.specs.Faithful.{Faithful}

-- of a cell whose first part has the number k
abbrev pub cell_places : Bool → ℕ → CellPlaces
cell_places true k = with_occurrence k (suc k)
cell_places false k = value_alone k

abbrev pub places_from : Bool → ℕ → List VarCell → List CellPlaces
places_from opt k [] = []
places_from opt k (c ∷ cs) = cell_places opt k ∷ places_from opt (next opt k) cs

-- of a variable whose first part has the number k
abbrev pub layout_from : Option (List Range) → Bool → ℕ → List VarCell → Option Layout
layout_from None opt k [] = None
layout_from None opt k (c ∷ cs) = Some (Alone (cell_places opt k))
layout_from (Some ix) opt k cs = Some (Rows ix (places_from opt k cs))

abbrev pub domain_at : List Variable → ℕ → Option Domain
domain_at vs k = option_map (λ (v : Variable). v.domain) (slice_get vs k)

-- the values' variables have the cells' domains
abbrev pub AreDomains : List Variable → ModelVar → ℕ → List VarCell → Type 0
AreDomains vs m k [] = Unit {0}
AreDomains vs m k (c ∷ cs) = (domain_at vs (value_place m.opt k) ≡ Some (domain_by (sort_of (base_of m.base)) c.domain)) × AreDomains vs m (next m.opt k) cs

-- a variable is found by its name, and has its domains
pub record IsFound (table : List Name) (p : Program) (k : ℕ) (m : ModelVar) : Type 0 where
  pub layout : layout_by (is_none m.index) m.opt (sort_of (base_of m.base)) p (text_of table m.name) ≡ layout_from m.index m.opt k m.cells
  pub domains : AreDomains p.vars m k m.cells

abbrev pub AreFound : List Name → Program → ℕ → List ModelVar → Type 0
AreFound table p k [] = Unit {0}
AreFound table p k (m ∷ ms) = IsFound table p k m × AreFound table p (after_cells m.opt m.cells k) ms

-- ---- laws

abbrev pub FrontIsFound : Type 0
FrontIsFound = (inst : Instance) (table : List Name) (p : Program) → IsInstance inst → Faithful inst table p → AreFound table p 0 inst.vars
