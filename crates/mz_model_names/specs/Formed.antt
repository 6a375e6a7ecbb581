-- What the forms of declared names in code stand for.
use Rattle.std.specs.Prelude.{◌≡◌, List, [], map, Option, Some, None}
use Rattle.mz_core.specs.Types.{PlainType}
use Rattle.mz_meaning.specs.Arrays.{Want, declared_ranges}
use Rattle.mz_meaning.specs.Cells.{Cell, bounds_in, empty_bound}
use Rattle.mz_meaning.specs.Domains.{Domains, Scalar, Places, domain_over}
use Rattle.mz_meaning.specs.Walk.{domain_by_value, domains_of_bounds, domains_in_ranges, domains_by_value}
use Rattle.mz_symbol.specs.Readings.{Reading}
use Rattle.mz_eval_cells.specs.declared.types.Known.{Known}
use Rattle.mz_eval_cells.specs.Views.{cell_of, seen}
use Rattle.mz_model_state.specs.Forms.{NameForm, ParForm, VarForm}
use Rattle.mz_model_names.specs.declared.forms.Form.{Form}
use Rattle.mz_model_names.specs.declared.forms.Form.TheVariants as form
pub use Rattle.mz_eval_declared.specs.Wants.{wanted, wants_of}

abbrev pub cell_if : Reading → Option Known → Option Cell
cell_if r None = None
cell_if r (Some k) = Some (seen r k)

-- a form of this type under a reading
abbrev pub form_seen : PlainType → Reading → Form → NameForm
form_seen t r (form.Par k) = ParForm (seen r k)
form_seen t r (form.One s k) = VarForm (Scalar (domain_over t s)) (cell_if r k)
form_seen t r (form.Many ix ss k) = VarForm (Places ix.items (map (domain_over t) ss.items)) (cell_if r k)

-- a variable of these domains, with this value
pub record HasForm (t : PlainType) (f : Form) (k : Option Known) (ds : Domains) : Type 0 where
  pub is : (r : Reading) → form_seen t r f ≡ VarForm ds (cell_if r k)

-- where a cell has a shape its bounds tell the domains, and else the declared index sets do
abbrev pub DomainsByBounds : Known → Type 0
DomainsByBounds k = (t : PlainType) (ixs : List Want) (x : Want) (r : Reading) → domains_by_value t ixs x (seen r k) ≡ domains_of_bounds t x (bounds_in (cell_of k))

abbrev pub DomainsByRanges : Known → Type 0
DomainsByRanges k = (t : PlainType) (ixs : List Want) (x : Want) (r : Reading) → domains_by_value t ixs x (seen r k) ≡ domains_in_ranges (declared_ranges ixs []) (domain_by_value t x (empty_bound t))
