-- DECLARED NAMES IN HAND: what those in code stand for, and what is told of one that is made.
use Rattle.std.specs.Prelude.{◌≡◌, ℕ, List, [], ◌∷◌, ◌++◌, true, map, Option, Some, None}
use Rattle.mz_core.specs.Program.{PlainProgram}
use Rattle.mz_core.specs.Tree.{Decl}
use Rattle.mz_core.specs.Types.{PlainType}
use Rattle.mz_meaning.specs.Domains.{Domains}
use Rattle.mz_meaning.specs.Walk.{Limits}
use Rattle.mz_model_meaning.specs.Decoded.{AreShaped}
use Rattle.mz_symbol.specs.Symbols.{domain_of}
use Rattle.mz_symbol.specs.Runs.{Run}
use Rattle.mz_symbol.specs.Readings.{Reading, Reads, state_of}
use Rattle.mz_eval_cells.specs.declared.types.Known.{Known}
use Rattle.mz_eval_cells.specs.Views.{seen}
use Rattle.mz_model_state.specs.Hands as hands
use Rattle.mz_model_state.specs.Hands.{View, NameKind, ParName, OnePlace, ManyPlaces, kind_places, kind_domains, IsRootedName}
use Rattle.mz_model_state.specs.Loops.{ReadBack, IsNextName}
use Rattle.mz_model_state.specs.Variables.{is_var_kind}
use Rattle.mz_model_state.specs.Names.{HasForm, IsMadeVar}
use Rattle.mz_model_names.specs.declared.forms.Form.{Form}
use Rattle.mz_model_names.specs.Formed.{form_seen}
use Rattle.mz_model_names.specs.declared.types.HeldName.{HeldName}
use Rattle.mz_model_names.specs.declared.types.Label.{Label}
use Rattle.mz_model_names.specs.declared.types.Kind.{Kind}
use Rattle.mz_model_names.specs.declared.types.Kind.TheVariants as kind
pub use Rattle.mz_model_roots.specs.Rooted.{view, AreRootsOfConstraint}

abbrev pub name_kind : Kind → NameKind
name_kind kind.Par = ParName
name_kind (kind.One f) = OnePlace f
name_kind (kind.Many ix fs) = ManyPlaces ix.items fs.items

abbrev pub view_if : Option Known → Option View
view_if None = None
view_if (Some k) = Some (λ r. seen r k)

-- a par name's value is its cell
abbrev pub name_value : Kind → Known → Option Known → Option View
name_value kind.Par k v = Some (λ r. seen r k)
name_value (kind.One f) k v = view_if v
name_value (kind.Many ix fs) k v = view_if v

abbrev pub held_name : HeldName → hands.HeldName
held_name h = record { slot = h.label.slot; kind = name_kind h.kind; cell = λ r. seen r h.cell; value = name_value h.kind h.cell h.value; roots = h.roots.items }

-- what a name of this type is called, and what its values are
pub record IsLabelOf (k n : ℕ) (t : PlainType) (l : Label) : Type 0 where
  pub slot : l.slot ≡ k
  pub name : l.name ≡ n
  pub base : l.base ≡ t.base
  pub opt : l.opt ≡ t.opt

-- roots of a name with this value, whatever names were declared before it; none where it has none
pub record AreRootsIf (s : Run) (k : NameKind) (v : Option View) (ids : List ℕ) : Type 0 where
  pub by : (ns : List hands.HeldName) (n : hands.HeldName) → n.kind ≡ k → n.value ≡ v → n.roots ≡ ids → IsRootedName s (ns ++ n ∷ []) n

-- what is made costs no work and takes no choice
pub record Stands (old new : Run) : Type 0 where
  pub back : ReadBack old new
  pub same : (r : Reading) → Reads r new → state_of r old ≡ state_of r new

-- A VARIABLE of these domains is made, with its cell and its roots
pub record IsVarOver (ds : Domains) (v : Option Known) (old new : Run) (n : hands.HeldName) : Type 0 where
  pub domains : kind_domains n.kind ≡ ds
  pub var : is_var_kind n.kind ≡ true
  pub value : n.value ≡ view_if v
  pub shaped : AreShaped (map domain_of (kind_places n.kind))
  pub made : IsMadeVar old new n
  pub rooted : (ns : List hands.HeldName) → IsRootedName new (ns ++ n ∷ []) n

-- A NAME OF THIS FORM IS MADE: it is the next name, where the next declaration has the form
pub record IsNameOver (t : PlainType) (f : Form) (mid new : Run) (n : hands.HeldName) : Type 0 where
  pub var : is_var_kind n.kind ≡ t.var
  pub shaped : AreShaped (map domain_of (kind_places n.kind))
  pub rooted : (ns : List hands.HeldName) → IsRootedName new (ns ++ n ∷ []) n
  pub next : (l : Limits) (p : PlainProgram) (old : Run) (ns : List hands.HeldName) (d : Decl) → HasForm l p old mid ns d (λ r. form_seen t r f) → n.slot ≡ d.slot → IsNextName l p old new ns d n
