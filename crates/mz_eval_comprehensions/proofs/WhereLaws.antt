-- What tells whether a var condition is true.
use Rattle.std.proofs.Common.{◌≡◌, ◌∙◌, ℕ, Bool, true, false, Option, Some, None, MatchOption, refl, sym, ap}
use Rattle.mz_value.specs.Contents.{Content}
use Rattle.mz_core.specs.declared.types.Base.{Base}
use Rattle.mz_core.specs.declared.types.Base.TheVariants as base
use Rattle.mz_arena.specs.Values as terms
use Rattle.mz_arena.specs.Values.{Term}
use Rattle.mz_meaning.specs.Cells.{Mode, Blank, Given, held, is_true, value_of}
use Rattle.mz_meaning.specs.Comprehensions.{if_given}
use Rattle.mz_meaning.specs.Runs.{Out}
use Rattle.mz_symbol.specs.Runs.{Run}
use Rattle.mz_symbol.specs.Symbols.{value_at}
use Rattle.mz_symbol.specs.Readings.{Reading, Reads, state_of}
use Rattle.mz_symbol.specs.Arguments.{as_argument}
use Rattle.mz_symbol_rows.proofs.RowLaws.{out_both, truth_is}
use Rattle.glob_nodes.specs.Says.{Says}
use Rattle.mz_eval_cells.specs.declared.types.Origin.TheVariants as origin
use Rattle.mz_eval_cells.specs.declared.types.VarValue.{VarValue}
use Rattle.mz_eval_cells.specs.declared.types.Known.{Known}
use Rattle.mz_eval_cells.specs.Views.{cast_by, origin_value, seen, truth_by, var_content}
use Rattle.mz_eval_comprehensions.specs.declared.presences.types.Presence.{Presence}
use Rattle.mz_eval_comprehensions.specs.declared.presences.types.Presence.TheVariants as presence
use Rattle.mz_eval_comprehensions.specs.Presences.{presence_seen, where_true}
use Rattle.mz_eval_comprehensions.specs.StepsDrawn.{IsWhere}

-- ---- nodes that are true where a value is

pub plain_truth : (t : ℕ → Term) (b : Base) (o : Option ℕ) (id : ℕ) → b ≡ base.Bool → o ≡ None → is_true (as_argument b o (value_at t b o id)) ≡ terms.is_true (t id)
plain_truth t b o id e f = rw (e, f) (truth_is (t id))

pub first_true : (a d : Bool) → is_true (truth_by a d) ≡ a
first_true true d = refl
first_true false true = refl
first_true false false = refl

-- a value that isn't recast
pub uncast : (o : Option ℕ) (x : VarValue) → x.cast ≡ None → MatchOption o (Unit {0}) (λ id. (t : ℕ → Term) → is_true (origin_value t x.origin) ≡ terms.is_true (t id))
    → MatchOption o (Unit {0}) (λ id. (t : ℕ → Term) → is_true (var_content t x) ≡ terms.is_true (t id))
uncast None x e h = tt
uncast (Some id) x e h = λ t. ap (λ c. is_true (cast_by c (origin_value t x.origin))) e ∙ h t

given_true : (m : Mode) (v : Option Content) (p : Bool) → is_true v ≡ p → if_given m (is_true (held m v)) ≡ if_given m p
given_true (Blank n) v p e = refl
given_true (Given f) v p e = e

-- a cell that holds this value
pub cell_true : (o : Option ℕ) (x : VarValue) → MatchOption o (Unit {0}) (λ id. (t : ℕ → Term) → is_true (var_content t x) ≡ terms.is_true (t id))
    → MatchOption o (Unit {0}) (λ id. (r : Reading) → Some (if_given r.mode (is_true (held r.mode (var_content r.term x)))) ≡ where_true r id)
cell_true None x h = tt
cell_true (Some id) x h = λ r. ap (λ b. Some b) (given_true r.mode (var_content r.term x) (terms.is_true (r.term id)) (h r.term))

-- ---- values that nothing tells

none_cast : (c : Option Base) → cast_by c None ≡ None
none_cast None = refl
none_cast (Some b) = refl

pub none_content : (x : VarValue) → x.origin ≡ origin.Nothing → (t : ℕ → Term) → var_content t x ≡ None
none_content x e t = ap (λ o. cast_by x.cast (origin_value t o)) e ∙ none_cast x.cast

held_none : (m : Mode) → held m None ≡ None
held_none (Blank n) = refl
held_none (Given f) = refl

pub none_held : (x : VarValue) → ((t : ℕ → Term) → var_content t x ≡ None) → (r : Reading) → held r.mode (var_content r.term x) ≡ None
none_held x h r = ap (held r.mode) (h r.term) ∙ held_none r.mode

pub nowhere_told : (old new : Run) (id : ℕ) → Says old new (λ _. false) id → IsWhere old new (λ r. Some (if_given r.mode false)) (presence.Where id)
nowhere_told old new id s = record { same = s.same; is = λ r h. ap (λ b. Some (if_given r.mode b)) (s.tells r h) }

pub untold_means : (r : Reading) (old new : Run) (k : Known) (p : Presence) → value_of (seen r k) ≡ None → IsWhere old new (λ r. Some (if_given r.mode false)) p → Reads r new
    → Out (Some (if_given r.mode (is_true (value_of (seen r k))))) (state_of r old) ≡ Out (presence_seen r p) (state_of r new)
untold_means r old new k p e w h = out_both (ap (λ v. Some (if_given r.mode (is_true v))) e ∙ sym (w.is r h)) (w.same r h)
