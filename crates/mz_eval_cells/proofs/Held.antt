-- What a mode holds of values that are told by origins.
use Rattle.std.proofs.Common.{◌≡◌, ◌∙◌, ℕ, ℤ, Bool, true, false, Option, Some, None, [], refl, sym, ap}
use Rattle.std.specs.Option.{option_map}
use Rattle.mz_value.specs.Contents.{Content}
use Rattle.mz_value.specs.Contents as values
use Rattle.mz_core.specs.declared.types.Base.TheVariants as base
use Rattle.mz_arena.specs.Values.{Term, as_number, is_one, is_true}
use Rattle.mz_symbol.specs.Symbols.{content_by, value_by}
use Rattle.mz_meaning.specs.Cells.{Mode, Blank, Given, held}
use Rattle.mz_meaning.specs.Cells as cells
use Rattle.mz_symbol.specs.declared.types.Symbol.{Symbol}
use Rattle.mz_symbol.specs.Arguments.{truth_of}
use Rattle.mz_eval_cells.specs.declared.types.Origin.TheVariants as origin
use Rattle.mz_eval_cells.specs.Views.{truth_by, origin_value}

pub held_none : (m : Mode) → held m None ≡ None
held_none (Blank n) = refl
held_none (Given f) = refl

pub held_map : (m : Mode) (f : Content → Content) (v : Option Content) → option_map f (held m v) ≡ held m (option_map f v)
held_map (Blank n) f v = refl
held_map (Given f) g v = refl

pub held_truth : (m : Mode) (v : Option Content) → held m (Some (values.bool (cells.is_true (held m v)))) ≡ held m (Some (values.bool (cells.is_true v)))
held_truth (Blank n) v = refl
held_truth (Given f) v = refl

pub truth_stays : (v : Option Content) → truth_of v ≡ Some (values.bool (cells.is_true (truth_of v)))
truth_stays v = refl

-- a node that isn't true counts as false
node_truth : (n : Option ℤ) → cells.is_true (option_map (λ n. content_by base.Bool n []) n) ≡ is_one n
node_truth None = refl
node_truth (Some n) = refl

by_nodes : (y d : Bool) → cells.is_true (truth_by y d) ≡ y
by_nodes true d = refl
by_nodes false true = refl
by_nodes false false = refl

pub truth_told : (t : ℕ → Term) (y d : ℕ) → origin_value t (origin.Symbol (record { base = base.Bool; occurs = None; term = y })) ≡ Some (values.bool (cells.is_true (origin_value t (origin.Truth y d))))
truth_told t y d = ap (λ b. Some (values.bool b)) (node_truth (as_number (t y)) ∙ sym (by_nodes (is_true (t y)) (is_true (t d))))
