-- Mirror of src/nodes.rt and src/sorts.rt; private clauses only.
use Rattle.std.specs.Prelude.{◌≡◌, ℕ, ℤ, pos, negsuc, Bool, true, false, Some}
use Rattle.mz_core.specs.declared.types.Base.{Base}
use Rattle.mz_core.specs.declared.types.Base.TheVariants as base
use Rattle.mz_operations.specs.declared.row.Arith.TheVariants.{Add}
use Rattle.mz_operations.specs.declared.row.Side.{Side}
use Rattle.mz_operations.specs.declared.row.Side.TheVariants.{Least, Greatest}
use Rattle.mz_operations.specs.Sets.{same_set}
use Rattle.mz_arena.specs.Values.{Term, number, arith_term, and_term, guard_term, member_term, not_term, set_comparison_term}
use Rattle.mz_symbol.specs.declared.types.Symbol.{Symbol}
use Rattle.mz_symbol_rows.specs.StepsNodes.{IsOf}

-- ---- sorts

abbrev pub is_set : Base → Bool
is_set base.SetInt = true
is_set (base.SetEnum e) = true
is_set b = false

abbrev pub is_element : Base → Bool
is_element base.Int = true
is_element (base.Enum e) = true
is_element b = false

-- a set, and its node
pub record IsSetOf (id : ℕ) (s : Symbol) : Type 0 where
  pub is : is_set s.base ≡ true
  pub of : IsOf s.base id s

-- an integer or a case, and its node
pub record IsElementOf (id : ℕ) (s : Symbol) : Type 0 where
  pub is : is_element s.base ≡ true
  pub of : IsOf s.base id s

-- a case of this enum, and its node
abbrev pub IsCaseOf : ℕ → ℕ → Symbol → Type 0
IsCaseOf e id s = IsOf (base.Enum e) id s

abbrev pub combined_base : Base → Base → Base
combined_base (base.SetEnum e) b = base.SetEnum e
combined_base a b = b

-- ---- nodes

abbrev pub is_there : Term → Term
is_there x = set_comparison_term same_set x x

abbrev pub unequal_term : Term → Term → Term
unequal_term x y = and_term (and_term (is_there x) (is_there y)) (not_term (set_comparison_term same_set x y))

abbrev pub step_of : Side → ℤ
step_of Least = negsuc 0
step_of Greatest = pos 1

abbrev pub next_term : Side → Term → Term
next_term side x = arith_term Add x (Some (number (step_of side)))

abbrev pub beside_term : Side → Term → Term → Term
beside_term side s x = guard_term (member_term (next_term side x) s) (next_term side x)
