-- Mirror of src/nodes.rt and src/sorts.rt; private clauses only.
use Rattle.std.specs.Prelude.{◌≡◌, ℕ, pos, negsuc, Bool, true, false, Some, None}
use Rattle.std.specs.Prelude.{int_le, int_lt, not}
use Rattle.std.specs.Ordering.{int_eq}
use Rattle.mz_core.specs.declared.types.Base.{Base}
use Rattle.mz_core.specs.declared.types.Base.TheVariants as base
use Rattle.mz_operations.specs.declared.row.Arith.{Arith}
use Rattle.mz_operations.specs.declared.row.Arith.TheVariants.{Add, Sub, Mul, Div, Mod, Min, Max}
use Rattle.mz_operations.specs.declared.row.Sign.{Sign}
use Rattle.mz_operations.specs.declared.row.Sign.TheVariants.{Plus, Minus, Abs}
use Rattle.mz_operations.specs.declared.row.Comparison.{Comparison}
use Rattle.mz_operations.specs.declared.row.Comparison.TheVariants.{Less, AtMost, Greater, AtLeast}
use Rattle.mz_operations.specs.declared.row.Connective.{Connective}
use Rattle.mz_operations.specs.declared.row.Connective.TheVariants.{Iff, Implies, IsImplied, Or, Xor, And}
use Rattle.mz_operations.specs.declared.row.Side.{Side}
use Rattle.mz_operations.specs.declared.row.Side.TheVariants.{Least, Greatest}
use Rattle.mz_arena.specs.declared.node.NodeKind.{NodeKind}
use Rattle.mz_arena.specs.Values.{Term, number, empty, arith_term, sign_term, extreme_term, cons_term, comparison_term, and_term, or_term, not_term, iff_term, to_int_term}
use Rattle.mz_symbol.specs.declared.types.Symbol.{Symbol}
use Rattle.mz_symbol.specs.Readings.{Reading, node_meaning}
use Rattle.mz_symbol_rows.specs.RowValues.{is_single}

-- a symbol of a base that is no option
abbrev pub symbol_of : Base → ℕ → Symbol
symbol_of b id = record { base = b; occurs = None; term = id }

pub record IsOf (b : Base) (id : ℕ) (s : Symbol) : Type 0 where
  pub base : s.base ≡ b
  pub occurs : s.occurs ≡ None
  pub term : s.term ≡ id

-- two single values of one base
pub record IsPair (a b : Symbol) : Type 0 where
  pub single : is_single a.base ≡ true
  pub same : b.base ≡ a.base
  pub first : a.occurs ≡ None
  pub second : b.occurs ≡ None

-- what a node of a kind means over up to two others
abbrev pub meaning_over : NodeKind → ℕ → ℕ → Reading → Term
meaning_over k a b r = node_meaning r (record { kind = k; a = a; b = b; c = 0; number = pos 0 })

-- ---- integers

abbrev pub minus_one : Term
minus_one = Some (number (negsuc 0))

abbrev pub negative_term : Term → Term
negative_term x = arith_term Mul minus_one x

abbrev pub extreme_of_two : Side → Term → Term → Term
extreme_of_two side x y = extreme_term side (cons_term x (cons_term y (Some empty)))

abbrev pub made_arith : Arith → Term → Term → Term
made_arith Add x y = arith_term Add x y
made_arith Sub x y = arith_term Add x (negative_term y)
made_arith Mul x y = arith_term Mul x y
made_arith Div x y = arith_term Div x y
made_arith Mod x y = arith_term Mod x y
made_arith Min x y = extreme_of_two Least x y
made_arith Max x y = extreme_of_two Greatest x y

abbrev pub made_sign : Sign → Term → Term
made_sign Plus x = x
made_sign Minus x = negative_term x
made_sign Abs x = sign_term Abs x

-- ---- comparisons

-- a truth value as 0 or 1, an integer, or the number of a case
abbrev pub number_term : Base → Term → Term
number_term base.Bool x = to_int_term x
number_term b x = x

abbrev pub made_order : Comparison → Term → Term → Term
made_order Less x y = comparison_term int_lt x y
made_order AtMost x y = comparison_term int_le x y
made_order Greater x y = comparison_term int_lt y x
made_order AtLeast x y = comparison_term int_le y x

abbrev pub made_equal : Base → Term → Term → Term
made_equal base.Bool x y = iff_term x y
made_equal b x y = comparison_term int_eq x y

abbrev pub made_unequal : Base → Term → Term → Term
made_unequal base.Bool x y = not_term (iff_term x y)
made_unequal b x y = comparison_term (λ i j. not (int_eq i j)) x y

-- ---- connectives

abbrev pub made_logic : Connective → Term → Term → Term
made_logic Iff x y = iff_term x y
made_logic Implies x y = or_term (not_term x) y
made_logic IsImplied x y = or_term x (not_term y)
made_logic Or x y = or_term x y
made_logic Xor x y = not_term (iff_term x y)
made_logic And x y = and_term x y

-- the bases of `bool2int` and `enum2int`
abbrev pub is_ordinal : Base → Bool
is_ordinal base.Bool = true
is_ordinal (base.Enum e) = true
is_ordinal b = false
