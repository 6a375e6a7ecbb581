-- Mirror of src/nodes.rt and src/sorts.rt; private clauses only.
use Rattle.std.specs.Prelude.{◌≡◌, ℕ, ℤ, pos, Bool, true, false, not, Option, Some, None}
use Rattle.std.specs.Ordering.{int_eq}
use Rattle.mz_core.specs.declared.types.Base.{Base}
use Rattle.mz_core.specs.declared.types.Base.TheVariants as base
use Rattle.mz_arena.specs.declared.node.NodeKind.{NodeKind}
use Rattle.mz_arena.specs.Values.{Term, number, comparison_term, and_term, or_term, not_term, to_int_term, if_term, guard_term}
use Rattle.mz_symbol.specs.declared.types.Symbol.{Symbol}
use Rattle.mz_symbol.specs.Readings.{Reading, node_meaning}
use Rattle.mz_symbol_rows.specs.RowValues.{is_single}

-- ---- symbols

abbrev pub symbol_of : Base → Option ℕ → ℕ → Symbol
symbol_of b o id = record { base = b; occurs = o; term = id }

-- an option of a single value, with the node of its occurrence
pub record IsOption (o : ℕ) (s : Symbol) : Type 0 where
  pub single : is_single s.base ≡ true
  pub occurs : s.occurs ≡ Some o

-- two of one base
pub record AreOptions (o p : ℕ) (a b : Symbol) : Type 0 where
  pub first : IsOption o a
  pub same : b.base ≡ a.base
  pub second : b.occurs ≡ Some p

-- a single value that is no option
pub record IsPlain (s : Symbol) : Type 0 where
  pub single : is_single s.base ≡ true
  pub occurs : s.occurs ≡ None

-- ---- nodes

-- what a node of a kind means over up to three others
abbrev pub meaning_of : NodeKind → ℕ → ℕ → ℕ → Reading → Term
meaning_of k a b c r = node_meaning r (record { kind = k; a = a; b = b; c = c; number = pos 0 })

abbrev pub one : Term
one = Some (number (pos 1))

-- a truth value as an integer
abbrev pub whole_term : Base → Term → Term
whole_term base.Bool x = to_int_term x
whole_term b x = x

-- ---- equality

abbrev pub differ : ℤ → ℤ → Bool
differ i j = not (int_eq i j)

abbrev pub bit_term : Bool → Term → Term
bit_term true x = comparison_term int_eq x one
bit_term false x = comparison_term differ x one

abbrev pub bits_term : Term → Bool → Term → Bool → Term
bits_term x a y b = and_term (bit_term a x) (bit_term b y)

abbrev pub alike_term : Bool → Term → Term → Term
alike_term same x y = or_term (bits_term x true y same) (bits_term x false y (not same))

abbrev pub same_term : Base → Term → Term → Term
same_term base.Bool x y = alike_term true x y
same_term b x y = comparison_term int_eq x y

abbrev pub other_term : Base → Term → Term → Term
other_term base.Bool x y = alike_term false x y
other_term b x y = comparison_term differ x y

abbrev pub equal_where_term : Term → Term → Term → Term
equal_where_term o x y = and_term o (comparison_term int_eq x y)

abbrev pub there_term : Base → Term → Term → Term → Term
there_term b p x y = and_term p (same_term b x y)

abbrev pub equal_term : Base → Term → Term → Term → Term → Term
equal_term b o x p y = if_term o (there_term b p x y) (not_term p)

abbrev pub unequal_there_term : Base → Term → Term → Term → Term
unequal_there_term b x p y = if_term p (other_term b x y) (comparison_term int_eq x x)

abbrev pub unequal_term : Base → Term → Term → Term → Term → Term
unequal_term b o x p y = if_term o (unequal_there_term b x p y) (equal_where_term p y y)

-- ---- values

abbrev pub value_term : Base → Term → Term → Term
value_term base.Bool o x = equal_where_term o x one
value_term b o x = guard_term o x

abbrev pub summand_term : Term → Term → Term
summand_term o x = if_term o x (Some (number (pos 0)))

-- ---- under a condition

abbrev pub kept_term : Base → Term → Term → Term
kept_term base.Bool d x = and_term d x
kept_term b d x = guard_term d x
