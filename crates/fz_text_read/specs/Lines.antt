-- The lines of a program, and all of it.
use Rattle.std.specs.Prelude.{ℕ, zero, suc, List, [], ◌∷◌, length, drop, find, Bool, true, false, not, nat_eq, Option, Some, None, codes, if◌then◌else◌}
use Rattle.std.specs.List.{prefix_len}
use Rattle.std.specs.Str.{bytes_eq}
use Rattle.fz_items.specs.Items.{◌>>=◌, Read, choose}
use Rattle.fz_program.specs.Names.{Name}
use Rattle.fz_program.specs.Table.{line}
use Rattle.fz_program.specs.Flat.{Variable, ArrayItem, Row, Program}
use Rattle.fz_program.specs.declared.program.Domain.{Domain}
use Rattle.fz_program.specs.declared.program.Domain.TheVariants.{Bool as Truths, Ints, SetOf}
use Rattle.fz_program.specs.declared.program.FzGoal.{FzGoal}
use Rattle.fz_program.specs.declared.program.FzGoal.TheVariants.{Satisfy, Minimize, Maximize}
use Rattle.fz_program.specs.declared.row_name.RowName.{RowName}
use Rattle.fz_program.specs.declared.row_name.RowName.TheVariants.{IntEq, IntNe, IntLe, IntLt, IntEqReif, IntNeReif, IntLeReif, IntLtReif, IntLinEq, IntLinNe, IntLinLe, IntLinEqReif, IntLinNeReif, IntLinLeReif, IntTimes, IntDiv, IntMod, IntMin, IntMax, IntAbs, ArrayIntElement, ArrayVarIntElement, ArrayBoolElement, ArrayVarBoolElement, ArraySetElement, ArrayVarSetElement, BoolEq, BoolNot, BoolToInt, BoolXor, BoolEqReif, BoolLeReif, ArrayBoolAnd, ArrayBoolOr, BoolClause, SetIn, SetInReif, SetEq, SetNe, SetSubset, SetEqReif, SetNeReif, SetSubsetReif, SetUnion, SetIntersect, SetDiff, SetSymdiff, SetCard}
use Rattle.fz_text_read.specs.Tokens.{behind, name_at, range_at}
use Rattle.fz_text_read.specs.Lists.{closed_at, filled_at, set_at}
use Rattle.fz_text_read.specs.Arguments.{argument_at, place_at}
use Rattle.fz_text_read.specs.Tables.{named_variables, named_items}

-- ---- variables

unfoldable pub set_of_at : List ℕ → Read Domain
set_of_at bs = do
  s ← set_at bs
  Some (SetOf s.0, s.1)

unfoldable pub integers_at : List ℕ → Read Domain
integers_at bs = do
  s ← set_at bs
  Some (Ints s.0, s.1)

-- `bool`, a set, or `set of` a set
unfoldable pub domain_at : List ℕ → Read Domain
domain_at bs =
    choose (behind (codes "bool") bs) (λ rest. Some (Truths, rest)) (choose (behind (codes "set of ") bs) set_of_at (integers_at bs))

abbrev pub with_mark : List ℕ → Bool × List ℕ
with_mark rest = (true, rest)

-- a mark, where it stands
unfoldable pub mark_at : List ℕ → List ℕ → Bool × List ℕ
mark_at text bs = choose (behind text bs) with_mark (false, bs)

abbrev pub output_mark : List ℕ
output_mark = codes " :: output_var"

abbrev pub introduced_mark : List ℕ
introduced_mark = codes " :: var_is_introduced"

abbrev pub defined_mark : List ℕ
defined_mark = codes " :: is_defined_var"

-- the marks of a variable and the end of its line
unfoldable pub marked_at : Domain → Name → List ℕ → Read Variable
marked_at domain label bs = do
  output ← Some (mark_at output_mark bs)
  introduced ← Some (mark_at introduced_mark output.1)
  defined ← Some (mark_at defined_mark introduced.1)
  rest ← behind (codes ";\n") defined.1
  Some (record { label = label; domain = domain; introduced = introduced.0; defined = defined.0; output = output.0 }, rest)

-- a variable's line, after `var `
unfoldable pub variable_at : List ℕ → Read Variable
variable_at bs = do
  d ← domain_at bs
  colon ← behind (codes ": ") d.1
  n ← name_at colon
  marked_at d.0 n.0 n.1

-- ---- lines that begin with the same text

abbrev pub add_first : {A : Type 0} → A → List A × List ℕ → List A × List ℕ
add_first x r = (x ∷ r.0, r.1)

-- lines, as long as they begin with this text, up to this many
unfoldable pub lines_at : {A : Type 0} → List ℕ → (List ℕ → Read A) → ℕ → List ℕ → Read (List A)
lines_at head part zero bs = Some ([], bs)
lines_at head part (suc most) bs = choose (behind head bs) (λ rest. do
  x ← part rest
  xs ← lines_at head part most x.1
  Some (add_first x.0 xs)) (Some ([], bs))

abbrev pub every_at : {A : Type 0} → List ℕ → (List ℕ → Read A) → List ℕ → Read (List A)
every_at head part bs = lines_at head part (length bs) bs

-- ---- arrays

abbrev pub is_no_colon : ℕ → Bool
is_no_colon b = not (nat_eq b 58)

-- the bytes from the first colon: how many elements there are, and what they are, is told again after it
unfoldable pub from_colon : List ℕ → List ℕ
from_colon bs = drop (prefix_len is_no_colon bs) bs

-- an array's name, up to the ranges of its indices
unfoldable pub array_name_at : List ℕ → Read Name
array_name_at bs = do
  colon ← behind (codes ": ") (from_colon bs)
  n ← name_at colon
  sets ← behind (codes " :: output_array([") n.1
  Some (n.0, sets)

-- an array's line, after `array [1..`
unfoldable pub array_item_at : List Name → List ℕ → Read ArrayItem
array_item_at names bs = do
  n ← array_name_at bs
  index ← filled_at (codes "]) = [") range_at n.1
  items ← closed_at (codes "];\n") (place_at names) index.1
  Some (record { label = n.0; index = index.0; items = items.0 }, items.1)

-- ---- rows

abbrev pub all_rows : List RowName
all_rows = IntEq ∷ IntNe ∷ IntLe ∷ IntLt ∷ IntEqReif ∷ IntNeReif ∷ IntLeReif ∷ IntLtReif ∷ IntLinEq ∷ IntLinNe ∷ IntLinLe ∷ IntLinEqReif ∷ IntLinNeReif ∷ IntLinLeReif ∷ IntTimes ∷ IntDiv ∷ IntMod ∷ IntMin ∷ IntMax ∷ IntAbs ∷ ArrayIntElement ∷ ArrayVarIntElement ∷ ArrayBoolElement ∷ ArrayVarBoolElement ∷ ArraySetElement ∷ ArrayVarSetElement ∷ BoolEq ∷ BoolNot ∷ BoolToInt ∷ BoolXor ∷ BoolEqReif ∷ BoolLeReif ∷ ArrayBoolAnd ∷ ArrayBoolOr ∷ BoolClause ∷ SetIn ∷ SetInReif ∷ SetEq ∷ SetNe ∷ SetSubset ∷ SetEqReif ∷ SetNeReif ∷ SetSubsetReif ∷ SetUnion ∷ SetIntersect ∷ SetDiff ∷ SetSymdiff ∷ SetCard ∷ []

-- the constraint with a name
unfoldable pub row_named : Name → Option RowName
row_named w = find (λ r. bytes_eq (line r).text w) all_rows

unfoldable pub row_name_at : List ℕ → Read RowName
row_name_at bs = do
  w ← name_at bs
  r ← row_named w.0
  Some (r, w.1)

-- the variable that a row defines, after ` :: defines_var(`, and the end of the line
unfoldable pub defined_at : List Name → List ℕ → Read (Option ℕ)
defined_at names bs = do
  k ← place_at names bs
  rest ← behind (codes ");\n") k.1
  Some (Some k.0, rest)

unfoldable pub undefined_at : List ℕ → Read (Option ℕ)
undefined_at bs = do
  rest ← behind (codes ";\n") bs
  Some (None, rest)

unfoldable pub definition_at : List Name → List ℕ → Read (Option ℕ)
definition_at names bs = choose (behind (codes " :: defines_var(") bs) (defined_at names) (undefined_at bs)

-- a row's line, after `constraint `
unfoldable pub row_at : List Name → List ℕ → Read Row
row_at names bs = do
  r ← row_name_at bs
  inside ← behind (codes "(") r.1
  args ← filled_at (codes ")") (argument_at names) inside
  d ← definition_at names args.1
  Some (record { name = r.0; args = args.0; defines = d.0 }, d.1)

-- ---- the solve item

unfoldable pub satisfy_at : List ℕ → Read FzGoal
satisfy_at bs = do
  rest ← behind (codes "satisfy;\n") bs
  Some (Satisfy, rest)

unfoldable pub objective_at : List Name → (ℕ → FzGoal) → List ℕ → Read FzGoal
objective_at names goal bs = do
  k ← place_at names bs
  rest ← behind (codes ";\n") k.1
  Some (goal k.0, rest)

unfoldable pub optimum_at : List Name → List ℕ → Read FzGoal
optimum_at names bs =
    choose (behind (codes "minimize ") bs) (objective_at names Minimize) (choose (behind (codes "maximize ") bs) (objective_at names Maximize) (satisfy_at bs))

unfoldable pub goal_at : List Name → List ℕ → Read FzGoal
goal_at names bs = do
  rest ← behind (codes "solve ") bs
  optimum_at names rest

-- ---- the whole

-- what follows the variables
pub record Body : Type 0 where
  pub arrays : List ArrayItem
  pub rows : List Row
  pub goal : FzGoal

unfoldable pub body_at : List Name → List ℕ → Option Body
body_at names bs = do
  arrays ← every_at (codes "array [1..") (array_item_at names) bs
  rows ← every_at (codes "constraint ") (row_at names) arrays.1
  goal ← goal_at names rows.1
  if nat_eq (length goal.1) 0 then Some (record { arrays = arrays.0; rows = rows.0; goal = goal.0 }) else None

-- the same, where no variable's name stands twice
abbrev pub named_at : List Variable → List ℕ → Option Body
named_at vs bs = named_variables vs >>= λ names. body_at names bs

abbrev pub with_variables : List Variable → Body → Program
with_variables vs b = record { vars = vs; arrays = b.arrays; rows = b.rows; goal = b.goal }

-- a program, where no name stands twice
unfoldable pub program_at : List ℕ → Option Program
program_at bs = do
  vs ← every_at (codes "var ") variable_at bs
  b ← named_at vs.0 vs.1
  named_items vs.0 b.arrays >>= λ u. Some (with_variables vs.0 b)
