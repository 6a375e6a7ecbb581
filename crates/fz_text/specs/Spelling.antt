-- The one spelling of a FlatZinc program.
use Rattle.std.specs.Prelude.{◌≡◌, ℕ, zero, suc, ℤ, pos, ◌+ℤ◌, ◌-ℤ◌, nat_abs, List, [], ◌∷◌, ◌++◌, map, Bool, Option, Some, None, codes, decimal, length, slice_index_or, slice_get, if◌then◌else◌}
use Rattle.std.specs.Fmt.{signed_decimal}
use Rattle.std.specs.List.{join_with_byte, flat_map}
use Rattle.mz_value.specs.Ranges.{Range}
use Rattle.mz_interval.specs.Ends.{Ends, hull_of_some}
use Rattle.mz_operations.specs.declared.row.Side.TheVariants.{Least, Greatest}
use Rattle.mz_operations.specs.Sets.{end_of}
use Rattle.fz_program.specs.declared.program.Domain.{Domain}
use Rattle.fz_program.specs.declared.program.Domain.TheVariants.{Bool as Truths, Ints, SetOf}
use Rattle.fz_program.specs.declared.program.FzGoal.{FzGoal}
use Rattle.fz_program.specs.declared.program.FzGoal.TheVariants.{Satisfy, Minimize, Maximize}
use Rattle.fz_program.specs.Names.{Name}
use Rattle.fz_program.specs.Arguments as arguments
use Rattle.fz_program.specs.Arguments.{Plain, Argument}
use Rattle.fz_program.specs.Table.{line}
use Rattle.fz_program.specs.Flat.{Variable, ArrayItem, Row, Program, WellFormed, labels_of}

-- the integers of a range, ascending
abbrev pub numbers_from : ℤ → ℕ → List ℤ
numbers_from n zero = []
numbers_from n (suc more) = n ∷ numbers_from (n +ℤ pos 1) more

unfoldable pub elements : Range → List ℤ
elements r = numbers_from r.0 (suc (nat_abs (r.1 -ℤ r.0)))

-- numbers with commas between them
abbrev pub numbers : List ℤ → List ℕ
numbers ns = join_with_byte 44 (map signed_decimal ns)

abbrev pub interval : Range → List ℕ
interval r = signed_decimal r.0 ++ codes ".." ++ signed_decimal r.1

-- the elements of several ranges in braces
abbrev pub braces : List Range → List ℕ
braces rs = codes "{" ++ numbers (flat_map elements rs) ++ codes "}"

-- a set: `1..0` where it is empty, `l..u` where it is one range, else its elements in braces
unfoldable pub set : List Range → List ℕ
set [] = codes "1..0"
set (r ∷ []) = interval r
set (r ∷ s ∷ rs) = braces (r ∷ s ∷ rs)

abbrev pub mark : Bool → List ℕ → List ℕ
mark b text = if b then codes " :: " ++ text else []

-- `bool`, a set, or `set of` a set
unfoldable pub domain_text : Domain → List ℕ
domain_text Truths = codes "bool"
domain_text (Ints s) = set s
domain_text (SetOf s) = codes "set of " ++ set s

-- `var DOMAIN: NAME;` with its marks
unfoldable pub variable_line : Variable → List ℕ
variable_line v =
    codes "var " ++ domain_text v.domain ++ codes ": " ++ v.label ++ mark v.output (codes "output_var") ++ mark v.introduced (codes "var_is_introduced") ++ mark v.defined (codes "is_defined_var") ++ codes ";\n"

-- texts with commas between them
unfoldable pub commas : List (List ℕ) → List ℕ
commas [] = []
commas (t ∷ ts) = t ++ flat_map (λ u. 44 ∷ u) ts

abbrev pub label_at : List Name → ℕ → List ℕ
label_at names k = slice_index_or names k []

abbrev pub truth : Bool → List ℕ
truth b = if b then codes "true" else codes "false"

-- an argument that is no array, or an element of one
unfoldable pub plain_text : List Name → Plain → List ℕ
plain_text names (arguments.bool b) = truth b
plain_text names (arguments.int n) = signed_decimal n
plain_text names (arguments.set s) = set s
plain_text names (arguments.var k) = label_at names k
plain_text names arguments.nested = []

-- `[a,b]`
abbrev pub array_text : List Name → List Plain → List ℕ
array_text names ps = codes "[" ++ commas (map (plain_text names) ps) ++ codes "]"

unfoldable pub argument_text : List Name → Argument → List ℕ
argument_text names (arguments.one p) = plain_text names p
argument_text names (arguments.array ps) = array_text names ps

-- arguments with commas between them
abbrev pub argument_list : List Name → List Argument → List ℕ
argument_list names args = commas (map (argument_text names) args)

unfoldable pub definition : List Name → Option ℕ → List ℕ
definition names None = []
definition names (Some k) = codes " :: defines_var(" ++ label_at names k ++ codes ")"

-- `constraint row(a,b);`, with the variable that it defines
unfoldable pub row_line : List Name → Row → List ℕ
row_line names r =
    codes "constraint " ++ (line r.name).text ++ codes "(" ++ argument_list names r.args ++ codes ")" ++ definition names r.defines ++ codes ";\n"

-- ---- arrays

-- the least and the greatest element of a set that isn't empty
abbrev pub ends_from : Option ℤ → Option ℤ → Option Ends
ends_from (Some lo) (Some hi) = Some (lo, hi)
ends_from _ _ = None

unfoldable pub ends_of : List Range → Option Ends
ends_of s = ends_from (end_of Least s) (end_of Greatest s)

abbrev pub domain_ends : Domain → Option Ends
domain_ends (SetOf s) = ends_of s
domain_ends _ = None

unfoldable pub set_ends : Option Variable → Option Ends
set_ends None = None
set_ends (Some v) = domain_ends v.domain

-- the hull of the sets that the elements are subsets of
abbrev pub hull : List Variable → Option Ends → List ℕ → Option Ends
hull vs acc [] = acc
hull vs acc (k ∷ ks) = hull vs (hull_of_some acc (set_ends (slice_get vs k))) ks

abbrev pub hull_text : Option Ends → List ℕ
hull_text None = codes "1..0"
hull_text (Some e) = interval e

-- what the elements are, by the first; `int` where there is none
unfoldable pub element_of : List Variable → List ℕ → Domain → List ℕ
element_of vs ks Truths = codes "bool"
element_of vs ks (Ints s) = codes "int"
element_of vs ks (SetOf s) = codes "set of " ++ hull_text (hull vs None ks)

abbrev pub element_by : List Variable → List ℕ → Option Variable → List ℕ
element_by vs ks None = codes "int"
element_by vs ks (Some v) = element_of vs ks v.domain

unfoldable pub element_text : List Variable → List ℕ → List ℕ
element_text vs [] = codes "int"
element_text vs (k ∷ ks) = element_by vs (k ∷ ks) (slice_get vs k)

-- `array [1..n] of var ELEM: NAME :: output_array([l..u,l..u]) = [a,b];`
unfoldable pub array_line : List Variable → ArrayItem → List ℕ
array_line vs a =
    codes "array [1.." ++ decimal (length a.items) ++ codes "] of var " ++ element_text vs a.items ++ codes ": " ++ a.label ++ codes " :: output_array([" ++ commas (map interval a.index) ++ codes "]) = [" ++ commas (map (label_at (labels_of vs)) a.items) ++ codes "];\n"

unfoldable pub goal_line : List Name → FzGoal → List ℕ
goal_line names Satisfy = codes "solve satisfy;\n"
goal_line names (Minimize k) = codes "solve minimize " ++ label_at names k ++ codes ";\n"
goal_line names (Maximize k) = codes "solve maximize " ++ label_at names k ++ codes ";\n"

-- variables, arrays, constraints, and the solve item, a line each
abbrev pub spelling : Program → List ℕ
spelling p =
    flat_map variable_line p.vars ++ flat_map (array_line p.vars) p.arrays ++ flat_map (row_line (labels_of p.vars)) p.rows ++ goal_line (labels_of p.vars) p.goal

-- the bytes spell this well-formed program
pub record Spells (bytes : List ℕ) (p : Program) : Type 0 where
  pub well_formed : WellFormed p
  pub spelled : bytes ≡ spelling p
