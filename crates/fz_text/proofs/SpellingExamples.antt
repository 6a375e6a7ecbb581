-- Programs, and what they spell.
use Rattle.std.proofs.Common.{◌≡◌, List, [], ◌∷◌, Bool, true, false, ℕ, Some, None, codes, refl}
use Rattle.std.specs.Prelude.{pos, negsuc}
use Rattle.std.specs.Fmt.{digits}
use Rattle.mz_operations.specs.Sets.{end_of}
use Rattle.fz_program.specs.declared.program.Domain.{Domain}
use Rattle.fz_program.specs.declared.program.Domain.TheVariants.{Bool as Truths, Ints, SetOf}
use Rattle.fz_program.specs.declared.program.FzGoal.TheVariants.{Satisfy, Minimize, Maximize}
use Rattle.fz_program.specs.declared.row_name.RowName.TheVariants.{IntEq, IntNe, IntLe, IntLt, IntLinLe, ArrayBoolAnd, ArraySetElement, SetInReif, BoolToInt}
use Rattle.fz_program.specs.Arguments.{bool, int, set as a_set, var, one, array}
use Rattle.fz_program.specs.Names.{Name}
use Rattle.fz_program.specs.Table.{line}
use Rattle.fz_program.specs.Flat.{Variable, ArrayItem, Row, Program}
use Rattle.fz_text.specs.Spelling.{argument_text, array_line, commas, definition, domain_text, element_of, element_text, elements, ends_of, goal_line, plain_text, row_line, set, set_ends, spelling, variable_line}

abbrev x : Variable
x = record { label = codes "x"; domain = Ints ((pos 1, pos 3) ∷ []); introduced = false; defined = false; output = true }

abbrev y : Variable
y = record { label = codes "y"; domain = Ints ((pos 1, pos 3) ∷ []); introduced = false; defined = false; output = true }

abbrev x_below_y : Row
x_below_y = record { name = IntLt; args = one (var 0) ∷ one (var 1) ∷ []; defines = None }

-- var 1..3: x; var 1..3: y; constraint x < y; solve satisfy;
abbrev small : Program
small = record { vars = x ∷ y ∷ []; arrays = []; rows = x_below_y ∷ []; goal = Satisfy }

pub spelling-small : spelling small ≡ codes "var 1..3: x :: output_var;\nvar 1..3: y :: output_var;\nconstraint int_lt(x,y);\nsolve satisfy;\n"
unfolding digits argument_text plain_text commas definition row_line line set domain_text variable_line goal_line
spelling-small = refl

pub spelling-empty : spelling (record { vars = []; arrays = []; rows = []; goal = Satisfy }) ≡ codes "solve satisfy;\n"
unfolding goal_line
spelling-empty = refl

pub set-empty : set [] ≡ codes "1..0"
unfolding set
set-empty = refl

pub set-contiguous : set ((negsuc 2, negsuc 0) ∷ []) ≡ codes "-3..-1"
unfolding digits set
set-contiguous = refl

pub set-one : set ((pos 0, pos 0) ∷ []) ≡ codes "0..0"
unfolding digits set
set-one = refl

pub set-gaps : set ((pos 1, pos 2) ∷ (pos 5, pos 5) ∷ []) ≡ codes "{1,2,5}"
unfolding digits elements set
set-gaps = refl

pub set-below_zero : set ((negsuc 2, negsuc 1) ∷ (pos 0, pos 1) ∷ []) ≡ codes "{-3,-2,0,1}"
unfolding digits elements set
set-below_zero = refl

abbrev marked : Bool → Bool → Bool → Variable
marked introduced defined output = record { label = codes "b"; domain = Ints ((pos 0, pos 1) ∷ []); introduced = introduced; defined = defined; output = output }

pub no_mark : variable_line (marked false false false) ≡ codes "var 0..1: b;\n"
unfolding digits set domain_text variable_line
no_mark = refl

pub output_mark : variable_line (marked false false true) ≡ codes "var 0..1: b :: output_var;\n"
unfolding digits set domain_text variable_line
output_mark = refl

pub introduced_mark : variable_line (marked true false false) ≡ codes "var 0..1: b :: var_is_introduced;\n"
unfolding digits set domain_text variable_line
introduced_mark = refl

pub defined_mark : variable_line (marked true true false) ≡ codes "var 0..1: b :: var_is_introduced :: is_defined_var;\n"
unfolding digits set domain_text variable_line
defined_mark = refl

abbrev a_b : List Name
a_b = codes "a" ∷ codes "b" ∷ []

pub row_defines : row_line a_b (record { name = IntEq; args = one (var 0) ∷ one (var 1) ∷ []; defines = Some 1 }) ≡ codes "constraint int_eq(a,b) :: defines_var(b);\n"
unfolding argument_text plain_text commas definition row_line line
row_defines = refl

pub row_numbers : row_line a_b (record { name = IntNe; args = one (int (negsuc 9)) ∷ one (var 1) ∷ []; defines = None }) ≡ codes "constraint int_ne(-10,b);\n"
unfolding digits argument_text plain_text commas definition row_line line
row_numbers = refl

pub row_at_most : row_line a_b (record { name = IntLe; args = one (var 1) ∷ one (int (pos 0)) ∷ []; defines = None }) ≡ codes "constraint int_le(b,0);\n"
unfolding digits argument_text plain_text commas definition row_line line
row_at_most = refl

-- arrays in rows, of none, of one and of more
pub row_arrays : row_line a_b (record { name = IntLinLe; args = array (int (pos 2) ∷ int (negsuc 0) ∷ []) ∷ array (var 0 ∷ var 1 ∷ []) ∷ one (int (pos 6)) ∷ []; defines = None }) ≡ codes "constraint int_lin_le([2,-1],[a,b],6);\n"
unfolding digits argument_text plain_text commas definition row_line line
row_arrays = refl

pub row_of_none : row_line a_b (record { name = ArrayBoolAnd; args = array [] ∷ one (var 1) ∷ []; defines = Some 1 }) ≡ codes "constraint array_bool_and([],b) :: defines_var(b);\n"
unfolding argument_text plain_text commas definition row_line line
row_of_none = refl

pub row_sets : row_line a_b (record { name = ArraySetElement; args = one (int (pos 1)) ∷ array (a_set [] ∷ a_set ((pos 1, pos 1) ∷ (pos 3, pos 3) ∷ []) ∷ []) ∷ one (var 0) ∷ []; defines = None }) ≡ codes "constraint array_set_element(1,[1..0,{1,3}],a);\n"
unfolding digits argument_text plain_text commas definition row_line line set elements
row_sets = refl

pub row_truths : row_line a_b (record { name = SetInReif; args = one (var 0) ∷ one (a_set ((pos 1, pos 3) ∷ [])) ∷ one (bool true) ∷ []; defines = None }) ≡ codes "constraint set_in_reif(a,1..3,true);\n"
unfolding digits argument_text plain_text commas definition row_line line set
row_truths = refl

pub row_of_one : row_line a_b (record { name = BoolToInt; args = one (bool false) ∷ one (int (pos 0)) ∷ []; defines = None }) ≡ codes "constraint bool2int(false,0);\n"
unfolding digits argument_text plain_text commas definition row_line line
row_of_one = refl

-- domains of truth values and of sets
abbrev free : Domain → Variable
free d = record { label = codes "s"; domain = d; introduced = false; defined = false; output = false }

pub truths : variable_line (free Truths) ≡ codes "var bool: s;\n"
unfolding domain_text variable_line
truths = refl

pub sets_of : variable_line (free (SetOf ((pos 1, pos 3) ∷ []))) ≡ codes "var set of 1..3: s;\n"
unfolding digits set domain_text variable_line
sets_of = refl

pub sets_of_none : variable_line (free (SetOf [])) ≡ codes "var set of 1..0: s;\n"
unfolding set domain_text variable_line
sets_of_none = refl

-- arrays: of integers in two dimensions, of none, and of sets with the hull of the upper bounds
abbrev arrayed : List ℕ → ArrayItem
arrayed ks = record { label = codes "q"; index = (pos 1, pos 2) ∷ []; items = ks }

pub integers : array_line (x ∷ y ∷ []) (record { label = codes "q"; index = (pos 1, pos 2) ∷ (pos 0, pos 0) ∷ []; items = 1 ∷ 0 ∷ [] }) ≡ codes "array [1..2] of var int: q :: output_array([1..2,0..0]) = [y,x];\n"
unfolding digits array_line element_text element_of commas
integers = refl

pub none_at_all : array_line [] (record { label = codes "q"; index = (pos 1, pos 0) ∷ []; items = [] }) ≡ codes "array [1..0] of var int: q :: output_array([1..0]) = [];\n"
unfolding digits array_line element_text commas
none_at_all = refl

pub subsets : array_line (free (SetOf ((pos 1, pos 2) ∷ (pos 5, pos 5) ∷ [])) ∷ free (SetOf ((negsuc 0, pos 0) ∷ [])) ∷ []) (arrayed (0 ∷ 1 ∷ [])) ≡ codes "array [1..2] of var set of -1..5: q :: output_array([1..2]) = [s,s];\n"
unfolding digits array_line element_text element_of commas set_ends ends_of end_of
subsets = refl

pub least_of : goal_line a_b (Minimize 1) ≡ codes "solve minimize b;\n"
unfolding goal_line
least_of = refl

pub greatest_of : goal_line a_b (Maximize 0) ≡ codes "solve maximize a;\n"
unfolding goal_line
greatest_of = refl
