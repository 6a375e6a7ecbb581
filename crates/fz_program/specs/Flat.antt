-- FlatZinc programs: their parts, when they are well formed, and what solves them.
use Rattle.std.specs.Prelude.{◌≡◌, ◌≢◌, ℕ, ◌+◌, ◌*◌, ◌^◌, ◌-◌, ℤ, pos, ◌+ℤ◌, max, unsigned_abs, nat_eq, nat_le, List, [], ◌∷◌, ◌++◌, ◌≤ℤ◌, length, map, Bool, true, false, ◌&&◌, ◌||◌, Option, Some, None, string_bytes, slice_index_or, slice_get, int_le, int_lt}
use Rattle.std.specs.List.{AllByRecursion, Contains, list_all, list_any}
use Rattle.std.specs.Ordering.{int_eq}
use Rattle.mz_value.specs.Ranges.{Range, AreCanonical, Has, AreInLimit, cardinality, range_of, least, greatest}
use Rattle.fz_program.specs.declared.program.FzProgram.{FzProgram}
use Rattle.fz_program.specs.declared.program.FzVar.{FzVar}
use Rattle.fz_program.specs.declared.program.FzArray.{FzArray}
use Rattle.fz_program.specs.declared.program.FzRow.{FzRow}
use Rattle.fz_program.specs.declared.program.FzGoal.{FzGoal}
use Rattle.fz_program.specs.declared.program.FzGoal.TheVariants.{Satisfy, Minimize, Maximize}
use Rattle.fz_program.specs.declared.program.Domain.{Domain}
use Rattle.fz_program.specs.declared.program.Domain.TheVariants.{Bool as Truths, Ints as Integers, SetOf}
use Rattle.fz_program.specs.declared.row_name.RowName.{RowName}
use Rattle.fz_program.specs.declared.row_name.Kind.{Kind}
use Rattle.fz_program.specs.declared.row_name.Kind.TheVariants.{Int, Bool as Truth, Set, ConstInt, Ints, Bools, Sets, ConstInts, ConstBools, ConstSets}
use Rattle.mz_operations.specs.declared.row.Side.TheVariants.{Least, Greatest}
use Rattle.mz_operations.specs.Sets.{end_of}
use Rattle.fz_program.specs.Names.{Name}
use Rattle.fz_program.specs.Arguments.{Plain, bool, int, set, var, nested, Argument, one, array, argument}
use Rattle.fz_program.specs.Values as values
use Rattle.fz_program.specs.Values.{Value, Values, ArgumentValue}
use Rattle.fz_program.specs.Table.{line, Holds}
use Rattle.mz_base.specs.Words.{is_identifier}

-- a variable, with its domain and its marks
pub record Variable : Type 0 where
  pub label : Name
  pub domain : Domain
  pub introduced : Bool
  pub defined : Bool
  pub output : Bool

-- an array, with its index ranges and the places of its variables
pub record ArrayItem : Type 0 where
  pub label : Name
  pub index : List Range
  pub items : List ℕ

pub record Row : Type 0 where
  pub name : RowName
  pub args : List Argument
  pub defines : Option ℕ

pub record Program : Type 0 where
  pub vars : List Variable
  pub arrays : List ArrayItem
  pub rows : List Row
  pub goal : FzGoal

-- a program of the code, without where it lies in memory
abbrev pub variable : FzVar → Variable
variable v = record { label = string_bytes v.label.text; domain = v.domain; introduced = v.introduced; defined = v.defined; output = v.output }

abbrev pub array_item : FzArray → ArrayItem
array_item a = record { label = string_bytes a.label.text; index = a.index.items; items = a.items.items }

abbrev pub row : FzRow → Row
row r = record { name = r.name; args = map argument r.args.items; defines = r.defines }

abbrev pub program : FzProgram → Program
program p = record { vars = map variable p.vars.items; arrays = map array_item p.arrays.items; rows = map row p.rows.items; goal = p.goal }

abbrev pub labels_of : List Variable → List Name
labels_of vs = map (λ v. v.label) vs

abbrev pub array_labels : List ArrayItem → List Name
array_labels xs = map (λ x. x.label) xs

-- the names of the variables, and then those of the arrays
abbrev pub labels : Program → List Name
labels p = labels_of p.vars ++ array_labels p.arrays

-- ---- well-formed programs

abbrev pub is_literal : ℤ → Bool
is_literal n = int_le least n && int_le n greatest

-- no name stands twice
abbrev pub AreDistinct : List Name → Type 0
AreDistinct [] = Unit {0}
AreDistinct (x ∷ xs) = (Contains xs x → ⊥) × AreDistinct xs

-- no mark, output alone, introduced alone, or introduced and defined
abbrev pub AreMarks : Bool → Bool → Bool → Type 0
AreMarks output introduced defined = (output ≡ true → (introduced ≡ false) × (defined ≡ false)) × (defined ≡ true → introduced ≡ true)

abbrev pub HasMarks : Variable → Type 0
HasMarks v = AreMarks v.output v.introduced v.defined

-- some value: a set of sets has the empty one
abbrev pub IsSome : Domain → Type 0
IsSome Truths = Unit {0}
IsSome (Integers s) = s ≢ []
IsSome (SetOf s) = Unit {0}

-- the set that a domain is made of: canonical, and within the numbers that may be written
abbrev pub IsSet : List Range → Type 0
IsSet s = AreCanonical s × AreInLimit s

abbrev pub IsOfSet : Domain → Type 0
IsOfSet Truths = Unit {0}
IsOfSet (Integers s) = IsSet s
IsOfSet (SetOf s) = IsSet s

-- a name, the marks of one line, and a domain that isn't empty
pub record IsWellFormedVariable (v : Variable) : Type 0 where
  pub label : is_identifier v.label ≡ true
  pub marks : HasMarks v
  pub some : IsSome v.domain
  pub of_set : IsOfSet v.domain

-- what a variable stands for
unfoldable pub kind_of_domain : Domain → Kind
kind_of_domain Truths = Truth
kind_of_domain (Integers s) = Int
kind_of_domain (SetOf s) = Set

unfoldable pub same_kind : Kind → Kind → Bool
same_kind Int Int = true
same_kind Truth Truth = true
same_kind Set Set = true
same_kind _ _ = false

abbrev pub is_kind : Option Variable → Kind → Bool
is_kind None kind = false
is_kind (Some v) kind = same_kind kind (kind_of_domain v.domain)

-- a variable that is declared, and stands for an integer, a truth value or a set
abbrev pub is_variable_of : List Variable → Kind → ℕ → Bool
is_variable_of vs kind k = is_kind (slice_get vs k) kind

-- a range that isn't empty, of numbers that may be written
abbrev pub is_literal_range : Range → Bool
is_literal_range r = int_le r.0 r.1 && (is_literal r.0 && is_literal r.1)

-- some integer above a range lies below all ranges after it
abbrev pub is_apart : Range → List Range → Bool
is_apart r [] = true
is_apart r (s ∷ ss) = int_lt (r.1 +ℤ pos 1) s.0

-- the same test of a set that stands in a row as `IsSet` of a domain's: canonical, and within the numbers that may be written
unfoldable pub is_set : List Range → Bool
is_set [] = true
is_set (r ∷ rs) = is_literal_range r && (is_apart r rs && is_set rs)

-- an element of an array, or an argument, that is constant
unfoldable pub is_constant : Kind → Plain → Bool
is_constant kind (bool b) = same_kind kind Truth
is_constant kind (int n) = same_kind kind Int && is_literal n
is_constant kind (set s) = same_kind kind Set && is_set s
is_constant kind (var k) = false
is_constant kind nested = false

-- and one that may be a variable
unfoldable pub is_plain : List Variable → Kind → Plain → Bool
is_plain vs kind (var k) = is_variable_of vs kind k
is_plain vs kind p = is_constant kind p

abbrev pub is_one_of : (Plain → Bool) → Argument → Bool
is_one_of test (one p) = test p
is_one_of test (array ps) = false

abbrev pub are_all_of : (Plain → Bool) → Argument → Bool
are_all_of test (one p) = false
are_all_of test (array ps) = list_all test ps

-- an argument is of the kind that its constraint takes
unfoldable pub is_argument : List Variable → Kind → Argument → Bool
is_argument vs Int a = is_one_of (is_plain vs Int) a
is_argument vs Truth a = is_one_of (is_plain vs Truth) a
is_argument vs Set a = is_one_of (is_plain vs Set) a
is_argument vs ConstInt a = is_one_of (is_constant Int) a
is_argument vs Ints a = are_all_of (is_plain vs Int) a
is_argument vs Bools a = are_all_of (is_plain vs Truth) a
is_argument vs Sets a = are_all_of (is_plain vs Set) a
is_argument vs ConstInts a = are_all_of (is_constant Int) a
is_argument vs ConstBools a = are_all_of (is_constant Truth) a
is_argument vs ConstSets a = are_all_of (is_constant Set) a

-- as many arguments as kinds, each of its kind
unfoldable pub are_arguments : List Variable → List Kind → List Argument → Bool
are_arguments vs [] [] = true
are_arguments vs (k ∷ ks) (a ∷ more) = is_argument vs k a && are_arguments vs ks more
are_arguments vs _ _ = false

-- a variable stands among the arguments, or in one of them
abbrev pub is_variable : ℕ → Plain → Bool
is_variable k (var j) = nat_eq j k
is_variable k _ = false

abbrev pub has_variable : ℕ → Argument → Bool
has_variable k (one p) = is_variable k p
has_variable k (array ps) = list_any (is_variable k) ps

-- a variable that a row defines stands in it
abbrev pub is_definition : List Argument → Option ℕ → Bool
is_definition args None = true
is_definition args (Some k) = list_any (has_variable k) args

-- ---- linear rows: the greatest that their sums come to, whatever the variables' values

abbrev pub end_magnitude : Option ℤ → ℕ
end_magnitude None = 0
end_magnitude (Some n) = unsigned_abs n

-- the greatest magnitude of a set of integers: that of its least or of its greatest
abbrev pub greatest_magnitude : List Range → ℕ
greatest_magnitude s = max (end_magnitude (end_of Least s)) (end_magnitude (end_of Greatest s))

abbrev pub domain_magnitude : Domain → ℕ
domain_magnitude Truths = 0
domain_magnitude (Integers s) = greatest_magnitude s
domain_magnitude (SetOf s) = 0

abbrev pub magnitude_at : Option Variable → ℕ
magnitude_at None = 0
magnitude_at (Some v) = domain_magnitude v.domain

-- of a number or an integer variable
abbrev pub magnitude : List Variable → Plain → ℕ
magnitude vs (int n) = unsigned_abs n
magnitude vs (var k) = magnitude_at (slice_get vs k)
magnitude vs _ = 0

-- the sum of the coefficients' magnitudes times those of the variables
unfoldable pub weight : List Variable → List Plain → List Plain → ℕ
weight vs (c ∷ cs) (x ∷ xs) = magnitude vs c * magnitude vs x + weight vs cs xs
weight vs _ _ = 0

-- the greatest number of 64 bits with a sign
abbrev pub most : ℕ
most = 2 ^ 63 - 1

-- as many coefficients as variables, and a sum that stays within 64 bits
abbrev pub is_linear : List Variable → List Plain → List Plain → Plain → Bool
is_linear vs cs xs c = nat_eq (length cs) (length xs) && nat_le (magnitude vs c + weight vs cs xs) most

-- The linear rows are those whose arguments begin with two arrays and a number.
unfoldable pub is_within : List Variable → List Argument → Bool
is_within vs (array cs ∷ array xs ∷ one c ∷ more) = is_linear vs cs xs c
is_within vs _ = true

-- arguments of the table's kinds, the variable that is defined among them, and a sum that stays within 64 bits
pub record IsWellFormedRow (vs : List Variable) (r : Row) : Type 0 where
  pub args : are_arguments vs (line r.name).kinds r.args ≡ true
  pub defines : is_definition r.args r.defines ≡ true
  pub within : is_within vs r.args ≡ true

-- ---- arrays

-- `1..0`, or a range that isn't empty, of numbers that may be written
abbrev pub is_index_range : Range → Bool
is_index_range r = (int_eq r.0 (pos 1) && int_eq r.1 (pos 0)) || (int_le r.0 r.1 && (is_literal r.0 && is_literal r.1))

-- there is an index range, and each is such a range
abbrev pub is_index : List Range → Bool
is_index [] = false
is_index (r ∷ rs) = is_index_range r && list_all is_index_range rs

-- how many places index ranges have
unfoldable pub place_count : List Range → ℕ
place_count [] = 1
place_count (r ∷ rs) = cardinality (range_of r.0 r.1) * place_count rs

-- all places hold declared variables of one kind
abbrev pub are_variables_of : List Variable → Kind → List ℕ → Bool
are_variables_of vs kind items = list_all (is_variable_of vs kind) items

abbrev pub are_alike : List Variable → List ℕ → Bool
are_alike vs items = are_variables_of vs Int items || (are_variables_of vs Truth items || are_variables_of vs Set items)

-- a name, index ranges with as many places as there are elements, and elements of one kind
pub record IsWellFormedArray (vs : List Variable) (a : ArrayItem) : Type 0 where
  pub label : is_identifier a.label ≡ true
  pub index : is_index a.index ≡ true
  pub count : place_count a.index ≡ length a.items
  pub alike : are_alike vs a.items ≡ true

-- what is minimized or maximized is an integer variable
abbrev pub is_goal : List Variable → FzGoal → Bool
is_goal vs Satisfy = true
is_goal vs (Minimize k) = is_variable_of vs Int k
is_goal vs (Maximize k) = is_variable_of vs Int k

-- all but the names that stand twice
pub record AreParts (p : Program) : Type 0 where
  pub vars : AllByRecursion IsWellFormedVariable p.vars
  pub arrays : AllByRecursion (IsWellFormedArray p.vars) p.arrays
  pub rows : AllByRecursion (IsWellFormedRow p.vars) p.rows
  pub goal : is_goal p.vars p.goal ≡ true

pub record WellFormed (p : Program) : Type 0 where
  pub distinct : AreDistinct (labels p)
  pub parts : AreParts p

-- ---- solutions

abbrev pub number_of_truth : Bool → ℤ
number_of_truth true = pos 1
number_of_truth false = pos 0

-- what an argument stands for, by the variables' values
abbrev pub plain_value : Values → Plain → Value
plain_value f (bool b) = values.number (number_of_truth b)
plain_value f (int n) = values.number n
plain_value f (set s) = values.set s
plain_value f (var k) = slice_index_or f k (values.number (pos 0))
plain_value f nested = values.number (pos 0)

abbrev pub argument_value : Values → Argument → ArgumentValue
argument_value f (one p) = values.one (plain_value f p)
argument_value f (array ps) = values.many (map (plain_value f) ps)

-- what a row asks of the variables' values
abbrev pub RowHolds : Values → Row → Type 0
RowHolds f r = Holds (line r.name).meaning (map (argument_value f) r.args)

-- a truth value is 0 or 1, an integer lies in the set, a set is a subset, by its canonical list of ranges
abbrev pub IsInDomain : Domain → Value → Type 0
IsInDomain Truths (values.number n) = (pos 0 ≤ℤ n) × (n ≤ℤ pos 1)
IsInDomain (Integers s) (values.number n) = Has s n
IsInDomain (SetOf s) (values.set t) = AreCanonical t × ((n : ℤ) → Has t n → Has s n)
IsInDomain _ _ = ⊥

-- each variable's value lies in its domain
abbrev pub AreInDomains : List Variable → Values → Type 0
AreInDomains [] [] = Unit {0}
AreInDomains (v ∷ vs) (x ∷ f) = IsInDomain v.domain x × AreInDomains vs f
AreInDomains _ _ = ⊥

pub record FlatSolves (p : Program) (f : Values) : Type 0 where
  pub domains : AreInDomains p.vars f
  pub rows : AllByRecursion (RowHolds f) p.rows
