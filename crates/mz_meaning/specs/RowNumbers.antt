-- The rows' numbers under the names that the worked examples have for them, each by the name of its line and which of the lines with that name it is.
use Rattle.std.specs.Prelude.{ℕ, codes}
use Rattle.mz_operations.specs.Lines.{number_of}

abbrev pub iff : ℕ
iff = number_of (codes "<->") 0

abbrev pub implies : ℕ
implies = number_of (codes "->") 0

-- `<-`
abbrev pub implied_by : ℕ
implied_by = number_of (codes "<-") 0

-- `\/`
abbrev pub either : ℕ
either = number_of (codes "\\/") 0

abbrev pub xor : ℕ
xor = number_of (codes "xor") 0

-- `/\`
abbrev pub both : ℕ
both = number_of (codes "/\\") 0

-- `not`
abbrev pub negation : ℕ
negation = number_of (codes "not") 0

abbrev pub equal : ℕ
equal = number_of (codes "=") 0

abbrev pub unequal : ℕ
unequal = number_of (codes "!=") 0

abbrev pub less : ℕ
less = number_of (codes "<") 0

abbrev pub at_most : ℕ
at_most = number_of (codes "<=") 0

abbrev pub greater : ℕ
greater = number_of (codes ">") 0

abbrev pub at_least : ℕ
at_least = number_of (codes ">=") 0

-- `in`
abbrev pub member : ℕ
member = number_of (codes "in") 0

abbrev pub union : ℕ
union = number_of (codes "union") 0

-- `..`
abbrev pub up_to : ℕ
up_to = number_of (codes "..") 0

abbrev pub card : ℕ
card = number_of (codes "card") 0

abbrev pub plus : ℕ
plus = number_of (codes "+") 0

abbrev pub minus : ℕ
minus = number_of (codes "-") 0

abbrev pub times : ℕ
times = number_of (codes "*") 0

abbrev pub quotient : ℕ
quotient = number_of (codes "div") 0

abbrev pub modulo : ℕ
modulo = number_of (codes "mod") 0

abbrev pub power : ℕ
power = number_of (codes "^") 0

abbrev pub abs : ℕ
abs = number_of (codes "abs") 0

abbrev pub least_of_set : ℕ
least_of_set = number_of (codes "min") 1

abbrev pub least_of_array : ℕ
least_of_array = number_of (codes "min") 2

abbrev pub greatest_of_set : ℕ
greatest_of_set = number_of (codes "max") 1

abbrev pub sum : ℕ
sum = number_of (codes "sum") 0

abbrev pub sum_of_options : ℕ
sum_of_options = number_of (codes "sum") 1

abbrev pub product : ℕ
product = number_of (codes "product") 0

abbrev pub forall : ℕ
forall = number_of (codes "forall") 0

abbrev pub forall_options : ℕ
forall_options = number_of (codes "forall") 1

abbrev pub exists : ℕ
exists = number_of (codes "exists") 0

abbrev pub exists_options : ℕ
exists_options = number_of (codes "exists") 1

abbrev pub xorall : ℕ
xorall = number_of (codes "xorall") 0

abbrev pub clause : ℕ
clause = number_of (codes "clause") 0

abbrev pub count : ℕ
count = number_of (codes "count") 0

abbrev pub count_options : ℕ
count_options = number_of (codes "count") 1

abbrev pub bool2int : ℕ
bool2int = number_of (codes "bool2int") 0

-- `++` of arrays
abbrev pub append : ℕ
append = number_of (codes "++") 0

abbrev pub length : ℕ
length = number_of (codes "length") 0

abbrev pub index_set : ℕ
index_set = number_of (codes "index_set") 0

abbrev pub index_set_1of2 : ℕ
index_set_1of2 = number_of (codes "index_set_1of2") 0

-- `array1d` of an array alone
abbrev pub as_list : ℕ
as_list = number_of (codes "array1d") 0

abbrev pub array1d : ℕ
array1d = number_of (codes "array1d") 1

abbrev pub array2d : ℕ
array2d = number_of (codes "array2d") 0

abbrev pub lb : ℕ
lb = number_of (codes "lb") 0

abbrev pub lb_set : ℕ
lb_set = number_of (codes "lb") 1

abbrev pub ub : ℕ
ub = number_of (codes "ub") 0

abbrev pub ub_set : ℕ
ub_set = number_of (codes "ub") 1

abbrev pub is_fixed : ℕ
is_fixed = number_of (codes "is_fixed") 0

abbrev pub fix : ℕ
fix = number_of (codes "fix") 0

abbrev pub occurs : ℕ
occurs = number_of (codes "occurs") 0

abbrev pub deopt : ℕ
deopt = number_of (codes "deopt") 0

abbrev pub enum_next : ℕ
enum_next = number_of (codes "enum_next") 0

abbrev pub assert : ℕ
assert = number_of (codes "assert") 0

abbrev pub assert_value : ℕ
assert_value = number_of (codes "assert") 1
