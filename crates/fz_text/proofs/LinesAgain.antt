-- The lines of a well-formed program are read again.
use Rattle.std.proofs.Common.{◌≡◌, ℕ, ◌<◌, List, [], ◌∷◌, ◌++◌, length, map, Bool, true, false, refl, sym, ap, subst, ◌∙◌, Some, None, append_assoc, codes}
use Rattle.std.specs.Prelude.{◌&&◌, ℤ, pos, int_le, nat_eq, slice_get, Option, decimal}
use Rattle.std.specs.List.{AllByRecursion, list_all}
use Rattle.std.specs.Fmt.{signed_decimal}
use Rattle.std.proofs.lemmas.Bool.{false≢true, and_parts}
use Rattle.mz_base.specs.Words.{is_word}
use Rattle.mz_interval.specs.Ends.{Ends}
use Rattle.mz_value.specs.Ranges.{Range, AreCanonical, AreInLimit, IsInLimit}
use Rattle.fz_items.specs.Bytes.{first_byte, is_digit, is_letter, is_name_byte}
use Rattle.fz_program.specs.declared.row_name.Kind.TheVariants.{Int}
use Rattle.fz_program.specs.declared.program.Domain.{Domain}
use Rattle.fz_program.specs.declared.program.Domain.TheVariants.{Bool as Truths, Ints, SetOf}
use Rattle.fz_program.specs.declared.program.FzGoal.{FzGoal}
use Rattle.fz_program.specs.declared.program.FzGoal.TheVariants.{Satisfy, Minimize, Maximize}
use Rattle.fz_program.specs.declared.row_name.RowName.{RowName}
use Rattle.fz_program.specs.declared.row_name.RowName.TheVariants.{IntEq, IntNe, IntLe, IntLt, IntEqReif, IntNeReif, IntLeReif, IntLtReif, IntLinEq, IntLinNe, IntLinLe, IntLinEqReif, IntLinNeReif, IntLinLeReif, IntTimes, IntDiv, IntMod, IntMin, IntMax, IntAbs, ArrayIntElement, ArrayVarIntElement, ArrayBoolElement, ArrayVarBoolElement, ArraySetElement, ArrayVarSetElement, BoolEq, BoolNot, BoolToInt, BoolXor, BoolEqReif, BoolLeReif, ArrayBoolAnd, ArrayBoolOr, BoolClause, SetIn, SetInReif, SetEq, SetNe, SetSubset, SetEqReif, SetNeReif, SetSubsetReif, SetUnion, SetIntersect, SetDiff, SetSymdiff, SetCard}
use Rattle.fz_program.specs.Names.{Name}
use Rattle.fz_program.specs.Arguments.{Argument}
use Rattle.fz_program.specs.Table.{line}
use Rattle.fz_program.specs.Flat.{Variable, ArrayItem, Row, IsWellFormedVariable, IsWellFormedArray, IsWellFormedRow, IsOfSet, are_arguments, is_definition, is_literal, labels_of, is_goal, is_index, is_index_range}
use Rattle.fz_text_read.specs.Tokens.{behind, range_at}
use Rattle.fz_text_read.specs.Lists.{filled_at, closed_at}
use Rattle.fz_text_read.specs.Arguments.{argument_at, place_at}
use Rattle.fz_text_read.specs.Lines.{array_item_at, array_name_at, defined_at, definition_at, domain_at, from_colon, goal_at, integers_at, is_no_colon, mark_at, marked_at, objective_at, optimum_at, row_at, row_name_at, row_named, satisfy_at, set_of_at, undefined_at, variable_at}
use Rattle.fz_text.specs.Spelling.{argument_list, argument_text, commas, definition, domain_text, element_by, element_of, element_text, goal_line, hull, hull_text, interval, label_at, mark, set}
use Rattle.fz_text.proofs.Prefixes.{all_append, decimal_has_no_colon, drop_prefix, first_is, other_byte, name_again, not_behind, run_is, signed_has_no_colon, word_is}
use Rattle.fz_text.proofs.PartsAgain.{Again, either, filled_again, none_again, pieces, some_again, stop_is_no_digit, stop_is_no_name_byte}
use Rattle.fz_text.proofs.SetsAgain.{is_set_byte, one_in_limit, range_again, set_again, set_first, zero_in_limit}
use Rattle.fz_program.proofs.Sets.{literal_in}
use Rattle.std.specs.Ordering.{int_eq}
use Rattle.std.proofs.lemmas.Bool.Decides.{Decides-int_eq}
use Rattle.fz_text.proofs.ArgumentsAgain.{AreNames, HasTexts, commas_text, each_argument, label_is_identifier, place_at_again, word_of_identifier}
use Rattle.fz_text.proofs.WellFormedTexts.{arguments_have, defined_place, items_are_there, place_is_there}

-- ---- variables

no_b : (b : ℕ) → is_set_byte b ≡ true → nat_eq b 98 ≡ false
no_b b e = other_byte is_set_byte b 98 e refl

no_s : (b : ℕ) → is_set_byte b ≡ true → nat_eq b 115 ≡ false
no_s b e = other_byte is_set_byte b 115 e refl

bool_text : (rest : List ℕ) → domain_at (codes "bool" ++ rest) ≡ Some (Truths, rest)
unfolding domain_at behind
bool_text rest = refl

integers_again : (s : List Range) (rest : List ℕ) → AreCanonical s → AreInLimit s → is_digit (first_byte rest) ≡ false → domain_at (set s ++ rest) ≡ Some (Ints s, rest)
unfolding domain_at integers_at
integers_again s rest c l stop =
    let first = set_first s rest l in
    rw (not_behind 98 (codes "ool") (set s ++ rest) (no_b (first_byte (set s ++ rest)) first)) (rw (not_behind 115 (codes "et of ") (set s ++ rest) (no_s (first_byte (set s ++ rest)) first)) (rw (set_again s rest c l stop) refl))

set_of_text : (bs : List ℕ) → domain_at (codes "set of " ++ bs) ≡ set_of_at bs
unfolding domain_at behind
set_of_text bs = refl

set_of_again : (s : List Range) (rest : List ℕ) → AreCanonical s → AreInLimit s → is_digit (first_byte rest) ≡ false → set_of_at (set s ++ rest) ≡ Some (SetOf s, rest)
unfolding set_of_at
set_of_again s rest c l stop = rw (set_again s rest c l stop) refl

pub domain_again : (d : Domain) (rest : List ℕ) → IsOfSet d → is_digit (first_byte rest) ≡ false → domain_at (domain_text d ++ rest) ≡ Some (d, rest)
unfolding domain_text
domain_again Truths rest h stop = bool_text rest
domain_again (Ints s) rest h stop = integers_again s rest h.0 h.1 stop
domain_again (SetOf s) rest h stop = set_of_text (set s ++ rest) ∙ set_of_again s rest h.0 h.1 stop

-- the marks and the end of the line, with what follows it
abbrev pub marks_text : Bool → Bool → Bool → List ℕ → List ℕ
marks_text output introduced defined rest = mark output (codes "output_var") ++ (mark introduced (codes "var_is_introduced") ++ (mark defined (codes "is_defined_var") ++ (codes ";\n" ++ rest)))

marks_again : (d : Domain) (label : Name) (output introduced defined : Bool) (rest : List ℕ) → marked_at d label (marks_text output introduced defined rest) ≡ Some (record { label = label; domain = d; introduced = introduced; defined = defined; output = output }, rest)
unfolding marked_at mark_at behind
marks_again d label true true true rest = refl
marks_again d label true true false rest = refl
marks_again d label true false true rest = refl
marks_again d label true false false rest = refl
marks_again d label false true true rest = refl
marks_again d label false true false rest = refl
marks_again d label false false true rest = refl
marks_again d label false false false rest = refl

colon : (bs : List ℕ) → behind (codes ": ") (codes ": " ++ bs) ≡ Some bs
unfolding behind
colon bs = refl

-- what follows a variable's name begins with a blank or a semicolon
marks_stop : (output introduced defined : Bool) (rest : List ℕ) → is_name_byte (first_byte (marks_text output introduced defined rest)) ≡ false
marks_stop true i d rest = refl
marks_stop false true d rest = refl
marks_stop false false true rest = refl
marks_stop false false false rest = refl

-- the line after `var `, with what follows it
abbrev pub inside_variable : Variable → List ℕ → List ℕ
inside_variable v rest = domain_text v.domain ++ (codes ": " ++ (v.label ++ marks_text v.output v.introduced v.defined rest))

pub variable_again : (v : Variable) (rest : List ℕ) → IsWellFormedVariable v → variable_at (inside_variable v rest) ≡ Some (v, rest)
unfolding variable_at
variable_again v rest h =
    let marks = marks_text v.output v.introduced v.defined rest in
    let word = word_of_identifier v.label h.label in
    rw (domain_again v.domain (codes ": " ++ (v.label ++ marks)) h.of_set refl)
    (rw (colon (v.label ++ marks)) (rw (name_again v.label marks word (marks_stop v.output v.introduced v.defined rest)) (marks_again v.domain v.label v.output v.introduced v.defined rest)))

-- ---- rows

row_again_name : (r : RowName) → row_named (line r).text ≡ Some r
unfolding row_named line
row_again_name IntEq = refl
row_again_name IntNe = refl
row_again_name IntLe = refl
row_again_name IntLt = refl
row_again_name IntEqReif = refl
row_again_name IntNeReif = refl
row_again_name IntLeReif = refl
row_again_name IntLtReif = refl
row_again_name IntLinEq = refl
row_again_name IntLinNe = refl
row_again_name IntLinLe = refl
row_again_name IntLinEqReif = refl
row_again_name IntLinNeReif = refl
row_again_name IntLinLeReif = refl
row_again_name IntTimes = refl
row_again_name IntDiv = refl
row_again_name IntMod = refl
row_again_name IntMin = refl
row_again_name IntMax = refl
row_again_name IntAbs = refl
row_again_name ArrayIntElement = refl
row_again_name ArrayVarIntElement = refl
row_again_name ArrayBoolElement = refl
row_again_name ArrayVarBoolElement = refl
row_again_name ArraySetElement = refl
row_again_name ArrayVarSetElement = refl
row_again_name BoolEq = refl
row_again_name BoolNot = refl
row_again_name BoolToInt = refl
row_again_name BoolXor = refl
row_again_name BoolEqReif = refl
row_again_name BoolLeReif = refl
row_again_name ArrayBoolAnd = refl
row_again_name ArrayBoolOr = refl
row_again_name BoolClause = refl
row_again_name SetIn = refl
row_again_name SetInReif = refl
row_again_name SetEq = refl
row_again_name SetNe = refl
row_again_name SetSubset = refl
row_again_name SetEqReif = refl
row_again_name SetNeReif = refl
row_again_name SetSubsetReif = refl
row_again_name SetUnion = refl
row_again_name SetIntersect = refl
row_again_name SetDiff = refl
row_again_name SetSymdiff = refl
row_again_name SetCard = refl

row_is_word : (r : RowName) → is_word (line r).text ≡ true
unfolding line
row_is_word IntEq = refl
row_is_word IntNe = refl
row_is_word IntLe = refl
row_is_word IntLt = refl
row_is_word IntEqReif = refl
row_is_word IntNeReif = refl
row_is_word IntLeReif = refl
row_is_word IntLtReif = refl
row_is_word IntLinEq = refl
row_is_word IntLinNe = refl
row_is_word IntLinLe = refl
row_is_word IntLinEqReif = refl
row_is_word IntLinNeReif = refl
row_is_word IntLinLeReif = refl
row_is_word IntTimes = refl
row_is_word IntDiv = refl
row_is_word IntMod = refl
row_is_word IntMin = refl
row_is_word IntMax = refl
row_is_word IntAbs = refl
row_is_word ArrayIntElement = refl
row_is_word ArrayVarIntElement = refl
row_is_word ArrayBoolElement = refl
row_is_word ArrayVarBoolElement = refl
row_is_word ArraySetElement = refl
row_is_word ArrayVarSetElement = refl
row_is_word BoolEq = refl
row_is_word BoolNot = refl
row_is_word BoolToInt = refl
row_is_word BoolXor = refl
row_is_word BoolEqReif = refl
row_is_word BoolLeReif = refl
row_is_word ArrayBoolAnd = refl
row_is_word ArrayBoolOr = refl
row_is_word BoolClause = refl
row_is_word SetIn = refl
row_is_word SetInReif = refl
row_is_word SetEq = refl
row_is_word SetNe = refl
row_is_word SetSubset = refl
row_is_word SetEqReif = refl
row_is_word SetNeReif = refl
row_is_word SetSubsetReif = refl
row_is_word SetUnion = refl
row_is_word SetIntersect = refl
row_is_word SetDiff = refl
row_is_word SetSymdiff = refl
row_is_word SetCard = refl

row_name_again : (r : RowName) (rest : List ℕ) → is_name_byte (first_byte rest) ≡ false → row_name_at ((line r).text ++ rest) ≡ Some (r, rest)
unfolding row_name_at
row_name_again r rest stop = rw (name_again (line r).text rest (row_is_word r) stop) (rw (row_again_name r) refl)

defines : (bs : List ℕ) → behind (codes " :: defines_var(") (codes " :: defines_var(" ++ bs) ≡ Some bs
unfolding behind
defines bs = refl

defined_end : (rest : List ℕ) → behind (codes ");\n") (codes ");\n" ++ rest) ≡ Some rest
unfolding behind
defined_end rest = refl

undefined_again : (names : List Name) (rest : List ℕ) → definition_at names (codes ";\n" ++ rest) ≡ Some (None, rest)
unfolding definition_at undefined_at behind
undefined_again names rest = refl

defined_again : (names : List Name) (k : ℕ) (rest : List ℕ) → AreNames names → k < length names → definition_at names (codes " :: defines_var(" ++ (label_at names k ++ (codes ");\n" ++ rest))) ≡ Some (Some k, rest)
unfolding definition_at defined_at
defined_again names k rest are below =
    rw (defines (label_at names k ++ (codes ");\n" ++ rest))) (rw (place_at_again names k (codes ");\n" ++ rest) are below refl) (rw (defined_end rest) refl))

-- after the arguments, and the end of the line
definition_again : (names : List Name) (d : Option ℕ) (rest : List ℕ) → AreNames names → ((k : ℕ) → d ≡ Some k → k < length names) → definition_at names (definition names d ++ (codes ";\n" ++ rest)) ≡ Some (d, rest)
unfolding definition
definition_again names None rest are there = undefined_again names rest
definition_again names (Some k) rest are there =
    ap (λ t. definition_at names (codes " :: defines_var(" ++ t)) (append_assoc (label_at names k) (codes ")") (codes ";\n" ++ rest)) ∙ defined_again names k rest are (there k refl)

parenthesis : (bs : List ℕ) → behind (codes "(") (codes "(" ++ bs) ≡ Some bs
unfolding behind
parenthesis bs = refl

closing : (rest : List ℕ) → behind (codes ")") (codes ")" ++ rest) ≡ Some rest
unfolding behind
closing rest = refl

takes_some : (vs : List Variable) (r : RowName) → are_arguments vs (line r).kinds [] ≡ true → ⊥
unfolding line are_arguments
takes_some vs IntEq e = false≢true e
takes_some vs IntNe e = false≢true e
takes_some vs IntLe e = false≢true e
takes_some vs IntLt e = false≢true e
takes_some vs IntEqReif e = false≢true e
takes_some vs IntNeReif e = false≢true e
takes_some vs IntLeReif e = false≢true e
takes_some vs IntLtReif e = false≢true e
takes_some vs IntLinEq e = false≢true e
takes_some vs IntLinNe e = false≢true e
takes_some vs IntLinLe e = false≢true e
takes_some vs IntLinEqReif e = false≢true e
takes_some vs IntLinNeReif e = false≢true e
takes_some vs IntLinLeReif e = false≢true e
takes_some vs IntTimes e = false≢true e
takes_some vs IntDiv e = false≢true e
takes_some vs IntMod e = false≢true e
takes_some vs IntMin e = false≢true e
takes_some vs IntMax e = false≢true e
takes_some vs IntAbs e = false≢true e
takes_some vs ArrayIntElement e = false≢true e
takes_some vs ArrayVarIntElement e = false≢true e
takes_some vs ArrayBoolElement e = false≢true e
takes_some vs ArrayVarBoolElement e = false≢true e
takes_some vs ArraySetElement e = false≢true e
takes_some vs ArrayVarSetElement e = false≢true e
takes_some vs BoolEq e = false≢true e
takes_some vs BoolNot e = false≢true e
takes_some vs BoolToInt e = false≢true e
takes_some vs BoolXor e = false≢true e
takes_some vs BoolEqReif e = false≢true e
takes_some vs BoolLeReif e = false≢true e
takes_some vs ArrayBoolAnd e = false≢true e
takes_some vs ArrayBoolOr e = false≢true e
takes_some vs BoolClause e = false≢true e
takes_some vs SetIn e = false≢true e
takes_some vs SetInReif e = false≢true e
takes_some vs SetEq e = false≢true e
takes_some vs SetNe e = false≢true e
takes_some vs SetSubset e = false≢true e
takes_some vs SetEqReif e = false≢true e
takes_some vs SetNeReif e = false≢true e
takes_some vs SetSubsetReif e = false≢true e
takes_some vs SetUnion e = false≢true e
takes_some vs SetIntersect e = false≢true e
takes_some vs SetDiff e = false≢true e
takes_some vs SetSymdiff e = false≢true e
takes_some vs SetCard e = false≢true e

all_again : (names : List Name) (xs : List Argument) (rest : List ℕ) → AreNames names → AllByRecursion (HasTexts names) xs → (xs ≡ [] → ⊥) → filled_at (codes ")") (argument_at names) (argument_list names xs ++ (codes ")" ++ rest)) ≡ Some (xs, rest)
all_again names [] rest are h some = absurd (some refl)
all_again names (x ∷ xs) rest are h some = filled_again (codes ")") (argument_at names) (argument_text names) x xs rest (each_argument names are (x ∷ xs) h) refl (closing rest)

-- the line after `constraint `, with what follows it
abbrev pub inside_row : List Name → Row → List ℕ → List ℕ
inside_row names r rest = (line r.name).text ++ (codes "(" ++ (argument_list names r.args ++ (codes ")" ++ (definition names r.defines ++ (codes ";\n" ++ rest)))))

pub row_again : (vs : List Variable) (r : Row) (rest : List ℕ) → AreNames (labels_of vs) → IsWellFormedRow vs r → row_at (labels_of vs) (inside_row (labels_of vs) r rest) ≡ Some (r, rest)
unfolding row_at
row_again vs r rest are h =
    let names = labels_of vs in
    let texts = arguments_have vs (line r.name).kinds r.args h.args in
    let some : r.args ≡ [] → ⊥ = λ e. takes_some vs r.name (ap (are_arguments vs (line r.name).kinds) (sym e) ∙ h.args) in
    let tail = definition names r.defines ++ (codes ";\n" ++ rest) in
    rw (row_name_again r.name (codes "(" ++ (argument_list names r.args ++ (codes ")" ++ tail))) refl)
    (rw (parenthesis (argument_list names r.args ++ (codes ")" ++ tail)))
    (rw (all_again names r.args tail are texts some)
    (rw (definition_again names r.defines rest are (λ k e. defined_place vs k r.args texts (ap (is_definition r.args) (sym e) ∙ h.defines))) refl)))

-- ---- arrays

mark_is_no_colon : list_all is_no_colon (codes "] of var ") ≡ true
mark_is_no_colon = refl

interval_has_no_colon : (e : Ends) → list_all is_no_colon (interval e) ≡ true
interval_has_no_colon e = all_append is_no_colon (signed_decimal e.0 ++ codes "..") (signed_decimal e.1) (all_append is_no_colon (signed_decimal e.0) (codes "..") (signed_has_no_colon e.0) refl) (signed_has_no_colon e.1)

hull_has_no_colon : (o : Option Ends) → list_all is_no_colon (hull_text o) ≡ true
hull_has_no_colon None = refl
hull_has_no_colon (Some e) = interval_has_no_colon e

kind_has_no_colon : (vs : List Variable) (ks : List ℕ) (d : Domain) → list_all is_no_colon (element_of vs ks d) ≡ true
unfolding element_of
kind_has_no_colon vs ks Truths = refl
kind_has_no_colon vs ks (Ints s) = refl
kind_has_no_colon vs ks (SetOf s) = hull_has_no_colon (hull vs None ks)

by_has_no_colon : (vs : List Variable) (ks : List ℕ) (o : Option Variable) → list_all is_no_colon (element_by vs ks o) ≡ true
by_has_no_colon vs ks None = refl
by_has_no_colon vs ks (Some v) = kind_has_no_colon vs ks v.domain

elements_have_no_colon : (vs : List Variable) (ks : List ℕ) → list_all is_no_colon (element_text vs ks) ≡ true
unfolding element_text
elements_have_no_colon vs [] = refl
elements_have_no_colon vs (k ∷ ks) = by_has_no_colon vs (k ∷ ks) (slice_get vs k)

-- how many elements there are, and what they are
abbrev pub head_of : List Variable → ArrayItem → List ℕ
head_of vs a = decimal (length a.items) ++ (codes "] of var " ++ element_text vs a.items)

head_has_no_colon : (vs : List Variable) (a : ArrayItem) → list_all is_no_colon (head_of vs a) ≡ true
head_has_no_colon vs a = all_append is_no_colon (decimal (length a.items)) (codes "] of var " ++ element_text vs a.items) (decimal_has_no_colon (length a.items)) (all_append is_no_colon (codes "] of var ") (element_text vs a.items) mark_is_no_colon (elements_have_no_colon vs a.items))

from_head : (vs : List Variable) (a : ArrayItem) (bs : List ℕ) → from_colon (head_of vs a ++ (codes ": " ++ bs)) ≡ codes ": " ++ bs
unfolding from_colon
from_head vs a bs = rw (run_is is_no_colon (head_of vs a) (codes ": " ++ bs) (head_has_no_colon vs a) refl) (drop_prefix (head_of vs a) (codes ": " ++ bs))

output_array : (bs : List ℕ) → behind (codes " :: output_array([") (codes " :: output_array([" ++ bs) ≡ Some bs
unfolding behind
output_array bs = refl

index_closes : (bs : List ℕ) → behind (codes "]) = [") (codes "]) = [" ++ bs) ≡ Some bs
unfolding behind
index_closes bs = refl

items_close : (bs : List ℕ) → behind (codes "];\n") (codes "];\n" ++ bs) ≡ Some bs
unfolding behind
items_close bs = refl

same_int : (a b : ℤ) → int_eq a b ≡ true → a ≡ b
same_int a b e = (Decides-int_eq a b).0 e

-- an index range is `1..0`, or its ends lie in the limit
ends_in_limit : (r : Range) → is_index_range r ≡ true → IsInLimit r.0 × IsInLimit r.1
ends_in_limit r e =
    either (int_eq r.0 (pos 1) && int_eq r.1 (pos 0)) (int_le r.0 r.1 && (is_literal r.0 && is_literal r.1))
    (λ h. let parts = and_parts (int_eq r.0 (pos 1)) (int_eq r.1 (pos 0)) h in (subst IsInLimit (sym (same_int r.0 (pos 1) parts.0)) one_in_limit, subst IsInLimit (sym (same_int r.1 (pos 0) parts.1)) zero_in_limit))
    (λ h. let parts = and_parts (is_literal r.0) (is_literal r.1) (and_parts (int_le r.0 r.1) (is_literal r.0 && is_literal r.1) h).1 in (literal_in r.0 parts.0, literal_in r.1 parts.1)) e

each_range : (rs : List Range) → list_all is_index_range rs ≡ true → AllByRecursion (Again range_at interval) rs
each_range [] e = tt
each_range (r ∷ rs) e =
    let parts = and_parts (is_index_range r) (list_all is_index_range rs) e in
    let ends = ends_in_limit r parts.0 in
    (λ rest stop. range_again r rest ends.0 ends.1 (stop_is_no_digit (first_byte rest) stop), each_range rs parts.1)

index_again : (rs : List Range) (rest : List ℕ) → is_index rs ≡ true → filled_at (codes "]) = [") range_at (commas (map interval rs) ++ (codes "]) = [" ++ rest)) ≡ Some (rs, rest)
index_again [] rest e = absurd (false≢true e)
index_again (r ∷ rs) rest e = filled_again (codes "]) = [") range_at interval r rs rest (each_range (r ∷ rs) e) refl (index_closes rest)

each_label : (names : List Name) → AreNames names → (ks : List ℕ) → AllByRecursion (λ k. k < length names) ks → AllByRecursion (Again (place_at names) (label_at names)) ks
each_label names are [] h = tt
each_label names are (k ∷ ks) h = (λ rest stop. place_at_again names k rest are h.0 (stop_is_no_name_byte (first_byte rest) stop), each_label names are ks h.1)

no_end : (b : ℕ) → is_letter b ≡ true → nat_eq b 93 ≡ false
no_end b e = other_byte is_letter b 93 e refl

items_again : (names : List Name) → AreNames names → (ks : List ℕ) → AllByRecursion (λ k. k < length names) ks → (rest : List ℕ) → closed_at (codes "];\n") (place_at names) (commas (map (label_at names) ks) ++ (codes "];\n" ++ rest)) ≡ Some (ks, rest)
unfolding commas
items_again names are [] h rest = none_again (codes "];\n") (place_at names) rest (items_close rest)
items_again names are (k ∷ ks) h rest =
    let tail = codes "];\n" ++ rest in
    let more = pieces (label_at names) ks ++ tail in
    let word = word_of_identifier (label_at names k) (label_is_identifier names k are.identifiers h.0) in
    let other = ap (behind (codes "];\n")) (commas_text (label_at names k) (map (label_at names) ks) tail) ∙ not_behind 93 (codes ";\n") (label_at names k ++ more) (no_end (first_byte (label_at names k ++ more)) (ap is_letter (first_is (label_at names k) more word) ∙ (word_is (label_at names k) word).0)) in
    some_again (codes "];\n") (place_at names) (label_at names) k ks rest other (each_label names are (k ∷ ks) h) refl (items_close rest)

-- the line after `array [1..`, with what follows it
abbrev pub inside_array : List Variable → ArrayItem → List ℕ → List ℕ
inside_array vs a rest = head_of vs a ++ (codes ": " ++ (a.label ++ (codes " :: output_array([" ++ (commas (map interval a.index) ++ (codes "]) = [" ++ (commas (map (label_at (labels_of vs)) a.items) ++ (codes "];\n" ++ rest)))))))

pub array_line_again : (vs : List Variable) (a : ArrayItem) (rest : List ℕ) → AreNames (labels_of vs) → IsWellFormedArray vs a → array_item_at (labels_of vs) (inside_array vs a rest) ≡ Some (a, rest)
unfolding array_item_at array_name_at
array_line_again vs a rest are h =
    let names = labels_of vs in
    let word = word_of_identifier a.label h.label in
    let behind_items = commas (map (label_at names) a.items) ++ (codes "];\n" ++ rest) in
    let behind_sets = commas (map interval a.index) ++ (codes "]) = [" ++ behind_items) in
    let behind_colon = a.label ++ (codes " :: output_array([" ++ behind_sets) in
    rw (from_head vs a behind_colon) (rw (colon behind_colon) (rw (name_again a.label (codes " :: output_array([" ++ behind_sets) word refl) (rw (output_array behind_sets) (rw (index_again a.index behind_items h.index) (rw (items_again names are a.items (items_are_there vs a.items h.alike) rest) refl)))))

-- ---- the solve item

end_of_line : (rest : List ℕ) → behind (codes ";\n") (codes ";\n" ++ rest) ≡ Some rest
unfolding behind
end_of_line rest = refl

objective_again : (names : List Name) (goal : ℕ → FzGoal) (k : ℕ) (rest : List ℕ) → AreNames names → k < length names → objective_at names goal (label_at names k ++ (codes ";\n" ++ rest)) ≡ Some (goal k, rest)
unfolding objective_at
objective_again names goal k rest are below = rw (place_at_again names k (codes ";\n" ++ rest) are below refl) (rw (end_of_line rest) refl)

satisfy_text : (names : List Name) (rest : List ℕ) → goal_at names (codes "solve satisfy;\n" ++ rest) ≡ Some (Satisfy, rest)
unfolding goal_at optimum_at satisfy_at behind
satisfy_text names rest = refl

minimize_text : (names : List Name) (bs : List ℕ) → goal_at names (codes "solve minimize " ++ bs) ≡ objective_at names Minimize bs
unfolding goal_at optimum_at behind
minimize_text names bs = refl

maximize_text : (names : List Name) (bs : List ℕ) → goal_at names (codes "solve maximize " ++ bs) ≡ objective_at names Maximize bs
unfolding goal_at optimum_at behind
maximize_text names bs = refl

pub goal_again : (vs : List Variable) (g : FzGoal) → AreNames (labels_of vs) → is_goal vs g ≡ true → goal_at (labels_of vs) (goal_line (labels_of vs) g) ≡ Some (g, [])
unfolding goal_line
goal_again vs Satisfy are e = satisfy_text (labels_of vs) []
goal_again vs (Minimize k) are e = minimize_text (labels_of vs) (label_at (labels_of vs) k ++ codes ";\n") ∙ objective_again (labels_of vs) Minimize k [] are (place_is_there vs Int k e)
goal_again vs (Maximize k) are e = maximize_text (labels_of vs) (label_at (labels_of vs) k ++ codes ";\n") ∙ objective_again (labels_of vs) Maximize k [] are (place_is_there vs Int k e)
