-- Worked examples of what is printed for a solution.
use Rattle.std.specs.Prelude.{◌≡◌, refl, ℕ, ℤ, pos, negsuc, true, false, List, [], ◌∷◌, Some, None, codes}
use Rattle.std.specs.Fmt.{digits}
use Rattle.mz_base.specs.declared.kind.Kind.TheVariants.{OutputUndefined, AssertFailed}
use Rattle.mz_value.specs.Contents.{Content, contents}
use Rattle.mz_value.specs.Contents as values
use Rattle.mz_value.specs.Shown.{shown, range_elements}
use Rattle.mz_core.specs.Program.{PlainProgram, satisfy}
use Rattle.mz_core.specs.Tree.{Tree}
use Rattle.mz_core.specs.Tree as tree
use Rattle.mz_meaning.specs.Runs.{Answer, Out, Stopped, fault, start}
use Rattle.mz_meaning.specs.Cells.{Bare, Par}
use Rattle.mz_meaning.specs.Domains.{Fixed, Scalar, domain_over, lies_in, all_lie_in}
use Rattle.mz_meaning.specs.Walk.{Declared}
use Rattle.mz_meaning.specs.Written.{col, int, var_int, text, list, decl, plain, within, range, i, b, set, row, fromto, var_number, num, bin, fun, slot, lit, bool, choose}
use Rattle.mz_meaning.specs.RowNumbers as op
use Rattle.mz_meaning.specs.Operations.{is_showable, are_showable}
use Rattle.mz_operations.specs.Views.{as_bool, as_int, as_case, as_set, as_text, as_items, as_index, as_row, as_ordinal, as_element, as_pair, as_option, is_single, enum_of}
use Rattle.mz_operations.specs.Arguments.{at, bool_at, int_at, case_at, ordinal_at, element_at, option_at, set_at, enum_at, text_at, items_at, row_at, index_at, pair}
use Rattle.mz_operations.specs.Numbers.{connected, ordered, computed, signed, folded, raised, toward, nearer, quantified}
use Rattle.mz_operations.specs.Sets.{contains, end_of, up_to, same_set, union, intersection, difference, combined, complement, missing_from}
use Rattle.mz_operations.specs.Arrays.{fold_from, summand, instance, place_count, with_index, shape_from}
use Rattle.mz_operations.specs.Values.{equality, scalar_value, made_value, bounding_value, is_bounded, is_fixable}
use Rattle.mz_operations.specs.Answers.{is_mismatched, negative, is_failed, limited}
use Rattle.mz_operations.specs.Costs.{scalar_counts, made_counts, bounding_counts, counts_from, cost}
use Rattle.mz_operations.specs.Bounds.{bound_of, bounds_of, is_settled, toward_ends, arith_ends, sign_ends, extreme_from, fold_ends, folded_ends, raised_ends, union_from, index_tuples, is_reached, reached, branch_bound, branch_bounds, if_bounds, combined_upper}
use Rattle.mz_operations.specs.RowBounds.{bounds_at, each, ends_at, upper_at, elements_at, all_ends_at, all_uppers_at, uppers_before, scalar_bounds, made_bounds, lower_of, upper_of, value_by_bounds}
use Rattle.mz_operations.specs.Lines.{lines, line_at, place_in, number_of}
use Rattle.mz_meaning.specs.Chains.{innermost_of, innermost_in, back_of, back_in, backed}
use Rattle.mz_meaning.specs.Evaluation.{eval}
use Rattle.mz_meaning.specs.Unbounded.{unbounded_in, in_form, in_maybe, in_trees, in_maybes, in_rows, in_branches, in_steps, in_gens, in_items, first_unbounded}
use Rattle.mz_print.specs.Output.{OutputName, output_names, output_env, variable_slots, assigned, default_line, output_text}

-- without an output item

-- two enums: of the cases A, B and C, and of one case
abbrev enums : List (List (List ℕ))
enums = (codes "A" ∷ codes "B" ∷ codes "C" ∷ []) ∷ (codes "Z" ∷ []) ∷ []

abbrev line : Content → List ℕ
line x = default_line enums (codes "x") (Some x)

abbrev table_of_two : List Content → Content
table_of_two xs = values.array ((pos 1, pos 2) ∷ (pos 0, pos 1) ∷ []) (contents xs)

pub record Lines : Type 0 where
  pub truth : line (b true) ≡ codes "x = true;\n"
  pub number : line (i (negsuc 6)) ≡ codes "x = -7;\n"
  pub case_of_enum : line (values.case 0 (pos 2)) ≡ codes "x = B;\n"
  pub no_occurrence : line values.absent ≡ codes "x = <>;\n"
  pub interval : line (set (fromto (pos 1) (pos 3))) ≡ codes "x = 1..3;\n"
  pub no_numbers : line (set []) ≡ codes "x = {};\n"
  pub apart : line (set ((pos 1, pos 1) ∷ (pos 4, pos 4) ∷ [])) ≡ codes "x = {1, 4};\n"
  pub cases : line (values.set (Some 0) (fromto (pos 1) (pos 3))) ≡ codes "x = {A, B, C};\n"
  pub one_dimension : line (row (pos 1) (pos 2) (i (pos 5) ∷ i (pos 6) ∷ [])) ≡ codes "x = array1d(1..2, [5, 6]);\n"
  pub two_dimensions : line (table_of_two (b true ∷ b false ∷ b false ∷ b true ∷ [])) ≡ codes "x = array2d(1..2, 0..1, [true, false, false, true]);\n"
  pub options : line (row (pos 1) (pos 2) (values.absent ∷ i (pos 6) ∷ [])) ≡ codes "x = array1d(1..2, [<>, 6]);\n"
  pub empty : line (row (pos 1) (pos 0) []) ≡ codes "x = array1d({}, []);\n"

default_lines : Lines
unfolding shown range_elements digits
default_lines = record { truth = refl; number = refl; case_of_enum = refl; no_occurrence = refl; interval = refl; no_numbers = refl; apart = refl; cases = refl; one_dimension = refl; two_dimensions = refl; options = refl; empty = refl }

-- with output items

abbrev table : List (List ℕ)
table = codes "first" ∷ codes "second" ∷ codes "n" ∷ []

-- var 1..3: first; var 1..3: second; int: n = 2; and these output items
abbrev model : List Tree → PlainProgram
model outputs = record {
  cases = [];
  texts = (7, codes "first is ") ∷ (8, codes ", ") ∷ (9, codes "low") ∷ (10, codes "high") ∷ [];
  decls = decl 9 0 (within var_int (range 5 (pos 1) (pos 3))) None ∷ decl 22 1 (within var_int (range 18 (pos 1) (pos 3))) None ∷ decl 30 2 (plain int) (Some (num 34 (pos 2))) ∷ [];
  order = 0 ∷ 1 ∷ 2 ∷ [];
  functions = [];
  constraints = [];
  goal = satisfy;
  outputs = outputs;
}

abbrev variable : ℕ → Declared
variable k = record { slot = k; domains = Scalar (domain_over var_int (fromto (pos 1) (pos 3))); cell = var_number (pos 1) (pos 3) None; value = None }

abbrev names : List OutputName
names = output_names (variable 0 ∷ variable 1 ∷ record { slot = 2; domains = Fixed; cell = Par (Some (i (pos 2))); value = Some (Par (Some (i (pos 2)))) } ∷ [])

-- first = 1, second = 3
abbrev solution : List Content
solution = i (pos 1) ∷ i (pos 3) ∷ []

-- the text of the fourth block
abbrev prints : List Tree → Answer (List ℕ)
prints outputs = output_text table (record { budget = 100; int_range = pos 9 }) Bare (model outputs) names (assigned (variable_slots names) solution) 4 start

abbrev first : ℕ → Tree
first at = slot at int 0

abbrev show : ℕ → Tree → Tree
show at e = fun at text 86 (e ∷ [])

abbrev item : ℕ → List Tree → Tree
item at es = list at text es

abbrev words_of : ℕ → ℕ → Tree
words_of n at = tree.node (col at) text (tree.text n)

-- show_int(width, e)
abbrev padded_to : ℕ → ℤ → Tree → Tree
padded_to at width e = fun at text (number_of (codes "show_int") 0) (num at width ∷ e ∷ [])

-- join(between, [..])
abbrev joined_by : ℕ → Tree → List Tree → Tree
joined_by at between es = fun at text (number_of (codes "join") 0) (between ∷ list at text es ∷ [])

-- assert(condition, message, e)
abbrev asserted : ℕ → Tree → Tree → Tree → Tree
asserted at c message e = fun at text (number_of (codes "assert") 1) (c ∷ message ∷ e ∷ [])

-- 1 div (first - 1)
abbrev undefined_there : ℕ → Tree
undefined_there at = bin at int (num at (pos 1)) op.quotient (bin at int (first at) op.minus (num at (pos 1)))

pub record Texts : Type 0 where
  -- the variables alone, in source order
  pub by_default : prints [] ≡ Out (codes "first = 1;\nsecond = 3;\n") start
  -- the array, the text, the call and its row, and the name
  pub elements : prints (item 50 (words_of 7 51 ∷ show 60 (first 65) ∷ []) ∷ []) ≡ Out (codes "first is 1") (record { work = 5; taken = []; weight = 0 })
  -- the items have one work
  pub items : prints (item 50 (show 51 (first 56) ∷ []) ∷ item 70 (show 71 (slot 76 int 1) ∷ []) ∷ []) ≡ Out (codes "13") (record { work = 8; taken = []; weight = 0 })
  -- an undefined element: the item's place, and the block's number
  pub undefined_item : prints (item 50 (words_of 7 51 ∷ show 60 (undefined_there 65) ∷ []) ∷ []) ≡ Stopped (fault OutputUndefined (col 50) (pos 4))
  -- of two, the first
  pub first_undefined : prints (item 50 (show 51 (undefined_there 56) ∷ []) ∷ item 70 (show 71 (undefined_there 76) ∷ []) ∷ []) ≡ Stopped (fault OutputUndefined (col 50) (pos 4))
  pub no_elements : prints (item 50 [] ∷ []) ≡ Out [] (record { work = 1; taken = []; weight = 0 })
  -- to three columns, and to three on the right
  pub padded : prints (item 50 (padded_to 51 (pos 3) (first 60) ∷ padded_to 62 (negsuc 2) (slot 70 int 1) ∷ []) ∷ []) ≡ Out (codes "  13  ") (record { work = 9; taken = []; weight = 0 })
  pub joined : prints (item 50 (joined_by 51 (words_of 8 56) (show 62 (first 67) ∷ show 70 (slot 75 int 1) ∷ []) ∷ []) ∷ []) ≡ Out (codes "1, 3") (record { work = 13; taken = []; weight = 0 })
  -- the branch that is taken alone has work
  pub conditional : prints (item 50 (choose 51 text (bin 54 bool (first 54) op.less (slot 62 int 1)) (words_of 9 70) (Some (show 80 (undefined_there 85))) ∷ []) ∷ []) ≡ Out (codes "low") (record { work = 7; taken = []; weight = 0 })
  -- the second item's fault comes before the first one's undefined element
  pub fault_first : prints (item 50 (show 51 (undefined_there 56) ∷ []) ∷ item 70 (asserted 71 (lit 78 false) (words_of 10 85) (show 92 (first 97)) ∷ []) ∷ []) ≡ Stopped (fault AssertFailed (col 71) (pos 0))

texts : Texts
unfolding eval lines line_at place_in innermost_of innermost_in back_of back_in backed scalar_value made_value bounding_value equality is_bounded is_fixable as_bool as_int as_case as_set as_text as_items as_index as_row as_ordinal as_element as_pair as_option is_single enum_of at bool_at int_at case_at ordinal_at element_at option_at set_at enum_at text_at items_at row_at index_at pair connected ordered computed signed folded raised toward nearer quantified contains end_of up_to same_set fold_from summand instance place_count with_index shape_from is_mismatched negative is_failed limited scalar_counts made_counts bounding_counts counts_from cost bound_of bounds_of is_settled toward_ends arith_ends sign_ends extreme_from fold_ends folded_ends raised_ends index_tuples is_reached reached branch_bound branch_bounds if_bounds combined_upper bounds_at each ends_at upper_at elements_at all_ends_at all_uppers_at uppers_before scalar_bounds made_bounds lower_of upper_of value_by_bounds range_elements union intersection difference combined union_from complement missing_from first_unbounded unbounded_in in_form in_maybe in_trees in_maybes in_rows in_branches in_steps in_gens in_items lies_in all_lie_in is_showable are_showable output_env assigned output_text shown digits
texts = record { by_default = refl; elements = refl; items = refl; undefined_item = refl; first_undefined = refl; no_elements = refl; padded = refl; joined = refl; conditional = refl; fault_first = refl }
