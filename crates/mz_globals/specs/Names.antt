-- The list of the language's globals: a line for each name and number of arguments, in the order of the table of built-ins.
use Rattle.std.specs.Prelude.{◌≡◌, refl, ℕ, List, [], ◌∷◌, length, codes, Bool, true, false, ◌&&◌, nat_eq, Option, Some, None, slice_get, if◌then◌else◌}
use Rattle.std.specs.Option.{option_map}
use Rattle.std.specs.Cmp.Lexicographic.{pointwise}
use Rattle.mz_operations.specs.declared.row.Comparison.TheVariants.{Less, AtMost, Greater, AtLeast}
use Rattle.mz_operations.specs.declared.row.Side.TheVariants.{Least, Greatest}
use Rattle.mz_globals.specs.declared.names.NamedGlobal.{NamedGlobal}
use Rattle.mz_globals.specs.declared.global.Global.{Global}
use Rattle.mz_globals.specs.declared.global.Global.TheVariants.{AllDifferent, DifferentButZero, AllEqual, Ordered, Lex, Sort, Precede, Extreme, Member, CountOf, Count, Times, Among, DifferentValues, Cardinality, SlidingSum, Channel, Link, Disjoint, Partition, Cumulative, Disjunctive, DisjunctiveStrict, Diffn, Packing, PackingLoad, Element, Table, Regular, Inverse, Circuit}
use Rattle.mz_globals.specs.declared.global.Relation.TheVariants as relation

pub record PlainNamed : Type 0 where
  pub name : List ℕ
  pub arguments : ℕ
  pub global : Global

-- what the code's line stands for
abbrev pub plain_named : NamedGlobal → PlainNamed
plain_named n = record { name = n.name.now; arguments = n.arguments; global = n.global }

abbrev named : List ℕ → ℕ → Global → PlainNamed
named name arguments global = record { name = name; arguments = arguments; global = global }

unfoldable pub globals : List PlainNamed
globals =
    named (codes "all_different") 1 AllDifferent
    ∷ named (codes "alldifferent") 1 AllDifferent
    ∷ named (codes "alldifferent_except_0") 1 DifferentButZero
    ∷ named (codes "all_equal") 1 AllEqual
    ∷ named (codes "increasing") 1 (Ordered AtMost)
    ∷ named (codes "decreasing") 1 (Ordered AtLeast)
    ∷ named (codes "strictly_increasing") 1 (Ordered Less)
    ∷ named (codes "strictly_decreasing") 1 (Ordered Greater)
    ∷ named (codes "lex_less") 2 (Lex false)
    ∷ named (codes "lex_lesseq") 2 (Lex true)
    ∷ named (codes "sort") 2 Sort
    ∷ named (codes "value_precede") 3 Precede
    ∷ named (codes "maximum") 2 (Extreme Greatest)
    ∷ named (codes "minimum") 2 (Extreme Least)
    ∷ named (codes "member") 2 Member
    -- counting
    ∷ named (codes "count") 2 CountOf
    ∷ named (codes "count") 3 Count
    ∷ named (codes "at_least") 3 (Times relation.AtLeast)
    ∷ named (codes "at_most") 3 (Times relation.AtMost)
    ∷ named (codes "exactly") 3 (Times relation.Exactly)
    ∷ named (codes "among") 3 Among
    ∷ named (codes "nvalue") 2 DifferentValues
    ∷ named (codes "global_cardinality") 3 Cardinality
    ∷ named (codes "sliding_sum") 4 SlidingSum
    ∷ named (codes "int_set_channel") 2 Channel
    ∷ named (codes "link_set_to_booleans") 2 Link
    ∷ named (codes "all_disjoint") 1 Disjoint
    ∷ named (codes "partition_set") 2 Partition
    -- scheduling
    ∷ named (codes "cumulative") 4 Cumulative
    ∷ named (codes "disjunctive") 2 Disjunctive
    ∷ named (codes "disjunctive_strict") 2 DisjunctiveStrict
    ∷ named (codes "diffn") 4 Diffn
    ∷ named (codes "bin_packing") 3 Packing
    ∷ named (codes "bin_packing_load") 3 PackingLoad
    -- tables, automata, graphs
    ∷ named (codes "element") 3 Element
    ∷ named (codes "table") 2 Table
    ∷ named (codes "regular") 6 Regular
    ∷ named (codes "inverse") 2 Inverse
    ∷ named (codes "circuit") 1 Circuit
    ∷ []

unfoldable pub named_at : ℕ → Option PlainNamed
named_at place = slice_get globals place

-- none behind the last
abbrev pub global_at : ℕ → Option Global
global_at place = option_map (λ n. n.global) (named_at place)

-- ---- by name

abbrev is_named : List ℕ → ℕ → PlainNamed → Bool
is_named name arguments n = pointwise nat_eq n.name name && nat_eq n.arguments arguments

unfoldable named_in : List PlainNamed → List ℕ → ℕ → Option Global
named_in [] name arguments = None
named_in (n ∷ ns) name arguments = if is_named name arguments n then Some n.global else named_in ns name arguments

-- the global of a name with this many arguments
abbrev global_of : List ℕ → ℕ → Option Global
global_of name arguments = named_in globals name arguments

-- ---- worked examples

record Named : Type 0 where
  as_many_as_there_are : length globals ≡ 39
  none_behind_the_last : global_at 39 ≡ None
  all_different : global_of (codes "all_different") 1 ≡ Some AllDifferent
  alldifferent : global_of (codes "alldifferent") 1 ≡ Some AllDifferent
  alldifferent_except_0 : global_of (codes "alldifferent_except_0") 1 ≡ Some DifferentButZero
  all_equal : global_of (codes "all_equal") 1 ≡ Some AllEqual
  increasing : global_of (codes "increasing") 1 ≡ Some (Ordered AtMost)
  decreasing : global_of (codes "decreasing") 1 ≡ Some (Ordered AtLeast)
  strictly_increasing : global_of (codes "strictly_increasing") 1 ≡ Some (Ordered Less)
  strictly_decreasing : global_of (codes "strictly_decreasing") 1 ≡ Some (Ordered Greater)
  lex_less : global_of (codes "lex_less") 2 ≡ Some (Lex false)
  lex_lesseq : global_of (codes "lex_lesseq") 2 ≡ Some (Lex true)
  sort : global_of (codes "sort") 2 ≡ Some Sort
  value_precede : global_of (codes "value_precede") 3 ≡ Some Precede
  maximum : global_of (codes "maximum") 2 ≡ Some (Extreme Greatest)
  minimum : global_of (codes "minimum") 2 ≡ Some (Extreme Least)
  member : global_of (codes "member") 2 ≡ Some Member
  count_of_two : global_of (codes "count") 2 ≡ Some CountOf
  count_of_three : global_of (codes "count") 3 ≡ Some Count
  at_least : global_of (codes "at_least") 3 ≡ Some (Times relation.AtLeast)
  at_most : global_of (codes "at_most") 3 ≡ Some (Times relation.AtMost)
  exactly : global_of (codes "exactly") 3 ≡ Some (Times relation.Exactly)
  among : global_of (codes "among") 3 ≡ Some Among
  nvalue : global_of (codes "nvalue") 2 ≡ Some DifferentValues
  global_cardinality : global_of (codes "global_cardinality") 3 ≡ Some Cardinality
  sliding_sum : global_of (codes "sliding_sum") 4 ≡ Some SlidingSum
  int_set_channel : global_of (codes "int_set_channel") 2 ≡ Some Channel
  link_set_to_booleans : global_of (codes "link_set_to_booleans") 2 ≡ Some Link
  all_disjoint : global_of (codes "all_disjoint") 1 ≡ Some Disjoint
  partition_set : global_of (codes "partition_set") 2 ≡ Some Partition
  cumulative : global_of (codes "cumulative") 4 ≡ Some Cumulative
  disjunctive : global_of (codes "disjunctive") 2 ≡ Some Disjunctive
  disjunctive_strict : global_of (codes "disjunctive_strict") 2 ≡ Some DisjunctiveStrict
  diffn : global_of (codes "diffn") 4 ≡ Some Diffn
  bin_packing : global_of (codes "bin_packing") 3 ≡ Some Packing
  bin_packing_load : global_of (codes "bin_packing_load") 3 ≡ Some PackingLoad
  element : global_of (codes "element") 3 ≡ Some Element
  table : global_of (codes "table") 2 ≡ Some Table
  regular : global_of (codes "regular") 6 ≡ Some Regular
  inverse : global_of (codes "inverse") 2 ≡ Some Inverse
  circuit : global_of (codes "circuit") 1 ≡ Some Circuit

each_is_named : Named
unfolding globals named_at named_in
each_is_named = record { as_many_as_there_are = refl; none_behind_the_last = refl; all_different = refl; alldifferent = refl; alldifferent_except_0 = refl; all_equal = refl; increasing = refl; decreasing = refl; strictly_increasing = refl; strictly_decreasing = refl; lex_less = refl; lex_lesseq = refl; sort = refl; value_precede = refl; maximum = refl; minimum = refl; member = refl; count_of_two = refl; count_of_three = refl; at_least = refl; at_most = refl; exactly = refl; among = refl; nvalue = refl; global_cardinality = refl; sliding_sum = refl; int_set_channel = refl; link_set_to_booleans = refl; all_disjoint = refl; partition_set = refl; cumulative = refl; disjunctive = refl; disjunctive_strict = refl; diffn = refl; bin_packing = refl; bin_packing_load = refl; element = refl; table = refl; regular = refl; inverse = refl; circuit = refl }
