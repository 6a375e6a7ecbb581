-- Worked examples of symbols, lines and choices.
use Rattle.std.specs.Prelude.{◌≡◌, refl, ℕ, zero, suc, ℤ, pos, List, [], ◌∷◌, true, false, Some, None}
use Rattle.mz_value.specs.Contents as values
use Rattle.mz_core.specs.declared.types.Base.TheVariants as base
use Rattle.mz_arena.specs.Entries.{at}
use Rattle.mz_arena.specs.Values.{Term, Values, number, set, numbers, cons_term}
use Rattle.mz_meaning.specs.Domains.{Domain}
use Rattle.mz_symbol.specs.declared.types.Symbol.{Symbol}
use Rattle.mz_instance.specs.Parts.{occurrence, Whole, Subset}
use Rattle.mz_symbol.specs.Choices.{all_parts, cell_content}
use Rattle.mz_symbol.specs.Symbols.{symbol_value, elements_value, list_term, occurs_list}

-- the terms of the ids 0, 1, 2, ..
abbrev terms_of : List Term → ℕ → Term
terms_of xs = λ id. at xs id

-- id 0 is 1, id 1 is 0, id 2 is undefined, id 3 is 7, id 4 is {2..5}
abbrev five : ℕ → Term
five = terms_of (Some (number (pos 1)) ∷ Some (number (pos 0)) ∷ None ∷ Some (number (pos 7)) ∷ Some (set ((pos 2, pos 5) ∷ [])) ∷ [])

abbrev whole : ℕ → Symbol
whole id = record { base = base.Int; occurs = None; term = id }

abbrev option : ℕ → ℕ → Symbol
option o id = record { base = base.Int; occurs = Some o; term = id }

abbrev maybe_whole : Domain
maybe_whole = record { base = base.Int; opt = true; set = (pos 3, pos 4) ∷ [] }

abbrev some_set : Domain
some_set = record { base = base.SetEnum 2; opt = false; set = (pos 1, pos 3) ∷ [] }

-- the parts have the numbers 1, 4, 9, 9, .. and the set {1, 2}
abbrev drawn_number : ℕ → ℤ
drawn_number zero = pos 1
drawn_number (suc zero) = pos 4
drawn_number (suc (suc k)) = pos 9

abbrev drawn : Values
drawn = record { number = drawn_number; set = λ k. (pos 1, pos 2) ∷ [] }

record Worked : Type 0 where
  truth : symbol_value five (record { base = base.Bool; occurs = None; term = 0 }) ≡ Some (values.bool true)
  case : symbol_value five (record { base = base.Enum 4; occurs = None; term = 0 }) ≡ Some (values.case 4 (pos 1))
  number_of_one : symbol_value five (whole 3) ≡ Some (values.int (pos 7))
  undefined : symbol_value five (whole 2) ≡ None
  set_of_cases : symbol_value five (record { base = base.SetEnum 1; occurs = None; term = 4 }) ≡ Some (values.set (Some 1) ((pos 2, pos 5) ∷ []))
  wrong_sort : symbol_value five (whole 4) ≡ None
  there : symbol_value five (option 0 3) ≡ Some (values.int (pos 7))
  absent : symbol_value five (option 1 3) ≡ Some values.absent
  -- an option that is undefined occurs
  undefined_option : symbol_value five (option 0 2) ≡ None
  absent_of_undefined : symbol_value five (option 1 2) ≡ Some values.absent
  undefined_occurrence : symbol_value five (option 2 3) ≡ Some values.absent
  elements : elements_value five 0 (whole 3 ∷ option 1 2 ∷ []) ≡ Some (values.int (pos 7) ∷ values.absent ∷ [])
  undefined_element : elements_value five 0 (whole 3 ∷ whole 2 ∷ []) ≡ None
  undefined_array : elements_value five 1 (whole 3 ∷ []) ≡ None
  parts : all_parts (maybe_whole ∷ some_set ∷ []) ≡ occurrence ∷ record { sort = Whole; set = (pos 3, pos 4) ∷ [] } ∷ record { sort = Subset; set = (pos 1, pos 3) ∷ [] } ∷ []
  option_drawn : cell_content maybe_whole 0 drawn ≡ values.int (pos 4)
  option_not_drawn : cell_content maybe_whole 1 drawn ≡ values.absent
  set_drawn : cell_content some_set 2 drawn ≡ values.set (Some 2) ((pos 1, pos 2) ∷ [])

worked : Worked
worked = record {
  truth = refl;
  case = refl;
  number_of_one = refl;
  undefined = refl;
  set_of_cases = refl;
  wrong_sort = refl;
  there = refl;
  absent = refl;
  undefined_option = refl;
  absent_of_undefined = refl;
  undefined_occurrence = refl;
  elements = refl;
  undefined_element = refl;
  undefined_array = refl;
  parts = refl;
  option_drawn = refl;
  option_not_drawn = refl;
  set_drawn = refl;
}

record Lists : Type 0 where
  terms : list_term five (3 ∷ 0 ∷ []) ≡ Some (numbers (pos 7 ∷ pos 1 ∷ []))
  undefined : list_term five (3 ∷ 2 ∷ []) ≡ None
  occurrences : occurs_list five (whole 3 ∷ option 1 3 ∷ []) ≡ Some (numbers (pos 1 ∷ pos 0 ∷ []))

lists : Lists
unfolding list_term occurs_list cons_term
lists = record { terms = refl; undefined = refl; occurrences = refl }
