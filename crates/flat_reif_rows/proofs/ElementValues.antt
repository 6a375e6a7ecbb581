-- An access to the values of arguments is what its row gives.
use Rattle.std.proofs.Common.{◌≡◌, ℤ, pos, negsuc, zero, suc, List, [], ◌∷◌, map, Option, Some, None, option_map, refl, sym, ap, ap₂, ◌∙◌}
use Rattle.mz_value.specs.Ranges.{Range}
use Rattle.mz_arena.specs.Values as terms
use Rattle.mz_arena.specs.Values.{Val, Term, cons_term, access_term, before, value_at}
use Rattle.fz_program.specs.declared.row_name.RowName.TheVariants as rows
use Rattle.fz_program.specs.Arguments.{Plain, one}
use Rattle.fz_program.specs.Values as values
use Rattle.fz_program.specs.Values.{Value, Values, number_in, set_in}
use Rattle.fz_program.specs.Table.{line}
use Rattle.fz_program.specs.Flat.{plain_value, argument_value}
use Rattle.fz_build.specs.Inputs.{is_sum}
use Rattle.fz_build.specs.Results.{result_given}
use Rattle.flat_reif_rows.specs.Standing.{seen, seen_maybe}
use Rattle.flat_reif_rows.specs.Elements.{list_term, access_over, element_inputs}

-- ---- lists

abbrev pub numbers_value : List ℤ → Val
numbers_value [] = terms.empty
numbers_value (n ∷ ns) = terms.numbers (n ∷ ns)

abbrev sets_value : List (List Range) → Val
sets_value [] = terms.empty
sets_value (s ∷ ss) = terms.sets (s ∷ ss)

cons_number : (n : ℤ) (ns : List ℤ) → cons_term (Some (terms.number n)) (Some (numbers_value ns)) ≡ Some (terms.numbers (n ∷ ns))
unfolding cons_term
cons_number n [] = refl
cons_number n (m ∷ ns) = refl

cons_set : (s : List Range) (ss : List (List Range)) → cons_term (Some (terms.set s)) (Some (sets_value ss)) ≡ Some (terms.sets (s ∷ ss))
unfolding cons_term
cons_set s [] = refl
cons_set s (t ∷ ss) = refl

-- each argument is a number, or each a set
abbrev pub AreNumbers : Values → List Plain → Type 0
AreNumbers f [] = Unit {0}
AreNumbers f (p ∷ ps) = (plain_value f p ≡ values.number (number_in (plain_value f p))) × AreNumbers f ps

abbrev pub AreSetValues : Values → List Plain → Type 0
AreSetValues f [] = Unit {0}
AreSetValues f (p ∷ ps) = (plain_value f p ≡ values.set (set_in (plain_value f p))) × AreSetValues f ps

abbrev pub Numbers : Values → List Plain → List ℤ
Numbers f ps = map number_in (map (plain_value f) ps)

abbrev Sets : Values → List Plain → List (List Range)
Sets f ps = map set_in (map (plain_value f) ps)

pub number_list : (f : Values) (ps : List Plain) → AreNumbers f ps → list_term f ps ≡ Some (numbers_value (Numbers f ps))
number_list f [] h = refl
number_list f (p ∷ ps) h = ap₂ (λ x y. cons_term (Some (seen x)) y) h.0 (number_list f ps h.1) ∙ cons_number (number_in (plain_value f p)) (Numbers f ps)

set_list : (f : Values) (ps : List Plain) → AreSetValues f ps → list_term f ps ≡ Some (sets_value (Sets f ps))
set_list f [] h = refl
set_list f (p ∷ ps) h = ap₂ (λ x y. cons_term (Some (seen x)) y) h.0 (set_list f ps h.1) ∙ cons_set (set_in (plain_value f p)) (Sets f ps)

-- ---- the element at a place

number_at : (ns : List ℤ) (j : ℤ) → access_term (Some (terms.number j)) (Some (numbers_value ns)) ≡ seen_maybe (option_map values.number (values.element_at ns j))
unfolding access_term
number_at [] (pos zero) = refl
number_at [] (pos (suc k)) = refl
number_at [] (negsuc k) = refl
number_at (n ∷ ns) (pos zero) = refl
number_at (n ∷ ns) (pos (suc k)) = turned (terms.element_at (n ∷ ns) (pos (suc k)))
  where
    turned : (o : Option ℤ) → option_map terms.number o ≡ seen_maybe (option_map values.number o)
    turned None = refl
    turned (Some m) = refl
number_at (n ∷ ns) (negsuc k) = refl

set_at : (ss : List (List Range)) (j : ℤ) → access_term (Some (terms.number j)) (Some (sets_value ss)) ≡ seen_maybe (option_map values.set (values.element_at ss j))
unfolding access_term
set_at [] (pos zero) = refl
set_at [] (pos (suc k)) = refl
set_at [] (negsuc k) = refl
set_at (s ∷ ss) (pos zero) = refl
set_at (s ∷ ss) (pos (suc k)) = turned (terms.element_at (s ∷ ss) (pos (suc k)))
  where
    turned : (o : Option (List Range)) → option_map terms.set o ≡ seen_maybe (option_map values.set o)
    turned None = refl
    turned (Some m) = refl
set_at (s ∷ ss) (negsuc k) = refl

module _ (v : terms.Values) (f : Values) (i : Plain) (ps : List Plain) (j : ℤ) (index : plain_value f i ≡ values.number j) where
  access_numbers : AreNumbers f ps → access_over v i ps f ≡ seen_maybe (option_map values.number (values.element_at (Numbers f ps) j))
  access_numbers h = ap₂ (λ x y. access_term (Some (seen x)) y) index (number_list f ps h) ∙ number_at (Numbers f ps) j

  access_sets : AreSetValues f ps → access_over v i ps f ≡ seen_maybe (option_map values.set (values.element_at (Sets f ps) j))
  access_sets h = ap₂ (λ x y. access_term (Some (seen x)) y) index (set_list f ps h) ∙ set_at (Sets f ps) j

  given_integer : result_given rows.ArrayVarIntElement (map (argument_value f) (element_inputs (one i) ps)) ≡ option_map values.number (values.element_at (Numbers f ps) j)
  unfolding line is_sum
  given_integer = ap (λ x. option_map values.number (values.element_at (Numbers f ps) (number_in x))) index

  given_truth : result_given rows.ArrayVarBoolElement (map (argument_value f) (element_inputs (one i) ps)) ≡ option_map values.number (values.element_at (Numbers f ps) j)
  unfolding line is_sum
  given_truth = ap (λ x. option_map values.number (values.element_at (Numbers f ps) (number_in x))) index

  given_set : result_given rows.ArrayVarSetElement (map (argument_value f) (element_inputs (one i) ps)) ≡ option_map values.set (values.element_at (Sets f ps) j)
  unfolding line is_sum
  given_set = ap (λ x. option_map values.set (values.element_at (Sets f ps) (number_in x))) index

  pub integer_same : AreNumbers f ps → access_over v i ps f ≡ seen_maybe (result_given rows.ArrayVarIntElement (map (argument_value f) (element_inputs (one i) ps)))
  integer_same h = access_numbers h ∙ ap seen_maybe (sym given_integer)

  pub truth_same : AreNumbers f ps → access_over v i ps f ≡ seen_maybe (result_given rows.ArrayVarBoolElement (map (argument_value f) (element_inputs (one i) ps)))
  truth_same h = access_numbers h ∙ ap seen_maybe (sym given_truth)

  pub set_same : AreSetValues f ps → access_over v i ps f ≡ seen_maybe (result_given rows.ArrayVarSetElement (map (argument_value f) (element_inputs (one i) ps)))
  set_same h = access_sets h ∙ ap seen_maybe (sym given_set)
