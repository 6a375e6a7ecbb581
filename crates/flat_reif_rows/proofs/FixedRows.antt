-- The rows of accesses to lists of constants give what those of other lists give.
use Rattle.std.proofs.Common.{◌≡◌, Bool, true, false, List, [], ◌∷◌, map, Some, None, refl, sym, ap, subst, ◌∙◌}
use Rattle.std.specs.Prelude.{◌&&◌}
use Rattle.std.specs.List.{list_all}
use Rattle.std.proofs.lemmas.Bool.{and_parts, and_from}
use Rattle.mz_interval.specs.Ends.{Ends}
use Rattle.mz_arena.specs.Extents.{Known, whole, truth, subset, wholes, truths, subsets, empty}
use Rattle.fz_program.specs.declared.program.Arg.{Arg}
use Rattle.fz_program.specs.declared.row_name.RowName.{RowName}
use Rattle.fz_program.specs.declared.row_name.RowName.TheVariants as rows
use Rattle.fz_program.specs.declared.row_name.Kind.{Kind}
use Rattle.fz_program.specs.declared.row_name.Kind.TheVariants.{Int, Bool as Truth, Set, ConstInts, ConstBools, ConstSets}
use Rattle.fz_program.specs.Arguments.{Plain, bool, int, set, var, nested, Argument, one, plain, plains}
use Rattle.fz_program.specs.Values.{ArgumentValue}
use Rattle.fz_program.specs.Table.{line}
use Rattle.fz_program.specs.Flat.{Variable, Program, argument_value, is_plain, is_constant, is_argument}
use Rattle.fz_build.specs.Inputs.{is_sum}
use Rattle.fz_build.specs.Results.{result_given}
use Rattle.fz_build.specs.Bounds.{result_domain, form_of}
use Rattle.flat_reif_rows.specs.Standing.{LiesWithin}
use Rattle.flat_reif_rows.specs.Making.{MayGive, GivesSome, Gives}
use Rattle.flat_reif_rows.specs.Elements.{AreElements, element_row, element_inputs, fixed_row, is_fixed, chosen_row}
use Rattle.flat_reif_rows.proofs.TruthRows.{not_linear}
use Rattle.flat_reif_rows.proofs.Given.{grows_where}
use Rattle.flat_reif_rows.proofs.AccessRows.{whole_plain, truth_plain, subset_plain, access_inputs}

-- ---- constants

constant_plain : (vs : List Variable) (k : Kind) (p : Plain) → is_fixed p ≡ true → is_plain vs k p ≡ true → is_constant k p ≡ true
unfolding is_plain
constant_plain vs k (var j) h l = absurd (cc)
constant_plain vs k (bool b) h l = l
constant_plain vs k (int n) h l = l
constant_plain vs k (set s) h l = l
constant_plain vs k nested h l = absurd (cc)

constants : (vs : List Variable) (k : Kind) (ps : List Plain) → list_all is_fixed ps ≡ true → list_all (is_plain vs k) ps ≡ true → list_all (is_constant k) ps ≡ true
constants vs k [] h l = refl
constants vs k (p ∷ ps) h l =
    let a = and_parts (is_fixed p) (list_all is_fixed ps) h in
    let b = and_parts (is_plain vs k p) (list_all (is_plain vs k) ps) l in
    and_from (is_constant k p) (list_all (is_constant k) ps) (constant_plain vs k p a.0 b.0) (constants vs k ps a.1 b.1)

pub same_test : (items : List Arg) → list_all (λ a. is_fixed (plain a)) items ≡ list_all is_fixed (plains items)
same_test [] = refl
same_test (a ∷ items) = ap (λ t. is_fixed (plain a) && t) (same_test items)

same_name : (r name : RowName) → Some r ≡ Some name → r ≡ name
same_name r name h = cc

-- ---- the same domain and the same result

record IsAlike (row name : RowName) : Type 0 where
  domain : (vs : List Variable) (xs : List Argument) → result_domain vs row xs ≡ result_domain vs name xs
  given : (xs : List ArgumentValue) → result_given row xs ≡ result_given name xs

same_alike : (name : RowName) → IsAlike name name
same_alike name = record { domain = λ vs xs. refl; given = λ xs. refl }

fixed_alike : (name : RowName) → IsAlike (fixed_row name) name
unfolding form_of line is_sum
fixed_alike rows.ArrayVarIntElement = record { domain = λ vs xs. refl; given = λ xs. refl }
fixed_alike rows.ArrayVarBoolElement = record { domain = λ vs xs. refl; given = λ xs. refl }
fixed_alike rows.ArrayVarSetElement = record { domain = λ vs xs. refl; given = λ xs. refl }
fixed_alike _ = record { domain = λ vs xs. refl; given = λ xs. refl }

chosen_alike : (b : Bool) (name : RowName) → IsAlike (chosen_row b name) name
chosen_alike true name = fixed_alike name
chosen_alike false name = same_alike name

pub chosen_gives : (b : Bool) (old new : Program) (name : RowName) (inputs : List Argument) (out : Plain) → Gives old new (chosen_row b name) inputs out → Gives old new name inputs out
chosen_gives b old new name inputs out g =
    let row = chosen_row b name in
    let same = chosen_alike b name in
    record {
      domain = g.domain;
      is = sym (same.domain old.vars inputs) ∙ g.is;
      some = g.some;
      typed = g.typed;
      grows = grows_where old new (GivesSome row inputs) (GivesSome name inputs) g.grows (λ f s h. record { result = h.result; is = same.given (map (argument_value f) inputs) ∙ h.is });
      place = g.place;
      value = λ f s. sym (same.given (map (argument_value f) inputs)) ∙ g.value f s;
      made = g.made;
    }

-- ---- the kinds of the inputs

module _ (p : Program) (i : Plain) (ps : List Plain) (e : Ends) (l : LiesWithin Int p.vars i e) (fixed : list_all is_fixed ps ≡ true) where
  abbrev Given : List Argument
  Given = element_inputs (one i) ps

  abbrev AllPlain : Kind → Type 0
  AllPlain k = list_all (is_plain p.vars k) ps ≡ true

  integer_fixed : AllPlain Int → MayGive p rows.ArrayVarIntElement Given → MayGive p rows.ArrayIntElement Given
  unfolding line is_sum is_argument form_of
  integer_fixed h m = record { are = access_inputs p.vars ConstInts i ps l.sort (constants p.vars Int ps fixed h); domain = m.domain; is = m.is; within = not_linear rows.ArrayIntElement refl }

  truth_fixed : AllPlain Truth → MayGive p rows.ArrayVarBoolElement Given → MayGive p rows.ArrayBoolElement Given
  unfolding line is_sum is_argument form_of
  truth_fixed h m = record { are = access_inputs p.vars ConstBools i ps l.sort (constants p.vars Truth ps fixed h); domain = m.domain; is = m.is; within = not_linear rows.ArrayBoolElement refl }

  set_fixed : AllPlain Set → MayGive p rows.ArrayVarSetElement Given → MayGive p rows.ArraySetElement Given
  unfolding line is_sum is_argument form_of
  set_fixed h m = record { are = access_inputs p.vars ConstSets i ps l.sort (constants p.vars Set ps fixed h); domain = m.domain; is = m.is; within = not_linear rows.ArraySetElement refl }

  fixed_may : (list : Known) (name : RowName) → AreElements p.vars ps list → element_row list ≡ Some name → MayGive p name Given → MayGive p (fixed_row name) Given
  fixed_may (Some (wholes es)) name all row m = by (same_name rows.ArrayVarIntElement name row) m
    where
      by : rows.ArrayVarIntElement ≡ name → MayGive p name Given → MayGive p (fixed_row name) Given
      by same k = subst (λ r. MayGive p (fixed_row r) Given) same (integer_fixed (whole_plain p.vars ps es all) (subst (λ r. MayGive p r Given) (sym same) k))
  fixed_may (Some truths) name all row m = by (same_name rows.ArrayVarBoolElement name row) m
    where
      by : rows.ArrayVarBoolElement ≡ name → MayGive p name Given → MayGive p (fixed_row name) Given
      by same k = subst (λ r. MayGive p (fixed_row r) Given) same (truth_fixed (truth_plain p.vars ps all) (subst (λ r. MayGive p r Given) (sym same) k))
  fixed_may (Some (subsets us)) name all row m = by (same_name rows.ArrayVarSetElement name row) m
    where
      by : rows.ArrayVarSetElement ≡ name → MayGive p name Given → MayGive p (fixed_row name) Given
      by same k = subst (λ r. MayGive p (fixed_row r) Given) same (set_fixed (subset_plain p.vars ps us all) (subst (λ r. MayGive p r Given) (sym same) k))
  fixed_may None name all row m = absurd all
  fixed_may (Some (whole g)) name all row m = absurd all
  fixed_may (Some (truth g)) name all row m = absurd all
  fixed_may (Some (subset u)) name all row m = absurd all
  fixed_may (Some empty) name all row m = absurd all

pub chosen_may : (b : Bool) (p : Program) (i : Plain) (ps : List Plain) (e : Ends) (list : Known) (name : RowName) → LiesWithin Int p.vars i e → list_all is_fixed ps ≡ b → AreElements p.vars ps list → element_row list ≡ Some name → MayGive p name (element_inputs (one i) ps) → MayGive p (chosen_row b name) (element_inputs (one i) ps)
chosen_may true p i ps e list name l h all row m = fixed_may p i ps e l h list name all row m
chosen_may false p i ps e list name l h all row m = m
