-- The rows that hold where a node is true, kind by kind.
use Rattle.std.proofs.Common.{◌≡◌, pos, Bool, true, false, List, [], ◌∷◌, map, Some, IsSome, int_eq, int_le, int_lt, refl, sym, ap, ap₂, subst, ◌∙◌}
use Rattle.std.specs.Prelude.{◌&&◌, not}
use Rattle.std.proofs.lemmas.Bool.{and_from}
use Rattle.mz_operations.specs.Sets.{contains, is_subset, same_set}
use Rattle.mz_arena.specs.declared.node.NodeKind.{NodeKind}
use Rattle.mz_arena.specs.declared.node.NodeKind.TheVariants as kinds
use Rattle.mz_arena.specs.Values as terms
use Rattle.mz_arena.specs.Values.{is_true, bit, comparison_term, set_comparison_term, member_term, or_term, iff_term}
use Rattle.mz_arena.specs.Terms.{kind_term}
use Rattle.mz_arena.specs.Extents.{Known}
use Rattle.fz_program.specs.declared.row_name.RowName.{RowName}
use Rattle.fz_program.specs.declared.row_name.RowName.TheVariants as rows
use Rattle.fz_program.specs.declared.row_name.Kind.TheVariants.{Int, Bool as Truth, Set}
use Rattle.fz_program.specs.Arguments.{Plain, bool, one}
use Rattle.fz_program.specs.Values as values
use Rattle.fz_program.specs.Values.{Value, Values, ArgumentValue}
use Rattle.fz_program.specs.Table.{Meaning, tests, gives, line, Holds, answer_of}
use Rattle.fz_program.specs.Flat.{Variable, RowHolds, AreInDomains, number_of_truth, plain_value, argument_value, is_plain, is_constant, same_kind, is_argument, are_arguments, is_within, IsWellFormedRow}
use Rattle.fz_build.specs.Results.{is_giving}
use Rattle.fz_build.specs.Build.{constraint}
use Rattle.flat_reif_rows.specs.Standing.{seen, AllSuit, of_kind, extent_over, term_over}
use Rattle.flat_reif_rows.specs.RootRows.{test_of, is_clause_kind, test_inputs_by, test_inputs, truth_row}
use Rattle.flat_reif_rows.proofs.Sorts.{Sort, of_integer, of_truth, of_set, kind_of, Raw, flat, HasSort, suit_sort, sort_value}
use Rattle.flat_reif_rows.proofs.TruthRows.{two_inputs, integers_of, truths_of, sets_of, member_of}

-- ---- a row that tests

to_answer : (m : Meaning) (xs : List ArgumentValue) → is_giving m ≡ false → Holds m xs → answer_of m xs ≡ true
to_answer (tests test) xs g h = h
to_answer (gives result) xs g h = absurd (cc)

from_answer : (m : Meaning) (xs : List ArgumentValue) → is_giving m ≡ false → answer_of m xs ≡ true → Holds m xs
from_answer (tests test) xs g h = h
from_answer (gives result) xs g h = absurd (cc)

bit_true : (b : Bool) → is_true (bit b) ≡ b
bit_true true = refl
bit_true false = refl

unfoldable pub test_values : Bool → Value → Value → List ArgumentValue
test_values true u w = values.many (u ∷ w ∷ []) ∷ values.many [] ∷ []
test_values false u w = values.one u ∷ values.one w ∷ []

values_of_test : (b : Bool) (f : Values) (p q : Plain) → map (argument_value f) (test_inputs_by b (one p) (one q)) ≡ test_values b (plain_value f p) (plain_value f q)
unfolding test_values
values_of_test true f p q = refl
values_of_test false f p q = refl

-- the facts of one kind
record TestRow (k : NodeKind) (name : RowName) (s t : Sort) : Type 0 where
  pub sorts : (x y : Known) → IsSome (extent_over k (x ∷ y ∷ [])) → HasSort s x × HasSort t y
  pub are : (vs : List Variable) (a b : Plain) → is_plain vs (kind_of s) a ≡ true → is_plain vs (kind_of t) b ≡ true → are_arguments vs (line name).kinds (test_inputs k (one a) (one b)) ≡ true
  pub within : (vs : List Variable) (a b : Plain) → is_within vs (test_inputs k (one a) (one b)) ≡ true
  pub testing : is_giving (line name).meaning ≡ false
  pub core : (v : terms.Values) (m : Raw s) (n : Raw t) → is_true (kind_term v (of_kind k) k (Some (seen (flat s m)) ∷ Some (seen (flat t n)) ∷ [])) ≡ answer_of (line name).meaning (test_values (is_clause_kind k) (flat s m) (flat t n))

-- the row of a node over its children's arguments: it is well formed, and holds where the node is true
pub record TestFits (k : NodeKind) (name : RowName) (a b : Plain) : Type 0 where
  pub formed : (vs : List Variable) (xs : List Known) → AllSuit vs (a ∷ b ∷ []) xs → IsSome (extent_over k xs) → IsWellFormedRow vs (constraint name (test_inputs k (one a) (one b)))
  pub to : (vs : List Variable) (xs : List Known) → AllSuit vs (a ∷ b ∷ []) xs → IsSome (extent_over k xs) → (v : terms.Values) (f : Values) → AreInDomains vs f → RowHolds f (constraint name (test_inputs k (one a) (one b))) → is_true (term_over v k (a ∷ b ∷ []) f) ≡ true
  pub from : (vs : List Variable) (xs : List Known) → AllSuit vs (a ∷ b ∷ []) xs → IsSome (extent_over k xs) → (v : terms.Values) (f : Values) → AreInDomains vs f → is_true (term_over v k (a ∷ b ∷ []) f) ≡ true → RowHolds f (constraint name (test_inputs k (one a) (one b)))

module _ (k : NodeKind) (name : RowName) (s t : Sort) (r : TestRow k name s t) (a b : Plain) where
  formed : (vs : List Variable) (xs : List Known) → AllSuit vs (a ∷ b ∷ []) xs → IsSome (extent_over k xs) → IsWellFormedRow vs (constraint name (test_inputs k (one a) (one b)))
  formed vs [] u h = absurd u
  formed vs (x ∷ []) u h = absurd (u.1)
  formed vs (x ∷ y ∷ []) u h = let o = r.sorts x y h in record { args = r.are vs a b (suit_sort s vs a x o.0 u.0) (suit_sort t vs b y o.1 u.1.0); defines = refl; within = r.within vs a b }
  formed vs (x ∷ y ∷ z ∷ zs) u h = absurd (u.1.1)

  -- the node is true exactly where the test holds
  same : (vs : List Variable) (xs : List Known) → AllSuit vs (a ∷ b ∷ []) xs → IsSome (extent_over k xs) → (v : terms.Values) (f : Values) → AreInDomains vs f → is_true (term_over v k (a ∷ b ∷ []) f) ≡ answer_of (line name).meaning (map (argument_value f) (test_inputs k (one a) (one b)))
  same vs [] u h v f d = absurd u
  same vs (x ∷ []) u h v f d = absurd (u.1)
  same vs (x ∷ y ∷ []) u h v f d =
      let o = r.sorts x y h in
      let m = sort_value s vs f a d (suit_sort s vs a x o.0 u.0) in
      let n = sort_value t vs f b d (suit_sort t vs b y o.1 u.1.0) in
      ap₂ (λ i j. is_true (kind_term v (of_kind k) k (Some (seen i) ∷ Some (seen j) ∷ []))) m.is n.is
      ∙ r.core v m.raw n.raw
      ∙ ap₂ (λ i j. answer_of (line name).meaning (test_values (is_clause_kind k) i j)) (sym m.is) (sym n.is)
      ∙ ap (answer_of (line name).meaning) (sym (values_of_test (is_clause_kind k) f a b))
  same vs (x ∷ y ∷ z ∷ zs) u h v f d = absurd (u.1.1)

  test_row : TestFits k name a b
  test_row = record {
    formed = formed;
    to = λ vs xs u h v f d holds. same vs xs u h v f d ∙ to_answer (line name).meaning (map (argument_value f) (test_inputs k (one a) (one b))) r.testing holds;
    from = λ vs xs u h v f d is. from_answer (line name).meaning (map (argument_value f) (test_inputs k (one a) (one b))) r.testing (sym (same vs xs u h v f d) ∙ is);
  }

-- ---- kind by kind

test_Eq : TestRow kinds.Eq rows.IntEq of_integer of_integer
unfolding line is_argument is_within test_values comparison_term
test_Eq = record {
  sorts = integers_of;
  are = λ vs a b h l. two_inputs vs Int Int a b h l;
  within = λ vs a b. refl;
  testing = refl;
  core = λ v m n. bit_true (int_eq m n);
}

test_Ne : TestRow kinds.Ne rows.IntNe of_integer of_integer
unfolding line is_argument is_within test_values comparison_term
test_Ne = record {
  sorts = integers_of;
  are = λ vs a b h l. two_inputs vs Int Int a b h l;
  within = λ vs a b. refl;
  testing = refl;
  core = λ v m n. bit_true (not (int_eq m n));
}

test_Le : TestRow kinds.Le rows.IntLe of_integer of_integer
unfolding line is_argument is_within test_values comparison_term
test_Le = record {
  sorts = integers_of;
  are = λ vs a b h l. two_inputs vs Int Int a b h l;
  within = λ vs a b. refl;
  testing = refl;
  core = λ v m n. bit_true (int_le m n);
}

test_Lt : TestRow kinds.Lt rows.IntLt of_integer of_integer
unfolding line is_argument is_within test_values comparison_term
test_Lt = record {
  sorts = integers_of;
  are = λ vs a b h l. two_inputs vs Int Int a b h l;
  within = λ vs a b. refl;
  testing = refl;
  core = λ v m n. bit_true (int_lt m n);
}

test_Member : TestRow kinds.Member rows.SetIn of_integer of_set
unfolding line is_argument is_within test_values member_term
test_Member = record {
  sorts = member_of;
  are = λ vs a b h l. two_inputs vs Int Set a b h l;
  within = λ vs a b. refl;
  testing = refl;
  core = λ v m n. bit_true (contains n m);
}

test_SetEq : TestRow kinds.SetEq rows.SetEq of_set of_set
unfolding line is_argument is_within test_values set_comparison_term
test_SetEq = record {
  sorts = sets_of;
  are = λ vs a b h l. two_inputs vs Set Set a b h l;
  within = λ vs a b. refl;
  testing = refl;
  core = λ v m n. bit_true (same_set m n);
}

test_Subset : TestRow kinds.Subset rows.SetSubset of_set of_set
unfolding line is_argument is_within test_values set_comparison_term
test_Subset = record {
  sorts = sets_of;
  are = λ vs a b h l. two_inputs vs Set Set a b h l;
  within = λ vs a b. refl;
  testing = refl;
  core = λ v m n. bit_true (is_subset m n);
}

core_Iff : (v : terms.Values) (m n : Bool) → is_true (kind_term v (of_kind kinds.Iff) kinds.Iff (Some (seen (flat of_truth m)) ∷ Some (seen (flat of_truth n)) ∷ [])) ≡ answer_of (line rows.BoolEq).meaning (test_values (is_clause_kind kinds.Iff) (flat of_truth m) (flat of_truth n))
unfolding line test_values iff_term
core_Iff v true true = refl
core_Iff v true false = refl
core_Iff v false true = refl
core_Iff v false false = refl

test_Iff : TestRow kinds.Iff rows.BoolEq of_truth of_truth
unfolding line is_argument is_within test_values iff_term
test_Iff = record {
  sorts = truths_of;
  are = λ vs a b h l. two_inputs vs Truth Truth a b h l;
  within = λ vs a b. refl;
  testing = refl;
  core = λ v m n. core_Iff v m n;
}

core_Or : (v : terms.Values) (m n : Bool) → is_true (kind_term v (of_kind kinds.Or) kinds.Or (Some (seen (flat of_truth m)) ∷ Some (seen (flat of_truth n)) ∷ [])) ≡ answer_of (line rows.BoolClause).meaning (test_values (is_clause_kind kinds.Or) (flat of_truth m) (flat of_truth n))
unfolding line test_values or_term
core_Or v true true = refl
core_Or v true false = refl
core_Or v false true = refl
core_Or v false false = refl

test_Or : TestRow kinds.Or rows.BoolClause of_truth of_truth
unfolding line is_argument are_arguments is_within
test_Or = record {
  sorts = truths_of;
  are = λ vs a b h l. and_from (is_plain vs Truth a && (is_plain vs Truth b && true)) (true && true) (and_from (is_plain vs Truth a) (is_plain vs Truth b && true) h (and_from (is_plain vs Truth b) true l refl)) refl;
  within = λ vs a b. refl;
  testing = refl;
  core = core_Or;
}

-- ---- the table

same_test : (r name : RowName) → Some r ≡ Some name → r ≡ name
same_test r name h = cc

pub fits_test : (k : NodeKind) (name : RowName) → test_of k ≡ Some name → (a b : Plain) → TestFits k name a b
fits_test kinds.Eq name h a b = subst (λ r. TestFits kinds.Eq r a b) (same_test rows.IntEq name h) (test_row kinds.Eq rows.IntEq of_integer of_integer test_Eq a b)
fits_test kinds.Ne name h a b = subst (λ r. TestFits kinds.Ne r a b) (same_test rows.IntNe name h) (test_row kinds.Ne rows.IntNe of_integer of_integer test_Ne a b)
fits_test kinds.Le name h a b = subst (λ r. TestFits kinds.Le r a b) (same_test rows.IntLe name h) (test_row kinds.Le rows.IntLe of_integer of_integer test_Le a b)
fits_test kinds.Lt name h a b = subst (λ r. TestFits kinds.Lt r a b) (same_test rows.IntLt name h) (test_row kinds.Lt rows.IntLt of_integer of_integer test_Lt a b)
fits_test kinds.Or name h a b = subst (λ r. TestFits kinds.Or r a b) (same_test rows.BoolClause name h) (test_row kinds.Or rows.BoolClause of_truth of_truth test_Or a b)
fits_test kinds.Iff name h a b = subst (λ r. TestFits kinds.Iff r a b) (same_test rows.BoolEq name h) (test_row kinds.Iff rows.BoolEq of_truth of_truth test_Iff a b)
fits_test kinds.Member name h a b = subst (λ r. TestFits kinds.Member r a b) (same_test rows.SetIn name h) (test_row kinds.Member rows.SetIn of_integer of_set test_Member a b)
fits_test kinds.SetEq name h a b = subst (λ r. TestFits kinds.SetEq r a b) (same_test rows.SetEq name h) (test_row kinds.SetEq rows.SetEq of_set of_set test_SetEq a b)
fits_test kinds.Subset name h a b = subst (λ r. TestFits kinds.Subset r a b) (same_test rows.SetSubset name h) (test_row kinds.Subset rows.SetSubset of_set of_set test_Subset a b)
fits_test _ name h a b = absurd (cc)

-- ---- a truth value that must be true

truth_formed : (vs : List Variable) (p : Plain) → is_plain vs Truth p ≡ true → IsWellFormedRow vs (truth_row (one p))
unfolding line is_argument is_plain is_constant same_kind is_within
truth_formed vs p h = record { args = two_inputs vs Truth Truth p (bool true) h refl; defines = refl; within = refl }

pub forced_formed : (vs : List Variable) (p : Plain) → is_plain vs Truth p ≡ true → IsWellFormedRow vs (truth_row (one p))
forced_formed vs p h = truth_formed vs p h

raw_true : (b : Bool) → int_eq (number_of_truth b) (pos 1) ≡ true → flat of_truth b ≡ values.number (pos 1)
raw_true true h = refl
raw_true false h = absurd (cc)

pub forced_to : (vs : List Variable) (p : Plain) (f : Values) → is_plain vs Truth p ≡ true → AreInDomains vs f → RowHolds f (truth_row (one p)) → plain_value f p ≡ values.number (pos 1)
unfolding line
forced_to vs p f h d holds =
    let m = sort_value of_truth vs f p d h in
    m.is ∙ raw_true m.raw (sym (ap (λ u. int_eq (values.number_in u) (pos 1)) m.is) ∙ holds)

pub forced_from : (p : Plain) (f : Values) → plain_value f p ≡ values.number (pos 1) → RowHolds f (truth_row (one p))
unfolding line
forced_from p f h = ap (λ u. int_eq (values.number_in u) (pos 1)) h
