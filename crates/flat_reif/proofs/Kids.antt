-- The children of a node that is no list are no lists, but that of an extreme and the second of an access.
use Rattle.std.proofs.Common.{◌≡◌, [], ◌∷◌, Option, Some, None, IsSome, option_map, refl, sym, subst}
use Rattle.mz_operations.specs.declared.row.Arith.{Arith}
use Rattle.mz_operations.specs.declared.row.SetOp.{SetOp}
use Rattle.mz_operations.specs.declared.row.Arith.TheVariants as arith_row
use Rattle.mz_operations.specs.declared.row.SetOp.TheVariants as set_row
use Rattle.mz_operations.specs.Bounds.{combined_upper, arith_ends}
use Rattle.mz_interval.specs.Ends.{if_in_limit}
use Rattle.mz_operations.specs.Views.{◌>>=◌}
use Rattle.mz_arena.specs.declared.node.NodeKind.{NodeKind}
use Rattle.mz_arena.specs.declared.node.NodeKind.TheVariants as kinds
use Rattle.mz_arena.specs.Extents.{Known, whole, truth, subset, wholes, truths, subsets, empty, as_whole, as_truth, as_subset, as_single, as_list, arith_bounds, arith_extent, abs_bounds, abs_extent, card_bounds, card_extent, to_int_extent, not_extent, comparison_extent, connective_extent, member_extent, set_extent, set_comparison_extent, if_extent, branch_extent, guard_extent, guarded_extent, access_extent, element_extent, open_truth}
use Rattle.fz_program.specs.declared.row_name.RowName.{RowName}
use Rattle.flat_reif_rows.specs.Standing.{extent_over}
use Rattle.flat_reif_rows.specs.NodeRows.{row_of_one, row_of_two}
use Rattle.flat_reif_rows.proofs.Sorts.{whole_of, truth_of, subset_of, first_there, both_there}

abbrev pub Single : Known → Type 0
Single x = IsSome (as_single x)

pub whole_single : (x : Known) → IsSome (as_whole x) → Single x
whole_single x h = subst (λ (z : Known). Single z) (sym (whole_of x h).is) refl

pub truth_single : (x : Known) → IsSome (as_truth x) → Single x
truth_single x h = subst (λ (z : Known). Single z) (sym (truth_of x h).is) refl

pub subset_single : (x : Known) → IsSome (as_subset x) → Single x
subset_single x h = subst (λ (z : Known). Single z) (sym (subset_of x h).is) refl

mapped_there : {A B : Type 0} (f : A → B) (o : Option A) → IsSome (option_map f o) → IsSome o
mapped_there f None h = absurd (cc)
mapped_there f (Some a) h = refl

-- ---- two children

arith_kids : (op : Arith) (x y : Known) → IsSome (arith_extent op x y) → Single x × Single y
arith_kids op x y h =
    let b = both_there (as_whole x) (as_whole y) (λ e f. if_in_limit (arith_ends op e f)) (mapped_there whole (arith_bounds op (as_whole x) (as_whole y)) h) in
    (whole_single x b.0, whole_single y b.1)

comparison_kids : (x y : Known) → IsSome (comparison_extent x y) → Single x × Single y
unfolding comparison_extent
comparison_kids x y h = let b = both_there (as_whole x) (as_whole y) (λ e f. open_truth) h in (whole_single x b.0, whole_single y b.1)

connective_kids : (x y : Known) → IsSome (connective_extent x y) → Single x × Single y
unfolding connective_extent
connective_kids x y h = let b = both_there (as_truth x) (as_truth y) (λ e f. open_truth) h in (truth_single x b.0, truth_single y b.1)

member_kids : (x y : Known) → IsSome (member_extent x y) → Single x × Single y
unfolding member_extent
member_kids x y h = let b = both_there (as_whole x) (as_subset y) (λ e f. open_truth) h in (whole_single x b.0, subset_single y b.1)

set_kids : (op : SetOp) (x y : Known) → IsSome (set_extent op x y) → Single x × Single y
unfolding set_extent
set_kids op x y h = let b = both_there (as_subset x) (as_subset y) (λ u w. Some (subset (combined_upper op u w))) h in (subset_single x b.0, subset_single y b.1)

set_comparison_kids : (x y : Known) → IsSome (set_comparison_extent x y) → Single x × Single y
unfolding set_comparison_extent
set_comparison_kids x y h = let b = both_there (as_subset x) (as_subset y) (λ u w. open_truth) h in (subset_single x b.0, subset_single y b.1)

pub sum_kids : (x y : Known) → IsSome (extent_over kinds.Add (x ∷ y ∷ [])) → Single x × Single y
sum_kids x y h = arith_kids arith_row.Add x y h

pub two_kids : (k : NodeKind) (name : RowName) (x y : Known) → row_of_two k ≡ Some name → IsSome (extent_over k (x ∷ y ∷ [])) → Single x × Single y
two_kids kinds.Eq name x y r h = comparison_kids x y h
two_kids kinds.Ne name x y r h = comparison_kids x y h
two_kids kinds.Le name x y r h = comparison_kids x y h
two_kids kinds.Lt name x y r h = comparison_kids x y h
two_kids kinds.And name x y r h = connective_kids x y h
two_kids kinds.Or name x y r h = connective_kids x y h
two_kids kinds.Iff name x y r h = connective_kids x y h
two_kids kinds.Member name x y r h = member_kids x y h
two_kids kinds.Mul name x y r h = arith_kids arith_row.Mul x y h
two_kids kinds.Div name x y r h = arith_kids arith_row.Div x y h
two_kids kinds.Mod name x y r h = arith_kids arith_row.Mod x y h
two_kids kinds.Union name x y r h = set_kids set_row.Union x y h
two_kids kinds.Intersect name x y r h = set_kids set_row.Intersect x y h
two_kids kinds.Diff name x y r h = set_kids set_row.Diff x y h
two_kids kinds.Symdiff name x y r h = set_kids set_row.Symdiff x y h
two_kids kinds.SetEq name x y r h = set_comparison_kids x y h
two_kids kinds.Subset name x y r h = set_comparison_kids x y h
two_kids _ name x y r h = absurd (cc)

-- ---- one child

to_int_kid : (x : Known) → IsSome (to_int_extent x) → Single x
unfolding to_int_extent
to_int_kid x h = truth_single x (first_there (as_truth x) (λ e. Some (whole e)) h)

not_kid : (x : Known) → IsSome (not_extent x) → Single x
unfolding not_extent
not_kid x h = truth_single x (first_there (as_truth x) (λ e. open_truth) h)

abs_kid : (x : Known) → IsSome (abs_extent x) → Single x
abs_kid x h = whole_single x (first_there (as_whole x) _ (mapped_there whole (abs_bounds (as_whole x)) h))

card_kid : (x : Known) → IsSome (card_extent x) → Single x
card_kid x h = subset_single x (first_there (as_subset x) _ (mapped_there whole (card_bounds (as_subset x)) h))

pub one_kid : (k : NodeKind) (name : RowName) (x : Known) → row_of_one k ≡ Some name → IsSome (extent_over k (x ∷ [])) → Single x
one_kid kinds.Not name x r h = not_kid x h
one_kid kinds.ToInt name x r h = to_int_kid x h
one_kid kinds.Abs name x r h = abs_kid x h
one_kid kinds.Card name x r h = card_kid x h
one_kid _ name x r h = absurd (cc)

-- ---- branches, guards

-- a condition and two branches of one sort
pub record AreBranchKids (x y z : Known) : Type 0 where
  pub condition : IsSome (as_truth x)
  pub yes : Single y
  pub no : Single z

branch_kid : (y z : Known) → IsSome (as_single y >>= λ b. branch_extent b z) → Single y × Single z
branch_kid None z h = absurd (cc)
branch_kid (Some (whole e)) z h = (refl, whole_single z (first_there (as_whole z) _ h))
branch_kid (Some (truth e)) z h = (refl, truth_single z (first_there (as_truth z) _ h))
branch_kid (Some (subset u)) z h = (refl, subset_single z (first_there (as_subset z) _ h))
branch_kid (Some (wholes es)) z h = absurd (cc)
branch_kid (Some truths) z h = absurd (cc)
branch_kid (Some (subsets us)) z h = absurd (cc)
branch_kid (Some empty) z h = absurd (cc)

then_there : {A B C : Type 0} (o : Option A) (p : Option B) (g : B → Option C) → IsSome (o >>= λ a. p >>= g) → IsSome (p >>= g)
then_there None p g h = absurd (cc)
then_there (Some a) p g h = h

pub if_kids : (x y z : Known) → IsSome (extent_over kinds.If (x ∷ y ∷ z ∷ [])) → AreBranchKids x y z
unfolding if_extent
if_kids x y z h =
    let b = branch_kid y z (then_there (as_truth x) (as_single y) (λ b. branch_extent b z) h) in
    record { condition = first_there (as_truth x) (λ c. as_single y >>= λ b. branch_extent b z) h; yes = b.0; no = b.1 }

pub guard_kids : (x y : Known) → IsSome (extent_over kinds.Guard (x ∷ y ∷ [])) → Single x × Single y
unfolding guard_extent
guard_kids x y h = (truth_single x (first_there (as_truth x) (λ c. as_single y >>= guarded_extent) h), first_there (as_single y) guarded_extent (then_there (as_truth x) (as_single y) guarded_extent h))

-- an index and a list
pub access_kids : (x y : Known) → IsSome (extent_over kinds.Access (x ∷ y ∷ [])) → IsSome (as_whole x) × IsSome (as_list y)
unfolding access_extent
access_kids x y h = (first_there (as_whole x) (λ e. as_list y >>= element_extent e) h, second (as_whole x) h)
  where
    second : (o : Option _) → IsSome (o >>= λ e. as_list y >>= element_extent e) → IsSome (as_list y)
    second None h = absurd (cc)
    second (Some e) h = first_there (as_list y) (element_extent e) h
