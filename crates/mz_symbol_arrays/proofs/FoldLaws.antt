-- A sum or a product of an array is a fold over its elements, and the symbol that is made stands for it.
use Rattle.std.proofs.Common.{◌≡◌, ◌∙◌, ℕ, ℤ, List, [], ◌∷◌, length, drop, Option, Some, None, refl, sym, ap}
use Rattle.std.specs.Option.{option_map, option_and_then}
use Rattle.mz_value.specs.Ranges.{Range}
use Rattle.mz_value.specs.Contents.{Content, contents}
use Rattle.mz_value.specs.Contents as values
use Rattle.mz_value.specs.Shown.{Names}
use Rattle.mz_core.specs.declared.types.Base.TheVariants as base
use Rattle.mz_operations.specs.declared.row.Fold.{Fold}
use Rattle.mz_operations.specs.declared.row.ScalarRow.TheVariants as row
use Rattle.mz_operations.specs.declared.row.Row.TheVariants.{Scalar}
use Rattle.mz_operations.specs.Views.{as_items, items_in}
use Rattle.mz_operations.specs.Arguments.{at, items_at}
use Rattle.mz_operations.specs.Arrays.{fold_from}
use Rattle.mz_operations.specs.Numbers.{fold_start}
use Rattle.mz_arena.specs.Values.{is_true}
use Rattle.mz_meaning.specs.Exact.{exact_value}
use Rattle.mz_meaning.specs.Runs.{State, Out}
use Rattle.mz_meaning.specs.Cells.{held}
use Rattle.mz_symbol.specs.declared.types.Symbol.{Symbol}
use Rattle.mz_symbol.specs.Symbols.{symbol_value}
use Rattle.mz_symbol.specs.Runs.{Run}
use Rattle.mz_symbol.specs.Readings.{Reading, Reads, IsGiven, symbol_seen}
use Rattle.mz_symbol.specs.Arguments.{as_argument}
use Rattle.mz_symbol_rows.specs.OptionValues.{guarded_value}
use Rattle.mz_symbol_arrays.specs.LineValues.{IsLineOf}
use Rattle.mz_symbol_arrays.proofs.Given.{held_given, held_by, gives}
use Rattle.mz_symbol_arrays.proofs.LineLaws.{line_count, line_holds, line_fails, drop_all}
use Rattle.mz_symbol_arrays.proofs.RowLaws.{items_back, guarded_by, guarded_none, int_argument}
use Rattle.mz_symbol_arrays.specs.SumValues.{exact_row}
use Rattle.mz_symbol_arrays.specs.StepsSums.{fold_on, HasFolded, Folds}

abbrev array_of : List Range → List Content → Option Content
array_of ix xs = Some (values.array ix (contents xs))

abbrev int_of : Option ℤ → Option Content
int_of o = option_and_then (λ n. Some (values.int n)) o

fold_on_array : (names : Names) (op : Fold) (ix : List Range) (xs : List Content) → exact_value names (Scalar (row.Fold op)) (array_of ix xs ∷ []) ≡ int_of (fold_on op (fold_start op) xs)
unfolding items_at at as_items
fold_on_array names op ix xs = ap (λ ys. int_of (fold_on op (fold_start op) ys)) (items_back xs)

no_fold : (names : Names) (op : Fold) → exact_value names (Scalar (row.Fold op)) (None ∷ []) ≡ None
unfolding items_at at
no_fold names op = refl

fold_end : (op : Fold) (n : ℤ) → fold_on op n [] ≡ Some n
unfolding fold_from
fold_end op n = refl

record IsWhole (op : Fold) (xs : List Content) (v : Option Content) : Type 0 where
  number : ℤ
  is : v ≡ Some (values.int number)
  folds : fold_on op (fold_start op) xs ≡ Some number

folds_all : (op : Fold) (xs : List Content) (n : ℕ) (v : Option Content) → length xs ≡ n → HasFolded op xs n v → IsWhole op xs v
folds_all op xs n v e h = record {
  number = h.number;
  is = h.is;
  folds = h.rest ∙ ap (λ m. fold_on op h.number (drop m xs)) (sym e) ∙ ap (fold_on op h.number) (drop_all xs) ∙ fold_end op h.number;
}

-- what is known when all elements are folded
pub record IsEnded (r : Reading) (found m1 m2 : Run) (op : Fold) (k d n : ℕ) (first all : Symbol) : Type 0 where
  pub line : IsLineOf found k d n
  pub reads : Reads r found
  pub first_is : IsGiven r.mode → symbol_value r.term first ≡ Some (values.int (fold_start op))
  pub folds : Folds r m1 m2 op k n first all

whole_at : (r : Reading) (found m1 m2 : Run) (op : Fold) (k d n : ℕ) (first all : Symbol) (xs : List Content) → IsEnded r found m1 m2 op k d n first all → IsGiven r.mode → r.line k ≡ Some xs → IsWhole op xs (symbol_value r.term all)
whole_at r found m1 m2 op k d n first all xs e g l = folds_all op xs n (symbol_value r.term all) (line_count r found k d n xs e.line e.reads l) (e.folds.so_far g xs l (e.first_is g))

pub first_number : (r : Reading) (op : Fold) (b : ℤ) (first : Symbol) (u v : State) → b ≡ fold_start op → Out (held r.mode (Some (values.int b))) u ≡ Out (symbol_seen r first) v → IsGiven r.mode → symbol_value r.term first ≡ Some (values.int (fold_start op))
first_number r op b first u v h e g = gives r (Some (values.int b)) first u v g e ∙ ap (λ n. Some (values.int n)) h

abbrev value_is : List Range → Option (List Content) → Option Content
value_is ix o = option_map (λ xs. values.array ix (contents xs)) o

pub fold_held : (r : Reading) (found m1 m2 : Run) (names : Names) (op : Fold) (ix : List Range) (k d n : ℕ) (first all s : Symbol) (u v : State) → IsEnded r found m1 m2 op k d n first all → all.base ≡ base.Int → Out (held r.mode (as_argument all.base all.occurs (guarded_value r d all))) u ≡ Out (symbol_seen r s) v → held r.mode (exact_row r names (row.Fold op) ix k) ≡ symbol_seen r s
fold_held r found m1 m2 names op ix k d n first all s u v e i h = held_by r.mode (exact_row r names (row.Fold op) ix k) (symbol_value r.term s) (λ g. ap (λ a. exact_value names (Scalar (row.Fold op)) (a ∷ [])) (held_given r.mode (value_is ix (r.line k)) g) ∙ by g (r.line k) refl)
  where
    made : IsGiven r.mode → symbol_value r.term s ≡ guarded_value r d all
    made g = gives r (as_argument all.base all.occurs (guarded_value r d all)) s u v g h ∙ int_argument all.base all.occurs (guarded_value r d all) i

    by : IsGiven r.mode → (o : Option (List Content)) → r.line k ≡ o → exact_value names (Scalar (row.Fold op)) (value_is ix o ∷ []) ≡ symbol_value r.term s
    by g None l = no_fold names op ∙ sym (made g ∙ guarded_none (is_true (r.term d)) (symbol_value r.term all) (line_fails r found k d n e.line e.reads l))
    by g (Some xs) l =
        let w = whole_at r found m1 m2 op k d n first all xs e g l in
        fold_on_array names op ix xs ∙ ap int_of w.folds ∙ sym (made g ∙ guarded_by (is_true (r.term d)) (symbol_value r.term all) (line_holds r found k d n xs e.line e.reads l) ∙ w.is)
