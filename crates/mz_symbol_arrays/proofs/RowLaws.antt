-- Rows over arrays are walks over their elements, and the symbols that are made stand for them.
use Rattle.std.proofs.Common.{◌≡◌, ◌∙◌, ℕ, ℤ, pos, ◌+ℤ◌, Bool, true, false, not, ◌&&◌, ◌||◌, List, [], ◌∷◌, Option, Some, None, refl, sym, ap, arith, if◌then◌else◌}
use Rattle.std.proofs.lemmas.Int.{ints}
use Rattle.std.specs.Option.{option_map, option_and_then}
use Rattle.mz_value.specs.Ranges.{Range}
use Rattle.mz_value.specs.Contents.{Content, contents}
use Rattle.mz_value.specs.Contents as values
use Rattle.mz_core.specs.declared.types.Base.{Base}
use Rattle.mz_core.specs.declared.types.Base.TheVariants as base
use Rattle.mz_operations.specs.declared.row.Connective.TheVariants as connective
use Rattle.mz_operations.specs.declared.row.Quantifier.{Quantifier}
use Rattle.mz_operations.specs.declared.row.Quantifier.TheVariants as quantifier
use Rattle.mz_operations.specs.declared.row.ScalarRow.TheVariants as row
use Rattle.mz_operations.specs.Views.{◌>>=◌, as_bool, as_items, items_in}
use Rattle.mz_operations.specs.Arguments.{at, bool_at, items_at}
use Rattle.mz_operations.specs.Arrays.{fold_from, truth_or, instance}
use Rattle.mz_operations.specs.Numbers.{same, connected, quantified, quantifier_start, counted}
use Rattle.mz_operations.specs.Values.{scalar_value}
use Rattle.mz_arena.specs.Values.{Term, as_number, is_true}
use Rattle.mz_arena.specs.Values as terms
use Rattle.mz_symbol.specs.Symbols.{content_by, value_by, symbol_value}
use Rattle.mz_meaning.specs.Runs.{State, Out}
use Rattle.mz_meaning.specs.Cells.{held}
use Rattle.mz_symbol.specs.declared.types.Symbol.{Symbol}
use Rattle.mz_symbol.specs.Runs.{Run}
use Rattle.mz_symbol.specs.Readings.{Reading, Reads, IsGiven, symbol_seen}
use Rattle.mz_symbol.specs.Arguments.{truth_of, as_argument}
use Rattle.mz_symbol_rows.specs.RowValues.{argument, row_value}
use Rattle.mz_symbol_rows.specs.OptionValues.{guarded_value}
use Rattle.mz_symbol_arrays.specs.declared.lines.walk.Walk.{Walk}
use Rattle.mz_symbol_arrays.specs.declared.lines.walk.Walk.TheVariants.{Forall, Exists, Xorall, Count}
use Rattle.mz_symbol_arrays.specs.LineValues.{array_row, IsLineOf}
use Rattle.mz_symbol_arrays.specs.StepsLines.{joined, walk_from, start_of, walk_of, HasSort, Walks, truth_symbol}
use Rattle.mz_symbol_arrays.proofs.Given.{held_given, held_by, gives, logic_gives}
use Rattle.mz_symbol_arrays.proofs.LineLaws.{line_count, line_holds, line_fails, IsWhole, walks_all}

pub items_back : (xs : List Content) → items_in (contents xs) ≡ xs
items_back [] = refl
items_back (x ∷ xs) = ap (λ ys. x ∷ ys) (items_back xs)

-- ---- folds are walks

abbrev quantified_from : Quantifier → Bool → List Content → Option Content
quantified_from op p xs = fold_from (instance op) (quantified op) p xs >>= λ b. Some (values.bool b)

forall_by : (p : Bool) (xs : List Content) (o : Option Bool) → ((q : Bool) → quantified_from quantifier.Forall q xs ≡ walk_from Forall (values.bool q) xs) → ((o >>= λ a. fold_from (instance quantifier.Forall) (quantified quantifier.Forall) (p && a) xs) >>= λ b. Some (values.bool b)) ≡ option_and_then (λ b. walk_from Forall b xs) (option_and_then (joined Forall (values.bool p)) o)
forall_by p xs None h = refl
forall_by p xs (Some a) h = h (p && a)

forall_walk : (p : Bool) (xs : List Content) → quantified_from quantifier.Forall p xs ≡ walk_from Forall (values.bool p) xs
unfolding fold_from instance quantified walk_from
forall_walk p [] = refl
forall_walk p (x ∷ xs) = forall_by p xs (truth_or true x) (λ q. forall_walk q xs)

exists_by : (p : Bool) (xs : List Content) (o : Option Bool) → ((q : Bool) → quantified_from quantifier.Exists q xs ≡ walk_from Exists (values.bool q) xs) → ((o >>= λ a. fold_from (instance quantifier.Exists) (quantified quantifier.Exists) (p || a) xs) >>= λ b. Some (values.bool b)) ≡ option_and_then (λ b. walk_from Exists b xs) (option_and_then (joined Exists (values.bool p)) o)
exists_by p xs None h = refl
exists_by p xs (Some a) h = h (p || a)

exists_walk : (p : Bool) (xs : List Content) → quantified_from quantifier.Exists p xs ≡ walk_from Exists (values.bool p) xs
unfolding fold_from instance quantified walk_from
exists_walk p [] = refl
exists_walk p (x ∷ xs) = exists_by p xs (truth_or false x) (λ q. exists_walk q xs)

xorall_by : (p : Bool) (xs : List Content) (o : Option Bool) → ((q : Bool) → quantified_from quantifier.Xorall q xs ≡ walk_from Xorall (values.bool q) xs) → ((o >>= λ a. fold_from (instance quantifier.Xorall) (quantified quantifier.Xorall) (not (same p a)) xs) >>= λ b. Some (values.bool b)) ≡ option_and_then (λ b. walk_from Xorall b xs) (option_and_then (joined Xorall (values.bool p)) o)
xorall_by p xs None h = refl
xorall_by p xs (Some a) h = h (not (same p a))

xorall_walk : (p : Bool) (xs : List Content) → quantified_from quantifier.Xorall p xs ≡ walk_from Xorall (values.bool p) xs
unfolding fold_from instance quantified walk_from
xorall_walk p [] = refl
xorall_walk p (x ∷ xs) = xorall_by p xs (as_bool x) (λ q. xorall_walk q xs)

abbrev counted_from : ℕ → List Content → Option Content
counted_from n xs = fold_from (truth_or false) counted n xs >>= λ n. Some (values.int (pos n))

count_step : (n : ℕ) (b : Bool) → pos (counted n b) ≡ (if b then pos n +ℤ pos 1 else pos n)
count_step n true = omega (arith, ints)
count_step n false = refl

count_by : (n : ℕ) (xs : List Content) (o : Option Bool) → ((m : ℕ) → counted_from m xs ≡ walk_from Count (values.int (pos m)) xs) → ((o >>= λ a. fold_from (truth_or false) counted (counted n a) xs) >>= λ n. Some (values.int (pos n))) ≡ option_and_then (λ b. walk_from Count b xs) (option_and_then (joined Count (values.int (pos n))) o)
count_by n xs None h = refl
count_by n xs (Some a) h = h (counted n a) ∙ ap (λ i. walk_from Count (values.int i) xs) (count_step n a)

count_walk : (n : ℕ) (xs : List Content) → counted_from n xs ≡ walk_from Count (values.int (pos n)) xs
unfolding fold_from walk_from
count_walk n [] = refl
count_walk n (x ∷ xs) = count_by n xs (truth_or false x) (λ m. count_walk m xs)

abbrev array_of : List Range → List Content → Option Content
array_of ix xs = Some (values.array ix (contents xs))

quantified_on : (op : Quantifier) (ix : List Range) (xs : List Content) → scalar_value (row.Quantified op) (array_of ix xs ∷ []) ≡ quantified_from op (quantifier_start op) xs
unfolding scalar_value items_at at as_items
quantified_on op ix xs = ap (quantified_from op (quantifier_start op)) (items_back xs)

quantified_walks : (op : Quantifier) (ix : List Range) (xs : List Content) → scalar_value (row.Quantified op) (array_of ix xs ∷ []) ≡ walk_from (walk_of op) (start_of (walk_of op)) xs
quantified_walks quantifier.Forall ix xs = quantified_on quantifier.Forall ix xs ∙ forall_walk true xs
quantified_walks quantifier.Exists ix xs = quantified_on quantifier.Exists ix xs ∙ exists_walk false xs
quantified_walks quantifier.Xorall ix xs = quantified_on quantifier.Xorall ix xs ∙ xorall_walk false xs

count_on : (ix : List Range) (xs : List Content) → scalar_value row.Count (array_of ix xs ∷ []) ≡ counted_from 0 xs
unfolding scalar_value items_at at as_items
count_on ix xs = ap (counted_from 0) (items_back xs)

count_walks : (ix : List Range) (xs : List Content) → scalar_value row.Count (array_of ix xs ∷ []) ≡ walk_from Count (start_of Count) xs
count_walks ix xs = count_on ix xs ∙ count_walk 0 xs

no_array : (op : Quantifier) → truth_of (scalar_value (row.Quantified op) (None ∷ [])) ≡ Some (values.bool false)
unfolding scalar_value items_at at
no_array op = refl

no_count : scalar_value row.Count (None ∷ []) ≡ None
unfolding scalar_value items_at at
no_count = refl

-- ---- the array's own definedness

truth_value : (o : Option ℤ) (b : Bool) → terms.is_one o ≡ b → truth_of (option_map (λ n. content_by base.Bool n []) o) ≡ Some (values.bool b)
truth_value None b h = ap (λ p. Some (values.bool p)) h
truth_value (Some n) b h = ap (λ p. Some (values.bool p)) h

pub true_value : (o : Option ℤ) → terms.is_one o ≡ true → option_map (λ n. content_by base.Bool n []) o ≡ Some (values.bool true)
true_value None h = absurd (cc)
true_value (Some n) h = ap (λ p. Some (values.bool p)) h

pub false_and : (v : Option Content) → truth_of (scalar_value (row.Logic connective.And) (Some (values.bool false) ∷ v ∷ [])) ≡ Some (values.bool false)
unfolding scalar_value bool_at at as_bool connected
false_and None = refl
false_and (Some (values.bool q)) = refl
false_and (Some x) = refl

and_false : (r : Reading) (d : ℕ) (all both : Symbol) (u v : State) → IsGiven r.mode → is_true (r.term d) ≡ false → Out (held r.mode (truth_of (row_value r (row.Logic connective.And) (truth_symbol d ∷ all ∷ [])))) u ≡ Out (symbol_seen r both) v → symbol_value r.term both ≡ Some (values.bool false)
and_false r d all both u v g h e =
    gives r (truth_of (row_value r (row.Logic connective.And) (truth_symbol d ∷ all ∷ []))) both u v g e
    ∙ ap (λ a. truth_of (scalar_value (row.Logic connective.And) (a ∷ argument r all ∷ []))) (held_given r.mode (truth_of (value_by base.Bool (r.term d))) g ∙ truth_value (as_number (r.term d)) false h)
    ∙ false_and (argument r all)

and_true : (p : Bool) → connected connective.And true p ≡ p
unfolding connected
and_true p = refl

-- ---- quantifiers

abbrev value_is : List Range → Option (List Content) → Option Content
value_is ix o = option_map (λ xs. values.array ix (contents xs)) o

truth_sort : (op : Quantifier) (x : Content) → HasSort (walk_of op) x → truth_of (Some x) ≡ Some x
truth_sort quantifier.Forall (values.bool p) s = refl
truth_sort quantifier.Forall _ s = absurd s
truth_sort quantifier.Exists (values.bool p) s = refl
truth_sort quantifier.Exists _ s = absurd s
truth_sort quantifier.Xorall (values.bool p) s = refl
truth_sort quantifier.Xorall _ s = absurd s

and_whole : (op : Quantifier) (x : Content) (v w : Option Content) → HasSort (walk_of op) x → v ≡ Some x → ((p : Bool) → v ≡ Some (values.bool p) → w ≡ Some (values.bool (connected connective.And true p))) → w ≡ Some x
and_whole quantifier.Forall (values.bool p) v w s h k = k p h ∙ ap (λ b. Some (values.bool b)) (and_true p)
and_whole quantifier.Forall _ v w s h k = absurd s
and_whole quantifier.Exists (values.bool p) v w s h k = k p h ∙ ap (λ b. Some (values.bool b)) (and_true p)
and_whole quantifier.Exists _ v w s h k = absurd s
and_whole quantifier.Xorall (values.bool p) v w s h k = k p h ∙ ap (λ b. Some (values.bool b)) (and_true p)
and_whole quantifier.Xorall _ v w s h k = absurd s

start_is : (op : Quantifier) → Some (values.bool (quantifier_start op)) ≡ Some (start_of (walk_of op))
start_is quantifier.Forall = refl
start_is quantifier.Exists = refl
start_is quantifier.Xorall = refl

-- what is known when all elements are walked
pub record IsEnded (r : Reading) (found m1 m2 : Run) (w : Walk) (k d n : ℕ) (first all : Symbol) : Type 0 where
  pub line : IsLineOf found k d n
  pub reads : Reads r found
  pub first_is : IsGiven r.mode → symbol_value r.term first ≡ Some (start_of w)
  pub walks : Walks r m1 m2 w k n first all

whole_at : (r : Reading) (found m1 m2 : Run) (w : Walk) (k d n : ℕ) (first all : Symbol) (xs : List Content) → IsEnded r found m1 m2 w k d n first all → IsGiven r.mode → r.line k ≡ Some xs → IsWhole w xs (symbol_value r.term all)
whole_at r found m1 m2 w k d n first all xs e g l = walks_all w xs n (symbol_value r.term all) (line_count r found k d n xs e.line e.reads l) (e.walks.so_far g xs l (e.first_is g))

pub first_truth : (r : Reading) (op : Quantifier) (b : Bool) (first : Symbol) (u v : State) → b ≡ quantifier_start op → Out (held r.mode (Some (values.bool b))) u ≡ Out (symbol_seen r first) v → IsGiven r.mode → symbol_value r.term first ≡ Some (start_of (walk_of op))
first_truth r op b first u v h e g = gives r (Some (values.bool b)) first u v g e ∙ ap (λ p. Some (values.bool p)) h ∙ start_is op

pub quantified_held : (r : Reading) (found m1 m2 : Run) (op : Quantifier) (ix : List Range) (k d n : ℕ) (first all both : Symbol) (u v : State) → IsEnded r found m1 m2 (walk_of op) k d n first all → Out (held r.mode (truth_of (row_value r (row.Logic connective.And) (truth_symbol d ∷ all ∷ [])))) u ≡ Out (symbol_seen r both) v → held r.mode (truth_of (array_row r (row.Quantified op) ix k)) ≡ symbol_seen r both
quantified_held r found m1 m2 op ix k d n first all both u v e h = held_by r.mode (truth_of (array_row r (row.Quantified op) ix k)) (symbol_value r.term both) (λ g. ap (λ a. truth_of (scalar_value (row.Quantified op) (a ∷ []))) (held_given r.mode (value_is ix (r.line k)) g) ∙ by g (r.line k) refl)
  where
    by : IsGiven r.mode → (o : Option (List Content)) → r.line k ≡ o → truth_of (scalar_value (row.Quantified op) (value_is ix o ∷ [])) ≡ symbol_value r.term both
    by g None l = no_array op ∙ sym (and_false r d all both u v g (line_fails r found k d n e.line e.reads l) h)
    by g (Some xs) l =
        let w = whole_at r found m1 m2 (walk_of op) k d n first all xs e g l in
        ap truth_of (quantified_walks op ix xs ∙ w.walks) ∙ truth_sort op w.value w.sort
        ∙ sym (and_whole op w.value (symbol_value r.term all) (symbol_value r.term both) w.sort w.is (λ p q. logic_gives r connective.And (truth_symbol d) all both true p u v g (true_value (as_number (r.term d)) (line_holds r found k d n xs e.line e.reads l)) q h))

-- ---- counts

pub guarded_by : (b : Bool) (v : Option Content) → b ≡ true → (if b then v else None) ≡ v
guarded_by true v h = refl
guarded_by false v h = absurd (cc)

pub guarded_none : (b : Bool) (v : Option Content) → b ≡ false → (if b then v else None) ≡ None
guarded_none false v h = refl
guarded_none true v h = absurd (cc)

pub int_argument : (b : Base) (o : Option ℕ) (v : Option Content) → b ≡ base.Int → as_argument b o v ≡ v
int_argument b o v h = ap (λ c. as_argument c o v) h

pub count_held : (r : Reading) (found m1 m2 : Run) (ix : List Range) (k d n : ℕ) (first all s : Symbol) (u v : State) → IsEnded r found m1 m2 Count k d n first all → all.base ≡ base.Int → Out (held r.mode (as_argument all.base all.occurs (guarded_value r d all))) u ≡ Out (symbol_seen r s) v → held r.mode (array_row r row.Count ix k) ≡ symbol_seen r s
count_held r found m1 m2 ix k d n first all s u v e i h = held_by r.mode (array_row r row.Count ix k) (symbol_value r.term s) (λ g. ap (λ a. scalar_value row.Count (a ∷ [])) (held_given r.mode (value_is ix (r.line k)) g) ∙ by g (r.line k) refl)
  where
    made : IsGiven r.mode → symbol_value r.term s ≡ guarded_value r d all
    made g = gives r (as_argument all.base all.occurs (guarded_value r d all)) s u v g h ∙ int_argument all.base all.occurs (guarded_value r d all) i

    by : IsGiven r.mode → (o : Option (List Content)) → r.line k ≡ o → scalar_value row.Count (value_is ix o ∷ []) ≡ symbol_value r.term s
    by g None l = no_count ∙ sym (made g ∙ guarded_none (is_true (r.term d)) (symbol_value r.term all) (line_fails r found k d n e.line e.reads l))
    by g (Some xs) l =
        let w = whole_at r found m1 m2 Count k d n first all xs e g l in
        count_walks ix xs ∙ w.walks ∙ sym (made g ∙ guarded_by (is_true (r.term d)) (symbol_value r.term all) (line_holds r found k d n xs e.line e.reads l) ∙ w.is)

pub first_number : (r : Reading) (first : Symbol) (u v : State) → Out (held r.mode (Some (values.int (pos 0)))) u ≡ Out (symbol_seen r first) v → IsGiven r.mode → symbol_value r.term first ≡ Some (start_of Count)
first_number r first u v e g = gives r (Some (values.int (pos 0))) first u v g e
