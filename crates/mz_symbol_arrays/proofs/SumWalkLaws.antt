-- Folds over the elements of a var array.
use Rattle.std.proofs.Common.{◌≡◌, ◌∙◌, ℕ, suc, ℤ, pos, ◌+◌, ◌*◌, ◌<◌, Bool, true, false, List, [], ◌∷◌, drop, Option, Some, None, ◌⊎◌, inl, inr, slice_get, refl, sym, ap, subst, arith, if◌then◌else◌}
use Rattle.std.specs.Option.{option_map, option_and_then}
use Rattle.mz_value.specs.Contents.{Content}
use Rattle.mz_value.specs.Contents as values
use Rattle.mz_core.specs.declared.types.Base.TheVariants as base
use Rattle.mz_operations.specs.declared.row.Arith.{Arith}
use Rattle.mz_operations.specs.declared.row.Fold.{Fold}
use Rattle.mz_operations.specs.declared.row.Fold.TheVariants.{Sum, SumOfOptions, Product}
use Rattle.mz_operations.specs.declared.row.ScalarRow.TheVariants as row
use Rattle.mz_operations.specs.Views.{as_int}
use Rattle.mz_operations.specs.Arguments.{at, int_at}
use Rattle.mz_operations.specs.Numbers.{computed, fold_start}
use Rattle.mz_operations.specs.Arrays.{fold_from, summand}
use Rattle.mz_operations.specs.Values.{scalar_value}
use Rattle.mz_arena.specs.Values.{Term, as_number, is_true}
use Rattle.mz_symbol.specs.Symbols.{content_by, value_by, value_at, symbol_value}
use Rattle.mz_meaning.specs.Exact.{joined}
use Rattle.mz_meaning.specs.Runs.{State, Out}
use Rattle.mz_meaning.specs.Cells.{held}
use Rattle.mz_symbol.specs.declared.types.Symbol.{Symbol}
use Rattle.mz_symbol.specs.Runs.{Run}
use Rattle.mz_symbol.specs.Readings.{Reading, Reads, IsGiven, symbol_seen, state_of}
use Rattle.mz_symbol.specs.Lines.{IsElement}
use Rattle.mz_symbol.specs.Makes.{GoesOnBy}
use Rattle.mz_symbol.proofs.ConstantLaws.{out_state}
use Rattle.mz_symbol_rows.specs.RowValues.{argument, row_value}
use Rattle.mz_symbol_rows.proofs.GoingOn.{goes_both, goes_most}
use Rattle.mz_symbol_rows.specs.OptionValues.{counted_as}
use Rattle.mz_symbol_arrays.proofs.Given.{argument_given, gives}
use Rattle.mz_symbol_arrays.proofs.LineLaws.{element_there, drop_at}
use Rattle.mz_symbol_arrays.specs.StepsSums.{arith_of, fold_on, CountsAs, Counts, Joins, Follows, Advances, HasFolded, Folds}

-- ---- an element as an integer

pub record HasInt (x : Content) : Type 0 where
  pub number : ℤ
  pub is : x ≡ values.int number

int_there : (t : Term) (x : Content) → value_by base.Int t ≡ Some x → HasInt x
int_there t x h = by (as_number t) h
  where
    by : (o : Option ℤ) → option_map (λ n. content_by base.Int n []) o ≡ Some x → HasInt x
    by None q = absurd (cc)
    by (Some n) q = record { number = n; is = cc }

option_there : (p : Bool) (t : Term) (x : Content) → (if p then value_by base.Int t else Some values.absent) ≡ Some x → (x ≡ values.absent) ⊎ HasInt x
option_there true t x h = inr (int_there t x h)
option_there false t x h = inl (cc)

pub plain_int : (r : Reading) (s : Symbol) (x : Content) → s.base ≡ base.Int → s.occurs ≡ None → symbol_value r.term s ≡ Some x → HasInt x
plain_int r s x e o h = int_there (r.term s.term) x (ap (λ c. value_by c (r.term s.term)) (sym e) ∙ ap (λ q. value_at r.term s.base q s.term) (sym o) ∙ h)

pub either_int : (r : Reading) (s : Symbol) (x : Content) → s.base ≡ base.Int → symbol_value r.term s ≡ Some x → (x ≡ values.absent) ⊎ HasInt x
either_int r s x e h = by s.occurs (ap (λ c. value_at r.term c s.occurs s.term) (sym e) ∙ h)
  where
    by : (o : Option ℕ) → value_at r.term base.Int o s.term ≡ Some x → (x ≡ values.absent) ⊎ HasInt x
    by None q = inr (int_there (r.term s.term) x q)
    by (Some o) q = option_there (is_true (r.term o)) (r.term s.term) x q

int_counts : (op : Fold) (n : ℤ) → summand op (values.int n) ≡ Some n
unfolding summand as_int
int_counts Sum n = refl
int_counts SumOfOptions n = refl
int_counts Product n = refl

absent_counts : summand SumOfOptions values.absent ≡ Some (pos 0)
unfolding summand
absent_counts = refl

pub plain_counts : (r : Reading) (s : Run) (op : Fold) (y : Symbol) → y.base ≡ base.Int → y.occurs ≡ None → Counts r s s op y y
plain_counts r s op y e o = record {
  same = refl;
  told = λ g x h.
      let t = plain_int r y x e o h in
      record { number = t.number; counts = ap (summand op) t.is ∙ int_counts op t.number; is = h ∙ ap (λ c. Some c) t.is };
}

option_counts_as : (x : Content) (v : Option Content) → (x ≡ values.absent) ⊎ HasInt x → v ≡ counted_as (Some x) → CountsAs SumOfOptions x v
option_counts_as x v (inl a) h = record { number = pos 0; counts = ap (summand SumOfOptions) a ∙ absent_counts; is = h ∙ ap (option_map (λ n. values.int n)) (ap (summand SumOfOptions) a ∙ absent_counts) }
option_counts_as x v (inr t) h = record { number = t.number; counts = ap (summand SumOfOptions) t.is ∙ int_counts SumOfOptions t.number; is = h ∙ ap (option_map (λ n. values.int n)) (ap (summand SumOfOptions) t.is ∙ int_counts SumOfOptions t.number) }

pub option_counts : (r : Reading) (old new : Run) (y s : Symbol) → y.base ≡ base.Int → Out (held r.mode (counted_as (argument r y))) (state_of r old) ≡ Out (symbol_seen r s) (state_of r new) → Counts r old new SumOfOptions y s
option_counts r old new y s e k = record {
  same = out_state k;
  told = λ g x h. option_counts_as x (symbol_value r.term s) (either_int r y x e h) (gives r (counted_as (argument r y)) s (state_of r old) (state_of r new) g k ∙ ap counted_as (argument_given r y x g h));
}

-- ---- with one more

joins_on : (op : Fold) (n m : ℤ) → scalar_value (row.Arith (arith_of op)) (Some (values.int n) ∷ Some (values.int m) ∷ []) ≡ Some (values.int (joined op n m))
unfolding scalar_value int_at at as_int computed
joins_on Sum n m = refl
joins_on SumOfOptions n m = refl
joins_on Product n m = refl

both_given : (r : Reading) (a : Arith) (acc y : Symbol) (n m : ℤ) → IsGiven r.mode → symbol_value r.term acc ≡ Some (values.int n) → symbol_value r.term y ≡ Some (values.int m) → row_value r (row.Arith a) (acc ∷ y ∷ []) ≡ scalar_value (row.Arith a) (Some (values.int n) ∷ Some (values.int m) ∷ [])
both_given r a acc y n m g u v =
    ap (λ x. scalar_value (row.Arith a) (x ∷ argument r y ∷ [])) (argument_given r acc (values.int n) g u)
    ∙ ap (λ x. scalar_value (row.Arith a) (Some (values.int n) ∷ x ∷ [])) (argument_given r y (values.int m) g v)

pub joins : (r : Reading) (old new : Run) (op : Fold) (a : Arith) (acc y s : Symbol) → a ≡ arith_of op → Out (held r.mode (row_value r (row.Arith a) (acc ∷ y ∷ []))) (state_of r old) ≡ Out (symbol_seen r s) (state_of r new) → Joins r old new op acc y s
joins r old new op a acc y s e k = record {
  same = out_state k;
  told = λ g n m u v.
      gives r (row_value r (row.Arith a) (acc ∷ y ∷ [])) s (state_of r old) (state_of r new) g k
      ∙ ap (λ b. row_value r (row.Arith b) (acc ∷ y ∷ [])) e
      ∙ both_given r (arith_of op) acc y n m g u v
      ∙ joins_on op n m;
}

pub advances : (r : Reading) (old mid new : Run) (op : Fold) (k i : ℕ) (acc item number s : Symbol) → IsElement old k i item → Reads r old → Counts r old mid op item number → Joins r mid new op acc number s → Advances r old new op k i acc s
advances r old mid new op k i acc item number s e h y j = record {
  same = y.same ∙ j.same;
  next = λ g xs l n va.
      let m = element_there r old k i item xs e h l in
      let t = y.told g m.value m.is in
      record { element = m.value; at = m.at; number = t.number; counts = t.counts; is = j.told g n t.number va t.is };
}

fold_next : (op : Fold) (n m : ℤ) (x : Content) (xs : List Content) → summand op x ≡ Some m → fold_on op n (x ∷ xs) ≡ fold_on op (joined op n m) xs
unfolding fold_from
fold_next op n m x xs h = ap (option_and_then (λ a. fold_from (summand op) (joined op) (joined op n a) xs)) h

folded_more : (op : Fold) (xs : List Content) (i : ℕ) (v u : Option Content) → (h : HasFolded op xs i v) → Follows op xs i h.number u → HasFolded op xs (suc i) u
folded_more op xs i v u h f = record {
  number = joined op h.number f.number;
  is = f.is;
  rest = h.rest ∙ ap (fold_on op h.number) (drop_at xs i f.element f.at) ∙ fold_next op h.number f.number f.element (drop (suc i) xs) f.counts;
}

pub folds_none : (r : Reading) (s : Run) (op : Fold) (k : ℕ) (first : Symbol) → Folds r s s op k 0 first first
folds_none r s op k first = record {
  same = refl;
  so_far = λ g xs l v. record { number = fold_start op; is = v; rest = refl };
}

pub folds_more : (r : Reading) (old mid new : Run) (op : Fold) (k i j : ℕ) (first acc s : Symbol) → j ≡ suc i → Folds r old mid op k i first acc → Advances r mid new op k i acc s → Folds r old new op k j first s
folds_more r old mid new op k i j first acc s e h a = subst (λ n. Folds r old new op k n first s) (sym e) (record {
  same = h.same ∙ a.same;
  so_far = λ g xs l v.
      let m = h.so_far g xs l v in
      folded_more op xs i (symbol_value r.term acc) (symbol_value r.term s) m (a.next g xs l m.number m.is);
})

-- what the steps so far cost, with one more
pub goes_more : (i n : ℕ) (old mid new : Run) → i < n → GoesOnBy (40 * i) old mid → GoesOnBy 40 mid new → GoesOnBy (40 * n) old new
goes_more i n old mid new h f g = goes_most (40 * i + 40) (40 * n) old new (omega (arith, h)) (goes_both (40 * i) 40 old mid new f g)

pub goes_same : (i n : ℕ) (old new : Run) → i ≡ n → GoesOnBy (40 * i) old new → GoesOnBy (40 * n) old new
goes_same i n old new h f = subst (λ m. GoesOnBy (40 * m) old new) h f
