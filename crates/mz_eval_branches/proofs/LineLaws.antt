-- Branches as lines under a reading.
use Rattle.std.proofs.Common.{◌≡◌, ◌∙◌, ℕ, ◌+◌, ◌*◌, Bool, true, false, ◌&&◌, List, [], ◌∷◌, length, Option, None, refl, sym, ap, subst, arith, if◌then◌else◌}
use Rattle.std.specs.Option.{option_map}
use Rattle.std.specs.Ordering.{int_eq}
use Rattle.std.proofs.lemmas.Bool.Decides.{Decides-int_eq}
use Rattle.mz_value.specs.Ranges.{Range}
use Rattle.mz_value.specs.Contents.{Content, contents}
use Rattle.mz_value.specs.Contents as values
use Rattle.mz_operations.specs.Sets.{same_set}
use Rattle.mz_arena.specs.Values.{is_true}
use Rattle.mz_meaning.specs.Cells.{Mode, Blank, Given, held}
use Rattle.mz_symbol.specs.declared.types.Symbol.{Symbol}
use Rattle.mz_symbol.specs.Runs.{Run}
use Rattle.mz_symbol.specs.Readings.{Reading}
use Rattle.mz_symbol.specs.Makes.{GoesOnBy}
use Rattle.mz_symbol_rows.proofs.GoingOn.{goes_both, goes_most}
use Rattle.mz_symbol_access.specs.ChosenValues.{chosen_line}
use Rattle.mz_eval_cells.specs.declared.types.Known.{Known}
use Rattle.mz_eval_symbols.specs.Taken.{line_seen, ranges_in}
use Rattle.mz_eval_arrays.specs.StepsBranches.{one_value}
use Rattle.mz_eval_branches.proofs.NoValues.{held_none}

-- ---- index ranges

both_true : (a b : Bool) → a && b ≡ true → (a ≡ true) × (b ≡ true)
both_true true b h = (refl, h)
both_true false b h = absurd (cc)

pub ranges_equal : (xs ys : List Range) → same_set xs ys ≡ true → xs ≡ ys
unfolding same_set
ranges_equal [] [] h = refl
ranges_equal [] (y ∷ ys) h = absurd (cc)
ranges_equal (x ∷ xs) [] h = absurd (cc)
ranges_equal (x ∷ xs) (y ∷ ys) h =
    let first = both_true (int_eq x.0 y.0 && int_eq x.1 y.1) (same_set xs ys) h in
    let ends = both_true (int_eq x.0 y.0) (int_eq x.1 y.1) first.0 in
    ap (λ n. (n, x.1) ∷ xs) ((Decides-int_eq x.0 y.0).0 ends.0) ∙ ap (λ n. (y.0, n) ∷ xs) ((Decides-int_eq x.1 y.1).0 ends.1) ∙ ap (λ cs. y ∷ cs) (ranges_equal xs ys first.1)

-- ---- one of two arrays

abbrev array_in : List Range → Option (List Content) → Option Content
array_in ix o = option_map (λ xs. values.array ix (contents xs)) o

chosen_by : (m : Mode) (b : Bool) (ix : List Range) (u v : Option (List Content)) → held m (if b then held m (array_in ix u) else held m (array_in ix v)) ≡ held m (array_in ix (if b then u else v))
chosen_by (Blank n) b ix u v = refl
chosen_by (Given f) true ix u v = refl
chosen_by (Given f) false ix u v = refl

pub one_told : (r : Reading) (like : Known) (id p q k : ℕ) (x y : Option Content) → x ≡ line_seen like r p → y ≡ line_seen like r q → chosen_line r id p q ≡ r.line k → one_value r id x y ≡ line_seen like r k
one_told r like id p q k x y f g e =
    let b = is_true (r.term id) in
    ap (λ v. held r.mode (if b then v else y)) f
    ∙ ap (λ v. held r.mode (if b then line_seen like r p else v)) g
    ∙ chosen_by r.mode b (ranges_in like) (r.line p) (r.line q)
    ∙ ap (λ o. held r.mode (array_in (ranges_in like) o)) e

abbrev pub held_line : Reading → Known → Option (List Content) → Option Content
held_line r like o = held r.mode (array_in (ranges_in like) o)

-- a line that isn't defined
pub blank_told : (r : Reading) (like : Known) (k : ℕ) → None ≡ r.line k → None ≡ line_seen like r k
blank_told r like k e = sym (held_none r.mode) ∙ ap (held_line r like) e

-- ---- what it costs

pub goes_blank : (n : ℕ) (old mid new : Run) (ss : List Symbol) → length ss ≡ n → GoesOnBy 0 old mid → GoesOnBy (16 * length ss) mid new → GoesOnBy (20 * n) old new
goes_blank n old mid new ss e f g = goes_most (0 + 16 * length ss) (20 * n) old new (omega (arith, e)) (goes_both 0 (16 * length ss) old mid new f g)

pub goes_counted : (n m : ℕ) (old new : Run) → n ≡ m → GoesOnBy (20 * n) old new → GoesOnBy (20 * m) old new
goes_counted n m old new e g = subst (λ k. GoesOnBy (20 * k) old new) e g

pub goes_chosen_alone : (n m : ℕ) (old new : Run) → n ≡ m → GoesOnBy (36 * n + 16) old new → GoesOnBy (52 * m + 16) old new
goes_chosen_alone n m old new e f = goes_most (36 * n + 16) (52 * m + 16) old new (omega (arith, e)) f

pub goes_chosen : (n m k : ℕ) (old mid new : Run) → n ≡ m → k ≡ n → GoesOnBy (36 * n + 16) old mid → GoesOnBy (16 * k) mid new → GoesOnBy (52 * m + 16) old new
goes_chosen n m k old mid new e i f g = goes_most (36 * n + 16 + 16 * k) (52 * m + 16) old new (omega (arith, e, i)) (goes_both (36 * n + 16) (16 * k) old mid new f g)

pub goes_blank_alone : (n : ℕ) (old new : Run) → GoesOnBy (20 * n) old new → GoesOnBy (72 * n + 16) old new
goes_blank_alone n old new f = goes_most (20 * n) (72 * n + 16) old new (omega arith) f

pub goes_blank_chosen : (n : ℕ) (old mid new : Run) → GoesOnBy (20 * n) old mid → GoesOnBy (52 * n + 16) mid new → GoesOnBy (72 * n + 16) old new
goes_blank_chosen n old mid new f g = goes_most (20 * n + (52 * n + 16)) (72 * n + 16) old new (omega arith) (goes_both (20 * n) (52 * n + 16) old mid new f g)

pub goes_both_there : (n m : ℕ) (old new : Run) → n ≡ m → GoesOnBy (52 * n + 16) old new → GoesOnBy (88 * m + 16) old new
goes_both_there n m old new e f = goes_most (52 * n + 16) (88 * m + 16) old new (omega (arith, e)) f

pub goes_one_there : (n m : ℕ) (old new : Run) → n ≡ m → GoesOnBy (72 * n + 16) old new → GoesOnBy (88 * m + 16) old new
goes_one_there n m old new e f = goes_most (72 * n + 16) (88 * m + 16) old new (omega (arith, e)) f
