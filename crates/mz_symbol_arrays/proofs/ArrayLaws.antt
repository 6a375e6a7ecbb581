-- Lines of the values of symbols.
use Rattle.std.proofs.Common.{◌≡◌, ◌∙◌, ℕ, zero, suc, ◌+◌, ◌*◌, ◌<◌, ◌≤◌, Bool, true, false, ◌&&◌, List, [], ◌∷◌, ◌++◌, length, map, Option, Some, None, slice_get, refl, sym, ap, subst, arith, if◌then◌else◌}
use Rattle.std.specs.Option.{option_map, option_and_then}
use Rattle.mz_value.specs.Contents.{Content}
use Rattle.mz_arena.specs.Values.{Term, bit, is_true}
use Rattle.mz_meaning.specs.Cells.{Bare}
use Rattle.mz_symbol.specs.declared.types.Symbol.{Symbol}
use Rattle.mz_symbol.specs.Symbols.{symbol_value, all_there, elements_value, AreItems, AreWhole}
use Rattle.mz_symbol.specs.Runs.{Run, ReadsNodes}
use Rattle.mz_symbol.specs.Readings.{Reading, Reads, line_in, state_of}
use Rattle.mz_symbol.specs.Makes.{GoesOnBy}
use Rattle.mz_symbol_rows.proofs.GoingOn.{goes_both, goes_most}
use Rattle.mz_symbol_arrays.specs.ArrayValues.{argued, all_argued}
use Rattle.mz_symbol_arrays.specs.StepsArrays.{IsSame, IsItemFor, AreSame, IsGone, AreItemsFor, MakesItems, OneMore, both_true}

-- ---- one element more

same_more : (t : ℕ → Term) (ss xs : List Symbol) (s x : Symbol) → AreSame t ss xs → slice_get ss (length xs) ≡ Some s → IsSame t s x → AreSame t ss (xs ++ x ∷ [])
same_more t [] [] s x a e h = absurd (cc)
same_more t (z ∷ ss) [] s x a e h = let same : z ≡ s = cc in (subst (λ y. IsSame t y x) (sym same) h, tt)
same_more t [] (y ∷ xs) s x a e h = absurd a
same_more t (z ∷ ss) (y ∷ xs) s x a e h = (a.0, same_more t ss xs s x a.1 e h)

length_more : (xs : List Symbol) (x : Symbol) → length (xs ++ x ∷ []) ≡ suc (length xs)
length_more [] x = refl
length_more (y ∷ xs) x = ap suc (length_more xs x)

pub one_longer : (xs ys : List Symbol) (x : Symbol) → ys ≡ xs ++ x ∷ [] → length ys ≡ length xs + 1
one_longer xs ys x l = let more : length ys ≡ suc (length xs) = ap length l ∙ length_more xs x in omega (arith, more)

never_false : (u : Term) → u ≡ bit true → is_true u ≡ false → true ≡ false
never_false u e h = ap is_true (sym e) ∙ h

never_true : (u : Term) → u ≡ bit false → is_true u ≡ true → false ≡ true
never_true u e h = ap is_true (sym e) ∙ h

items_more : (t : ℕ → Term) (ss xs ys : List Symbol) (d e own i : ℕ) (s x : Symbol) → AreItemsFor t ss xs d → length xs ≡ i → slice_get ss i ≡ Some s → IsItemFor t s x own → t e ≡ both_true (is_true (t d)) (is_true (t own)) → ys ≡ xs ++ x ∷ [] → AreItemsFor t ss ys e
items_more t ss xs ys d e own i s x a n at b q l = by (is_true (t d)) (is_true (t own)) refl refl q
  where
    by : (p w : Bool) → is_true (t d) ≡ p → is_true (t own) ≡ w → t e ≡ both_true p w → AreItemsFor t ss ys e
    by true true pd po f = record {
      there = λ h. subst (AreSame t ss) (sym l) (same_more t ss xs s x (a.there pd) (ap (slice_get ss) n ∙ at) (b.there po));
      gone = λ h. let clash : true ≡ false = never_false (t e) f h in absurd (cc);
    }
    by true false pd po f = record {
      there = λ h. let clash : false ≡ true = never_true (t e) f h in absurd (cc);
      gone = λ h. record { place = i; symbol = s; at = at; gone = b.gone po };
    }
    by false w pd po f = record {
      there = λ h. let clash : false ≡ true = never_true (t e) f h in absurd (cc);
      gone = λ h. a.gone pd;
    }

pub makes_none : (r : Reading) (old new : Run) (ss xs : List Symbol) (d : ℕ) → state_of r old ≡ state_of r new → bit true ≡ r.term d → xs ≡ [] → MakesItems r old new ss xs d
makes_none r old new ss xs d e f n = record {
  same = e;
  items = record {
    there = λ h. subst (AreSame r.term ss) (sym n) tt;
    gone = λ h. let clash : true ≡ false = never_false (r.term d) (sym f) h in absurd (cc);
  };
}

pub makes_more : (r : Reading) (old mid new : Run) (ss xs ys : List Symbol) (d e i : ℕ) → length xs ≡ i → MakesItems r old mid ss xs d → OneMore r mid new ss i xs ys d e → MakesItems r old new ss ys e
makes_more r old mid new ss xs ys d e i n h m = record {
  same = h.same ∙ m.same;
  items = items_more r.term ss xs ys d e m.own i m.source m.symbol h.items n m.at m.item m.both m.list;
}

-- ---- all elements

abbrev over : (ℕ → Term) → Run → Reading
over t s = record { mode = Bare; term = t; line = λ k. line_in t (slice_get s.lines k) }

over_reads : (t : ℕ → Term) (s : Run) → ReadsNodes t s.arena → Reads (over t s) s
over_reads t s h = record { nodes = h; choices = refl; lines = λ k l e. ap (line_in t) e }

same_items : (t : ℕ → Term) (ss xs : List Symbol) → AreSame t ss xs → AreItems t xs
same_items t ss [] a = tt
same_items t [] (x ∷ xs) a = absurd a
same_items t (s ∷ ss) (x ∷ xs) a = (a.0.item, same_items t ss xs a.1)

pub items_whole : (old new : Run) (ss xs : List Symbol) (d : ℕ) → ((r : Reading) → Reads r new → MakesItems r old new ss xs d) → (t : ℕ → Term) → ReadsNodes t new.arena → AreWhole t d xs
items_whole old new ss xs d f t h p = same_items t ss xs ((f (over t new) (over_reads t new h)).items.there p)

same_values : (t : ℕ → Term) (ss xs : List Symbol) → AreSame t ss xs → length xs ≡ length ss → map (symbol_value t) xs ≡ map (argued t) ss
same_values t [] [] a e = refl
same_values t (s ∷ ss) [] a e = absurd (omega (arith, e))
same_values t [] (x ∷ xs) a e = absurd a
same_values t (s ∷ ss) (x ∷ xs) a e =
    ap (λ v. v ∷ map (symbol_value t) xs) a.0.value ∙ ap (λ vs. argued t s ∷ vs) (same_values t ss xs a.1 (omega (arith, e)))

gone_there : (t : ℕ → Term) (ss : List Symbol) (i : ℕ) (s : Symbol) → slice_get ss i ≡ Some s → argued t s ≡ None → all_argued t ss ≡ None
gone_there t [] zero s e g = absurd (cc)
gone_there t [] (suc i) s e g = absurd (cc)
gone_there t (z ∷ ss) zero s e g =
    let same : z ≡ s = cc in
    ap (λ v. all_there (v ∷ map (argued t) ss)) (ap (argued t) same ∙ g)
gone_there t (z ∷ ss) (suc i) s e g = by (argued t z) (gone_there t ss i s e g)
  where
    by : (v : Option Content) → all_there (map (argued t) ss) ≡ None → all_there (v ∷ map (argued t) ss) ≡ None
    by None h = refl
    by (Some x) h = ap (option_map (λ ys. x ∷ ys)) h

if_true : (o : Option (List Content)) → o ≡ option_and_then (λ xs. if true then Some xs else None) o
if_true None = refl
if_true (Some xs) = refl

if_false : (o : Option (List Content)) → None ≡ option_and_then (λ xs. if false then Some xs else None) o
if_false None = refl
if_false (Some xs) = refl

pub items_line : (t : ℕ → Term) (ss xs : List Symbol) (d : ℕ) → AreItemsFor t ss xs d → length xs ≡ length ss → all_argued t ss ≡ elements_value t d xs
items_line t ss xs d a n = by (is_true (t d)) refl
  where
    by : (p : Bool) → is_true (t d) ≡ p → all_argued t ss ≡ option_and_then (λ vs. if p then Some vs else None) (all_there (map (symbol_value t) xs))
    by true h = sym (ap all_there (same_values t ss xs (a.there h) n)) ∙ if_true (all_there (map (symbol_value t) xs))
    by false h =
        let g : IsGone t ss = a.gone h in
        gone_there t ss g.place g.symbol g.at g.gone ∙ if_false (all_there (map (symbol_value t) xs))

-- ---- what they cost

pub goes_start : (old new : Run) → GoesOnBy 0 old new → GoesOnBy (34 * 0) old new
goes_start old new f = f

pub goes_more : (i n : ℕ) (old mid new : Run) → i < n → GoesOnBy (34 * i) old mid → GoesOnBy 34 mid new → GoesOnBy (34 * n) old new
goes_more i n old mid new h f g = goes_most (34 * i + 34) (34 * n) old new (omega (arith, h)) (goes_both (34 * i) 34 old mid new f g)

pub goes_same : (i n : ℕ) (old new : Run) → i ≡ n → GoesOnBy (34 * i) old new → GoesOnBy (34 * n) old new
goes_same i n old new h f = subst (λ m. GoesOnBy (34 * m) old new) h f

pub goes_line : (n : ℕ) (old mid new : Run) (xs : List Symbol) → length xs ≡ n → GoesOnBy (34 * n) old mid → GoesOnBy (16 * length xs) mid new → GoesOnBy (50 * n) old new
goes_line n old mid new xs e f g = goes_most (34 * n + 16 * length xs) (50 * n) old new (omega (arith, e)) (goes_both (34 * n) (16 * length xs) old mid new f g)
