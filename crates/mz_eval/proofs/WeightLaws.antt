-- How many elements cells have, and what weight pays for.
use Rattle.std.proofs.Common.{◌≡◌, ◌∙◌, ℕ, ◌+◌, ◌*◌, ◌<◌, ◌≤◌, Option, List, ◌∷◌, drop, length, get_or, refl, sym, ap, arith}
use Rattle.std.proofs.lemmas.List.{at_drop_more}
use Rattle.mz_meaning.specs.Calls.{all_lengths}
use Rattle.mz_meaning.specs.Cells.{length_of, or_zero}
use Rattle.mz_symbol.specs.Runs.{Run}
use Rattle.mz_symbol.specs.Readings.{Reading}
use Rattle.mz_symbol.specs.Makes.{Earns, GoesOn, GoesOnBy, earned, owed}
use Rattle.mz_eval_cells.specs.declared.types.Known.{Known}
use Rattle.mz_eval_cells.specs.declared.types.Known.TheVariants as known
use Rattle.mz_eval_cells.specs.Views.{all_seen, cell_of, seen}

same_length : (r : Reading) (k : Known) → length_of (cell_of k) ≡ length_of (seen r k)
same_length r known.Undefined = refl
same_length r (known.One i) = refl
same_length r (known.Array ix xs) = refl
same_length r (known.Var x) = refl
same_length r (known.Row ix xs) = refl
same_length r (known.Unshaped d) = refl

pub length_seen : (r : Reading) (k : Known) (o : Option ℕ) → o ≡ length_of (cell_of k) → or_zero o ≡ or_zero (length_of (seen r k))
length_seen r k o e = ap or_zero (e ∙ same_length r k)

pub earns_pays : (n : ℕ) (old mid new : Run) → Earns n old mid → GoesOnBy (64 * n) mid new → GoesOn old new
earns_pays n old mid new f g = record {
  back = λ r h. f.back r (g.back r h);
  paid = sums (owed old) (owed mid) (owed new) (earned old) (earned mid) (earned new) n f.paid g.paid;
}
  where
    sums : (a b c x y z n : ℕ) → b + (x + 64 * n) ≤ a + y → c + y ≤ b + z + 64 * n → c + x ≤ a + z + 0
    sums a b c x y z n p q = omega (arith, p, q)

pub goes_none : (n : ℕ) (s : Run) → GoesOnBy n s s
goes_none n s = record { back = λ r h. h; paid = none (owed s) (earned s) n }
  where
    none : (a x n : ℕ) → a + x ≤ a + x + n
    none a x n = omega arith

-- ---- the elements of several cells

pub lengths_next : (r : Reading) (cells : List Known) (i : ℕ) (k : Known) (n sum m : ℕ) → i < length cells → k ≡ get_or cells i k → m ≡ sum + or_zero (length_of (seen r k)) → all_lengths n (all_seen r cells) ≡ all_lengths sum (all_seen r (drop i cells)) → all_lengths n (all_seen r cells) ≡ all_lengths m (all_seen r (drop (i + 1) cells))
lengths_next r cells i k n sum m l e f w =
    w
    ∙ at_drop_more (λ ys. all_lengths sum (all_seen r ys)) cells i k l
    ∙ ap (λ y. all_lengths sum (all_seen r (y ∷ drop (i + 1) cells))) (sym e)
    ∙ ap (λ j. all_lengths j (all_seen r (drop (i + 1) cells))) (sym f)
