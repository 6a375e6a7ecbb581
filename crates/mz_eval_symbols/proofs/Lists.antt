-- Lists of symbols that are made one by one.
use Rattle.std.proofs.Common.{◌≡◌, ◌∙◌, ℕ, suc, ◌+◌, ◌*◌, ◌<◌, List, [], ◌∷◌, ◌++◌, length, Some, slice_get, refl, sym, ap, subst, arith}
use Rattle.mz_value.specs.Contents.{Content}
use Rattle.mz_core.specs.declared.types.Base.{Base}
use Rattle.mz_symbol.specs.declared.types.Symbol.{Symbol}
use Rattle.mz_symbol.specs.Runs.{Run}
use Rattle.mz_symbol.specs.Readings.{Reading}
use Rattle.mz_symbol.specs.Makes.{GoesOnBy}
use Rattle.mz_symbol_rows.proofs.GoingOn.{goes_both, goes_most}
use Rattle.mz_eval_symbols.specs.Steps.{ArePrefix, AreMade, OneMore, AreConstants, OneConstant, AreCasts, OneCast}

prefix_more : {A : Type 0} (R : A → Symbol → Type 0) (xs : List A) (ss : List Symbol) (x : A) (s : Symbol) → ArePrefix R xs ss → slice_get xs (length ss) ≡ Some x → R x s → ArePrefix R xs (ss ++ s ∷ [])
prefix_more R [] [] x s p e h = absurd (cc)
prefix_more R (y ∷ xs) [] x s p e h = let same : y ≡ x = cc in (subst (λ z. R z s) (sym same) h, tt)
prefix_more R [] (z ∷ ss) x s p e h = absurd p
prefix_more R (y ∷ xs) (z ∷ ss) x s p e h = (p.0, prefix_more R xs ss x s p.1 e h)

length_more : (ss : List Symbol) (s : Symbol) → length (ss ++ s ∷ []) ≡ suc (length ss)
length_more [] s = refl
length_more (z ∷ ss) s = ap suc (length_more ss s)

pub made_more : {A : Type 0} (R : A → Symbol → Type 0) (xs : List A) (i j : ℕ) (ss ts : List Symbol) → j ≡ suc i → AreMade R xs i ss → OneMore R xs i ss ts → AreMade R xs j ts
made_more R xs i j ss ts e h m = record {
  prefix = subst (ArePrefix R xs) (sym m.list) (prefix_more R xs ss m.source m.symbol h.prefix (ap (slice_get xs) h.count ∙ m.at) m.stands);
  count = ap length m.list ∙ length_more ss m.symbol ∙ ap suc h.count ∙ sym e;
}

pub made_none : {A : Type 0} (R : A → Symbol → Type 0) (xs : List A) (ss : List Symbol) → ss ≡ [] → AreMade R xs 0 ss
made_none R xs ss e = subst (AreMade R xs 0) (sym e) (record { prefix = tt; count = refl })

pub constants_none : (r : Reading) (s : Run) (xs : List Content) (ss : List Symbol) → ss ≡ [] → AreConstants r s s xs 0 ss
constants_none r s xs ss e = record { same = refl; made = made_none _ xs ss e }

pub constants_more : (r : Reading) (old mid new : Run) (xs : List Content) (i j : ℕ) (ss ts : List Symbol) → j ≡ suc i → AreConstants r old mid xs i ss → OneConstant r mid new xs i ss ts → AreConstants r old new xs j ts
constants_more r old mid new xs i j ss ts e h m = record { same = h.same ∙ m.same; made = made_more _ xs i j ss ts e h.made m.more }

pub casts_none : (r : Reading) (s : Run) (b : Base) (xs ss : List Symbol) → ss ≡ [] → AreCasts r s s b xs 0 ss
casts_none r s b xs ss e = record { same = refl; made = made_none _ xs ss e }

pub casts_more : (r : Reading) (old mid new : Run) (b : Base) (xs : List Symbol) (i j : ℕ) (ss ts : List Symbol) → j ≡ suc i → AreCasts r old mid b xs i ss → OneCast r mid new b xs i ss ts → AreCasts r old new b xs j ts
casts_more r old mid new b xs i j ss ts e h m = record { same = h.same ∙ m.same; made = made_more _ xs i j ss ts e h.made m.more }

pub one_longer : (ss ts : List Symbol) (s : Symbol) → ts ≡ ss ++ s ∷ [] → length ts ≡ length ss + 1
one_longer ss ts s l = let more : length ts ≡ suc (length ss) = ap length l ∙ length_more ss s in omega (arith, more)

-- what the steps so far cost, with one more
pub goes_more : (i n : ℕ) (old mid new : Run) → i < n → GoesOnBy (4 * i) old mid → GoesOnBy 4 mid new → GoesOnBy (4 * n) old new
goes_more i n old mid new h f g = goes_most (4 * i + 4) (4 * n) old new (omega (arith, h)) (goes_both (4 * i) 4 old mid new f g)

pub goes_same : (i n : ℕ) (old new : Run) → i ≡ n → GoesOnBy (4 * i) old new → GoesOnBy (4 * n) old new
goes_same i n old new h f = subst (λ m. GoesOnBy (4 * m) old new) h f
