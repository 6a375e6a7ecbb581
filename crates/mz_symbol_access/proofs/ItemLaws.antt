-- Elements, each chosen by one condition.
use Rattle.std.proofs.Common.{◌≡◌, ◌∙◌, ℕ, zero, suc, ◌+◌, ◌*◌, ◌<◌, true, false, List, [], ◌∷◌, ◌++◌, length, map, take, Some, slice_get, refl, sym, ap, subst, arith}
use Rattle.mz_arena.specs.Values.{Term, is_true}
use Rattle.mz_symbol.specs.declared.types.Symbol.{Symbol}
use Rattle.mz_symbol.specs.Symbols.{symbol_value, AreItems}
use Rattle.mz_symbol.specs.Runs.{Run}
use Rattle.mz_symbol.specs.Readings.{Reading, Reads}
use Rattle.mz_symbol.specs.Makes.{GoesOnBy}
use Rattle.mz_symbol_rows.proofs.GoingOn.{goes_both, goes_most}
use Rattle.mz_symbol_arrays.proofs.LineLaws.{goes_none}
use Rattle.mz_symbol_access.specs.Standing.{StandFor}
use Rattle.mz_symbol_access.specs.StepsChoose.{IsChosen, AreChosen, ChoosesAll, PushesAt, HasChosen}

-- ---- one more

chosen_more : (t : ℕ → Term) (c i : ℕ) (ps qs ss : List Symbol) (p q s : Symbol) → AreChosen t c (take i ps) (take i qs) ss → slice_get ps i ≡ Some p → slice_get qs i ≡ Some q → IsChosen t c p q s → AreChosen t c (take (suc i) ps) (take (suc i) qs) (ss ++ s ∷ [])
chosen_more t c zero [] qs ss p q s w e f k = absurd (cc)
chosen_more t c (suc i) [] qs ss p q s w e f k = absurd (cc)
chosen_more t c zero (x ∷ ps) [] ss p q s w e f k = absurd (cc)
chosen_more t c (suc i) (x ∷ ps) [] ss p q s w e f k = absurd (cc)
chosen_more t c zero (x ∷ ps) (y ∷ qs) [] p q s w e f k =
    let a : x ≡ p = cc in
    let b : y ≡ q = cc in
    (subst (λ z. IsChosen t c z y s) (sym a) (subst (λ z. IsChosen t c p z s) (sym b) k), tt)
chosen_more t c zero (x ∷ ps) (y ∷ qs) (z ∷ ss) p q s w e f k = absurd w
chosen_more t c (suc i) (x ∷ ps) (y ∷ qs) [] p q s w e f k = absurd w
chosen_more t c (suc i) (x ∷ ps) (y ∷ qs) (z ∷ ss) p q s w e f k = (w.0, chosen_more t c i ps qs ss p q s w.1 e f k)

pub length_more : (ss : List Symbol) (s : Symbol) → length (ss ++ s ∷ []) ≡ suc (length ss)
length_more [] s = refl
length_more (x ∷ ss) s = ap (λ n. suc n) (length_more ss s)

pub chooses_none : (s : Run) (c : ℕ) (ps qs ss : List Symbol) → ss ≡ [] → HasChosen s s c ps qs 0 ss
chooses_none s c ps qs ss e = subst (HasChosen s s c ps qs 0) (sym e) (record {
  goes = goes_none s;
  count = refl;
  chooses = λ r h. record { same = refl; are = tt };
})

costs_more : (i : ℕ) (old mid new : Run) → GoesOnBy (36 * i) old mid → GoesOnBy 36 mid new → GoesOnBy (36 * suc i) old new
costs_more i old mid new f g = subst (λ n. GoesOnBy n old new) (omega arith) (goes_both (36 * i) 36 old mid new f g)

pub costs_err : (i n : ℕ) (old mid new : Run) → i < n → GoesOnBy (36 * i) old mid → GoesOnBy 36 mid new → GoesOnBy (36 * n) old new
costs_err i n old mid new h f g = goes_most (36 * i + 36) (36 * n) old new (omega (arith, h)) (goes_both (36 * i) 36 old mid new f g)

pub costs_all : (i n : ℕ) (old new : Run) → i ≡ n → GoesOnBy (36 * i) old new → GoesOnBy (36 * n) old new
costs_all i n old new e f = subst (λ k. GoesOnBy (36 * k) old new) e f

pub chooses_more : (old mid new : Run) (c i j : ℕ) (ps qs ss zs : List Symbol) → j ≡ suc i → HasChosen old mid c ps qs i ss → GoesOnBy 36 mid new → PushesAt mid new c ps qs i ss zs → HasChosen old new c ps qs j zs
chooses_more old mid new c i j ps qs ss zs e h g w = subst (λ n. HasChosen old new c ps qs n zs) (sym e) (subst (HasChosen old new c ps qs (suc i)) (sym w.pushed) (record {
  goes = costs_more i old mid new h.goes g;
  count = length_more ss w.last ∙ ap (λ n. suc n) h.count;
  chooses = λ r q.
      let a = h.chooses r (g.back r q) in
      let b = w.chooses r q in
      record {
        same = a.same ∙ b.chooses.same;
        are = chosen_more r.term c i ps qs ss b.first b.second w.last a.are b.is_first b.is_second b.chooses.is;
      };
}))

pub take_all : (n : ℕ) (xs : List Symbol) → length xs ≡ n → take n xs ≡ xs
take_all n [] e = ap (λ k. take k []) (sym e)
take_all zero (x ∷ xs) e = absurd (omega (arith, e))
take_all (suc n) (x ∷ xs) e = ap (λ ys. x ∷ ys) (take_all n xs (omega (arith, e)))

pub chooses_all : (r : Reading) (old new : Run) (c i n : ℕ) (ps qs ss : List Symbol) → i ≡ n → length ps ≡ n → length qs ≡ n → HasChosen old new c ps qs i ss → Reads r new → ChoosesAll r old new c ps qs ss
chooses_all r old new c i n ps qs ss e f g h q =
    let w = h.chooses r q in
    record {
      same = w.same;
      are = subst (λ xs. AreChosen r.term c xs qs ss) (take_all i ps (f ∙ sym e)) (subst (λ ys. AreChosen r.term c (take i ps) ys ss) (take_all i qs (g ∙ sym e)) w.are);
    }

-- ---- elements that stand for others

pub all_first : (t : ℕ → Term) (c : ℕ) (ps qs ss : List Symbol) → is_true (t c) ≡ true → AreChosen t c ps qs ss → StandFor t ps ss
all_first t c [] [] [] h w = tt
all_first t c (p ∷ ps) (q ∷ qs) (s ∷ ss) h w = (w.0.first h, all_first t c ps qs ss h w.1)
all_first t c [] [] (s ∷ ss) h w = absurd w
all_first t c [] (q ∷ qs) ss h w = absurd w
all_first t c (p ∷ ps) [] ss h w = absurd w
all_first t c (p ∷ ps) (q ∷ qs) [] h w = absurd w

pub all_second : (t : ℕ → Term) (c : ℕ) (ps qs ss : List Symbol) → is_true (t c) ≡ false → AreChosen t c ps qs ss → StandFor t qs ss
all_second t c [] [] [] h w = tt
all_second t c (p ∷ ps) (q ∷ qs) (s ∷ ss) h w = (w.0.second h, all_second t c ps qs ss h w.1)
all_second t c [] [] (s ∷ ss) h w = absurd w
all_second t c [] (q ∷ qs) ss h w = absurd w
all_second t c (p ∷ ps) [] ss h w = absurd w
all_second t c (p ∷ ps) (q ∷ qs) [] h w = absurd w

pub same_values : (t : ℕ → Term) (ps ss : List Symbol) → StandFor t ps ss → AreItems t ps → map (symbol_value t) ps ≡ map (symbol_value t) ss
same_values t [] [] w h = refl
same_values t (p ∷ ps) (s ∷ ss) w h = ap (λ v. v ∷ map (symbol_value t) ps) (sym (w.0.value h.0)) ∙ ap (λ vs. symbol_value t s ∷ vs) (same_values t ps ss w.1 h.1)
same_values t [] (s ∷ ss) w h = absurd w
same_values t (p ∷ ps) [] w h = absurd w

pub same_items : (t : ℕ → Term) (ps ss : List Symbol) → StandFor t ps ss → AreItems t ps → AreItems t ss
same_items t [] [] w h = tt
same_items t (p ∷ ps) (s ∷ ss) w h = (w.0.item h.0, same_items t ps ss w.1 h.1)
same_items t [] (s ∷ ss) w h = absurd w
same_items t (p ∷ ps) [] w h = absurd w
