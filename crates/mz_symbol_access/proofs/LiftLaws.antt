-- Truth values of a list as options that are there.
use Rattle.std.proofs.Common.{◌≡◌, ◌∙◌, ℕ, zero, suc, ◌+◌, ◌*◌, ◌<◌, List, [], ◌∷◌, ◌++◌, length, take, Some, slice_get, refl, sym, ap, subst, arith}
use Rattle.mz_arena.specs.Values.{Term}
use Rattle.mz_symbol.specs.declared.types.Symbol.{Symbol}
use Rattle.mz_symbol.specs.Runs.{Run}
use Rattle.mz_symbol.specs.Readings.{Reading, Reads}
use Rattle.mz_symbol.specs.Makes.{GoesOnBy}
use Rattle.mz_symbol_rows.proofs.GoingOn.{goes_both, goes_most}
use Rattle.mz_symbol_arrays.proofs.LineLaws.{goes_none}
use Rattle.mz_symbol_access.specs.Standing.{StandsFor, StandFor, ReplacesAll}
use Rattle.mz_symbol_access.specs.StepsChoose.{PushesLifted, HasLifted}
use Rattle.mz_symbol_access.proofs.StandingLaws.{stands_itself}
use Rattle.mz_symbol_access.proofs.ItemLaws.{length_more, take_all}

stand_themselves : (t : ℕ → Term) (ps : List Symbol) → StandFor t ps ps
stand_themselves t [] = tt
stand_themselves t (p ∷ ps) = (stands_itself t p, stand_themselves t ps)

pub replaces_themselves : (r : Reading) (s : Run) (ps : List Symbol) → ReplacesAll r s s ps ps
replaces_themselves r s ps = record { same = refl; are = stand_themselves r.term ps }

-- ---- one more

lifted_more : (t : ℕ → Term) (i : ℕ) (ps xs : List Symbol) (p x : Symbol) → StandFor t (take i ps) xs → slice_get ps i ≡ Some p → StandsFor t p x → StandFor t (take (suc i) ps) (xs ++ x ∷ [])
lifted_more t zero [] xs p x w e k = absurd (cc)
lifted_more t (suc i) [] xs p x w e k = absurd (cc)
lifted_more t zero (y ∷ ps) [] p x w e k = let a : y ≡ p = cc in (subst (λ z. StandsFor t z x) (sym a) k, tt)
lifted_more t zero (y ∷ ps) (z ∷ xs) p x w e k = absurd w
lifted_more t (suc i) (y ∷ ps) [] p x w e k = absurd w
lifted_more t (suc i) (y ∷ ps) (z ∷ xs) p x w e k = (w.0, lifted_more t i ps xs p x w.1 e k)

pub lifts_none : (s : Run) (ps xs : List Symbol) → xs ≡ [] → HasLifted s s ps 0 xs
lifts_none s ps xs e = subst (HasLifted s s ps 0) (sym e) (record {
  goes = goes_none s;
  count = refl;
  replaces = λ r h. record { same = refl; are = tt };
})

lift_more : (i : ℕ) (old mid new : Run) → GoesOnBy (4 * i) old mid → GoesOnBy 4 mid new → GoesOnBy (4 * suc i) old new
lift_more i old mid new f g = subst (λ n. GoesOnBy n old new) (omega arith) (goes_both (4 * i) 4 old mid new f g)

pub lift_err : (i n : ℕ) (old mid new : Run) → i < n → GoesOnBy (4 * i) old mid → GoesOnBy 4 mid new → GoesOnBy (4 * n) old new
lift_err i n old mid new h f g = goes_most (4 * i + 4) (4 * n) old new (omega (arith, h)) (goes_both (4 * i) 4 old mid new f g)

pub lift_all : (i n : ℕ) (old new : Run) → i ≡ n → GoesOnBy (4 * i) old new → GoesOnBy (4 * n) old new
lift_all i n old new e f = subst (λ k. GoesOnBy (4 * k) old new) e f

pub lifts_more : (old mid new : Run) (i j : ℕ) (ps xs zs : List Symbol) → j ≡ suc i → HasLifted old mid ps i xs → GoesOnBy 4 mid new → PushesLifted mid new ps i xs zs → HasLifted old new ps j zs
lifts_more old mid new i j ps xs zs e h g w = subst (λ n. HasLifted old new ps n zs) (sym e) (subst (HasLifted old new ps (suc i)) (sym w.pushed) (record {
  goes = lift_more i old mid new h.goes g;
  count = length_more xs w.last ∙ ap (λ n. suc n) h.count;
  replaces = λ r q.
      let a = h.replaces r (g.back r q) in
      let b = w.replaces r q in
      record {
        same = a.same ∙ b.replaces.same;
        are = lifted_more r.term i ps xs b.first w.last a.are b.is_first b.replaces.is;
      };
}))

pub lifts_all : (r : Reading) (old new : Run) (i n : ℕ) (ps xs : List Symbol) → i ≡ n → length ps ≡ n → HasLifted old new ps i xs → Reads r new → ReplacesAll r old new ps xs
lifts_all r old new i n ps xs e f h q =
    let w = h.replaces r q in
    record { same = w.same; are = subst (λ ys. StandFor r.term ys xs) (take_all i ps (f ∙ sym e)) w.are }
