-- Distinct names read their own values back.
use Rattle.std.proofs.Common.{◌≡◌, ◌∙◌, suc, List, [], ◌∷◌, length, map, Bool, true, false, refl, ap, arith}
use Rattle.std.specs.List.{Contains}
use Rattle.std.specs.Str.{bytes_eq}
use Rattle.std.proofs.lemmas.Slice.Eq.{bytes_eq-Decides}
use Rattle.fz_program.specs.Names.{Name}
use Rattle.fz_program.specs.Values.{Value, Values}
use Rattle.fz_program.specs.Flat.{AreDistinct}
use Rattle.flat_meaning.specs.Solutions.{read_off}

same_name : (x : Name) → bytes_eq x x ≡ true
same_name x = (bytes_eq-Decides x x).1 refl

other_name : (x y : Name) → (x ≡ y → ⊥) → bytes_eq x y ≡ false
other_name x y n = go (bytes_eq x y) refl
  where
    go : (b : Bool) → bytes_eq x y ≡ b → b ≡ false
    go true e = absurd (n ((bytes_eq-Decides x y).0 e))
    go false e = refl

later : (y : Name) (n : Value) (ys xs : List Name) (f : Values) → ((x : Name) → Contains xs x → x ≡ y → ⊥) → map (read_off (y ∷ ys) (n ∷ f)) xs ≡ map (read_off ys f) xs
later y n ys [] f none = refl
later y n ys (x ∷ xs) f none = rw (other_name x y (λ e. none x (0, omega arith, refl) e)) (ap (λ zs. read_off ys f x ∷ zs) (later y n ys xs f (λ z in'. none z (deeper z in'))))
  where
    deeper : (z : Name) → Contains xs z → Contains (x ∷ xs) z
    deeper z (k, below, at) = (suc k, omega (arith, below), at)

pub reads_itself : (names : List Name) (f : Values) → AreDistinct names → length f ≡ length names → map (read_off names f) names ≡ f
reads_itself [] [] d e = refl
reads_itself [] (n ∷ f) d e = absurd (omega arith)
reads_itself (y ∷ ys) [] d e = absurd (omega arith)
reads_itself (y ∷ ys) (n ∷ f) d e = rw (same_name y) (ap (λ zs. n ∷ zs) (later y n ys ys f (λ x in' same. d.0 (found x in' same)) ∙ reads_itself ys f d.1 (omega (arith, e))))
  where
    found : (x : Name) → Contains ys x → x ≡ y → Contains ys y
    found x in' same = rw (← same) in'
