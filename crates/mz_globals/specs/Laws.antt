-- A law of the meanings.
use Rattle.std.specs.Prelude.{◌≡◌, ℤ, pos, ◌≤ℤ◌, List, [], ◌∷◌, true}
use Rattle.mz_globals.specs.Scheduling.{Task, used_at, is_cumulative}

-- no task uses less than nothing
abbrev pub UseUp : List (Task × ℤ) → Type 0
UseUp [] = Unit {0}
UseUp (u ∷ us) = (pos 0 ≤ℤ u.1) × UseUp us

-- at every time no more is used than there is
pub record FitsAlways (us : List (Task × ℤ)) (most : ℤ) : Type 0 where
  pub some : pos 0 ≤ℤ most
  pub at : (t : ℤ) → used_at us t ≤ℤ most

pub record StartsAreEnough : Type 0 where
  pub enough : (us : List (Task × ℤ)) (most : ℤ) → UseUp us → is_cumulative us most ≡ true → FitsAlways us most
  pub needed : (us : List (Task × ℤ)) (most : ℤ) → FitsAlways us most → is_cumulative us most ≡ true
