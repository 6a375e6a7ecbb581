-- A choice by a test has what each of its cases has.
use Rattle.std.proofs.Common.{◌≡◌, Bool, true, false, cond, refl}

pub pick : {A : Type 0} (P : A → Type 0) (t : Bool) (x y : A) → (t ≡ true → P x) → (t ≡ false → P y) → P (cond t x y)
pick P true x y f g = f refl
pick P false x y f g = g refl
