-- What went on from an option.
use Rattle.std.proofs.Common.{◌≡◌, Option, Some, None, refl}
use Rattle.mz_operations.specs.Views.{◌>>=◌}

-- there was a value, and the rest gave b of it
pub record Went {A B : Type 0} (o : Option A) (go : A → Option B) (b : B) : Type 0 where
  pub value : A
  pub was : o ≡ Some value
  pub rest : go value ≡ Some b

pub went : {A B : Type 0} (o : Option A) (go : A → Option B) (b : B) → (o >>= go) ≡ Some b → Went o go b
went None go b h = cc
went (Some a) go b h = record { value = a; was = refl; rest = h }
