-- What code that types answers: what the definition gives, unless memory ran out.
use Rattle.std.specs.Prelude.{◌≡◌, Result, Ok, Err}
use Rattle.mz_base.specs.declared.stop.Stop.{Stop}
use Rattle.mz_base.specs.declared.stop.Stop.TheVariants.{Refused, Memory}
use Rattle.mz_check_meaning.specs.Tests.{Test}

-- the result, as it is seen, is that of the test, or its fault is the test's
abbrev pub Passes : {A B : Type 0} → (A → B) → Result A Stop → Test B → Type 0
Passes see (Ok x) test = test ≡ Ok (see x)
Passes see (Err (Refused f)) test = test ≡ Err f
Passes see (Err Memory) test = Unit {0}
