-- Tests that stop: what stops one stops what is made of it.
use Rattle.std.proofs.Common.{◌≡◌, List, ◌∷◌, Result, Ok, Err, refl}
use Rattle.std.specs.Result.{IsErrAnd}
use Rattle.mz_base.specs.declared.fault.Fault.{Fault}
use Rattle.mz_base.specs.declared.stop.Stop.{Stop}
use Rattle.mz_base.specs.declared.stop.Stop.TheVariants.{Refused, Memory}
use Rattle.mz_check_meaning.specs.Tests.{Test, loop, one_more}
use Rattle.mz_check_meaning.specs.Passes.{Passes}

-- a fault of one test is the fault of another
pub stops : {A B C D : Type 0} (see : A → B) (seen : C → D) (r : Result C Stop) (s : Stop) (test : Test B) (other : Test D) → IsErrAnd r (λ e. e ≡ s) → ((f : Fault) → test ≡ Err f → other ≡ Err f) → Passes see (Err s) test → Passes seen r other
stops see seen (Ok x) s test other e step h = absurd e
stops see seen (Err d) (Refused f) test other e step h = rw e (step f h)
stops see seen (Err d) Memory test other e step h = rw e tt

-- a fault of the next is that of all
pub each_stops : {A B : Type 0} (go : A → Test B) (ys : List B) (x : A) (xs : List A) (f : Fault) → go x ≡ Err f → loop (one_more go) ys (x ∷ xs) ≡ Err f
each_stops {A} {B} go ys x xs f e = rw e refl
