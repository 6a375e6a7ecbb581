-- Tests: what gives a value, or stops at the first fault.
use Rattle.std.specs.Prelude.{Bool, true, false, List, [], ◌∷◌, ◌++◌, Option, Some, None, Result, Ok, Err}
use Rattle.mz_base.specs.declared.fault.Span.{Span}
use Rattle.mz_base.specs.declared.fault.Fault.{Fault}
use Rattle.mz_base.specs.declared.kind.Kind.{Kind}
use Rattle.mz_base.specs.Faults.{fault_at}

abbrev pub Test : Type 0 → Type 0
Test A = Result A Fault

infixl 10 ◌>>=◌ ◌>>◌
abbrev pub ◌>>=◌ : {A B : Type 0} → Test A → (A → Test B) → Test B
◌>>=◌ (Ok x) go = go x
◌>>=◌ (Err f) go = Err f

abbrev pub ◌>>◌ : {A B : Type 0} → Test A → Test B → Test B
◌>>◌ m go = m >>= λ _. go

abbrev pub refuse : {A : Type 0} → Kind → Span → Test A
refuse kind at = Err (fault_at kind at)

-- where this holds; else a fault
abbrev pub require : Bool → Kind → Span → Test (Unit {0})
require true kind at = Ok tt
require false kind at = refuse kind at

-- what is there; else a fault
abbrev pub found : {A : Type 0} → Kind → Span → Option A → Test A
found kind at None = refuse kind at
found kind at (Some x) = Ok x

-- each element in order, with what was made so far
abbrev pub loop : {A S : Type 0} → (S → A → Test S) → S → List A → Test S
loop step acc [] = Ok acc
loop step acc (x ∷ xs) = step acc x >>= λ next. loop step next xs

abbrev pub one_more : {A B : Type 0} → (A → Test B) → List B → A → Test (List B)
one_more go ys x = go x >>= λ y. Ok (ys ++ y ∷ [])

-- what each gives, in order
abbrev pub each : {A B : Type 0} → (A → Test B) → List A → Test (List B)
each go xs = loop (one_more go) [] xs

abbrev pub maybe_some : {A : Type 0} → Test A → Test (Option A)
maybe_some (Ok x) = Ok (Some x)
maybe_some (Err f) = Err f

-- of what is there
abbrev pub if_there : {A B : Type 0} → (A → Test B) → Option A → Test (Option B)
if_there go None = Ok None
if_there go (Some x) = maybe_some (go x)
