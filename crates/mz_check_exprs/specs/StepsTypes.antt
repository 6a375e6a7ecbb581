-- What is kept of a type whose typing may stop. Mirror of src/types.rt; private clauses only.
use Rattle.std.specs.Prelude.{◌≡◌, Option, Some, None, Result}
use Rattle.mz_base.specs.declared.fault.Fault.{Fault}
use Rattle.mz_base.specs.declared.stop.Stop.{Stop}
use Rattle.mz_check_meaning.specs.Tests.{Test}
use Rattle.mz_scope_order.specs.Scoped.{ScopedTree}
use Rattle.mz_scope_order.specs.Subjects.{Subject}
use Rattle.mz_check_meaning.specs.Models.{Model}
use Rattle.mz_check_meaning.specs.Headings.{with_type}
use Rattle.mz_check_meaning.specs.Passes.{Passes}
use Rattle.mz_check_context.specs.Headings.{tested}

-- the answer is the test's, where memory didn't run out
abbrev pub IsAnswer : {A B : Type 0} → (A → B) → Result A Stop → Result A Fault → Type 0
IsAnswer {B = B} see r answer = (test : Test B) → Passes see r test → tested see answer ≡ test

-- of the one that is there, if there is one

abbrev pub IfThere : {A : Type 0} → Option A → (A → Type 0) → Type 0
IfThere None P = Unit {0}
IfThere (Some x) P = P x

abbrev pub with_there : ScopedTree → Model → Option Subject → Model
with_there s m None = m
with_there s m (Some x) = with_type s m x
