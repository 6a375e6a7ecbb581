-- Runs: what goes on with work, choices and weight, and may stop at a fault.
use Rattle.std.specs.Prelude.{ℕ, ◌+◌, ℤ, pos, Bool, true, false, List, [], ◌∷◌, ◌++◌, nat_lt, if◌then◌else◌}
use Rattle.mz_base.specs.declared.fault.Span.{Span}
use Rattle.mz_base.specs.declared.fault.Fault.{Fault}
use Rattle.mz_base.specs.declared.kind.Kind.{Kind}
use Rattle.mz_base.specs.declared.kind.Kind.TheVariants.{Budget}
use Rattle.mz_meaning.specs.Cells.{Mode, Blank, Given}
use Rattle.mz_meaning.specs.Domains.{Domain}

-- The work so far; the domains of the choices that were taken, in their order; and the weight besides the work: 1 for each declaration, and the elements of the arrays that are handed on
pub record State : Type 0 where
  pub work : ℕ
  pub taken : List Domain
  pub weight : ℕ

abbrev pub start : State
start = record { work = 0; taken = []; weight = 0 }

pub data Answer (A : Type 0) : Type 0 where
  Out : A → State → Answer A
  Stopped : Fault → Answer A

abbrev pub Run : Type 0 → Type 0
Run A = State → Answer A

-- goes on from an answer
abbrev pub then_do : {A B : Type 0} → Answer A → (A → State → Answer B) → Answer B
then_do (Out x s) go = go x s
then_do (Stopped f) go = Stopped f

infixl 10 ◌>>=◌ ◌>>◌
abbrev pub ◌>>=◌ : {A B : Type 0} → Run A → (A → Run B) → Run B
◌>>=◌ m go = λ s. then_do (m s) go

abbrev pub ◌>>◌ : {A B : Type 0} → Run A → Run B → Run B
◌>>◌ m go = λ s. then_do (m s) (λ _. go)

abbrev pub give : {A : Type 0} → A → Run A
give x = λ s. Out x s

abbrev pub fault : Kind → Span → ℤ → Fault
fault kind at number = record { kind = kind; span = at; number = number }

abbrev pub stop : {A : Type 0} → Kind → Span → ℤ → Run A
stop kind at number = λ s. Stopped (fault kind at number)

-- more work, within the budget
abbrev pub spend : ℕ → Span → ℕ → Run (Unit {0})
spend budget at n = λ s.
    if nat_lt budget (s.work + n)
    then Stopped (fault Budget at (pos (budget + 1)))
    else Out tt (record { work = s.work + n; taken = s.taken; weight = s.weight })

-- each element in order, with what was made so far
abbrev pub loop : {A S : Type 0} → (S → A → Run S) → S → List A → Run S
loop step acc [] = give acc
loop step acc (x ∷ xs) = step acc x >>= λ next. loop step next xs

abbrev pub when : {A : Type 0} → Bool → Run A → Run A → Run A
when true a b = a
when false a b = b

-- choices from these domains, and so much weight, are noted, but in a bare run
abbrev pub noted : Mode → List Domain → ℕ → State → State
noted (Blank false) ds n s = s
noted (Blank true) ds n s = record { work = s.work; taken = s.taken ++ ds; weight = s.weight + n }
noted (Given f) ds n s = record { work = s.work; taken = s.taken ++ ds; weight = s.weight + n }

abbrev pub weigh : Mode → ℕ → Run (Unit {0})
weigh m n = λ s. Out tt (noted m [] n s)
