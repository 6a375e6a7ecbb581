-- What an answer of the code says of a run, under each reading.
use Rattle.std.specs.Prelude.{◌≡◌, ℕ, ◌+◌, ◌*◌, ◌≤◌, Result, Ok, Err}
use Rattle.mz_base.specs.declared.stop.Stop.{Stop}
use Rattle.mz_base.specs.declared.stop.Stop.TheVariants.{Refused, Memory}
use Rattle.mz_arena.specs.Charges.{charges}
use Rattle.mz_meaning.specs.Runs as runs
use Rattle.mz_meaning.specs.Runs.{State, Answer, Out, Stopped}
use Rattle.mz_symbol.specs.Symbols.{waiting}
use Rattle.mz_symbol.specs.Runs.{Run}
use Rattle.mz_symbol.specs.Readings.{Reading, Reads, state_of, blank}

-- a result that is this answer, unless memory ran out: the state is the one given
abbrev pub MeetsAt : {A B : Type 0} → (A → B) → Result A Stop → State → Answer B → Type 0
MeetsAt see (Ok x) s answer = answer ≡ Out (see x) s
MeetsAt see (Err (Refused f)) s answer = answer ≡ Stopped f
MeetsAt see (Err Memory) s answer = Unit {0}

-- what the nodes of a run may cost, what the lists of its arrays will, and what is saved for further nodes
abbrev pub owed : Run → ℕ
owed s = charges s.arena + 16 * waiting s.lines + s.saved

-- what work and weight pay for
abbrev pub earned : Run → ℕ
earned s = 64 * (s.work + s.weight)

-- A RUN GOES ON FROM ANOTHER: what reads it reads the other, and its nodes may cost n more than its work and weight pay for
pub record GoesOnBy (n : ℕ) (old new : Run) : Type 0 where
  pub back : (r : Reading) → Reads r new → Reads r old
  pub paid : owed new + earned old ≤ owed old + earned new + n

-- THE SAME, and work or weight that pays for 64 n more is earned
pub record Earns (n : ℕ) (old new : Run) : Type 0 where
  pub back : (r : Reading) → Reads r new → Reads r old
  pub paid : owed new + (earned old + 64 * n) ≤ owed old + earned new

-- THE SAME, and n more is paid for than is owed
pub record Spares (n : ℕ) (old new : Run) : Type 0 where
  pub back : (r : Reading) → Reads r new → Reads r old
  pub paid : owed new + earned old + n ≤ owed old + earned new

-- and all is paid for
abbrev pub GoesOn : Run → Run → Type 0
GoesOn old new = GoesOnBy 0 old new

-- under each reading of the new run the result is what the evaluation gives
abbrev pub Means : {A B : Type 0} → (Reading → A → B) → Result A Stop → Run → Run → (Reading → runs.Run B) → Type 0
Means see x old new m = (r : Reading) → Reads r new → MeetsAt (see r) x (state_of r new) (m r (state_of r old))

-- the same of an evaluation without values, in which no term is read
abbrev pub MeansBare : {A B : Type 0} → (Reading → A → B) → Result A Stop → Run → Run → (Reading → runs.Run B) → Type 0
MeansBare see x old new m = MeetsAt (see blank) x (state_of blank new) (m blank (state_of blank old))

-- the whole evaluation from the first run on is what is left of it from the second on
pub record Continues {B : Type 0} (old new : Run) (whole rest : Reading → runs.Run B) : Type 0 where
  pub goes : GoesOn old new
  pub so_far : (r : Reading) → Reads r new → whole r (state_of r old) ≡ rest r (state_of r new)

-- the same of an evaluation without values
pub record ContinuesBare {B : Type 0} (old new : Run) (whole rest : Reading → runs.Run B) : Type 0 where
  pub goes : GoesOn old new
  pub so_far : whole blank (state_of blank old) ≡ rest blank (state_of blank new)
