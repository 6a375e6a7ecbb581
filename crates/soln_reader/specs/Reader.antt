-- What a reader holds, and what its calls do.
use Rattle.std.specs.Prelude.{◌≡◌, ℕ, ◌+◌, List, [], ◌++◌, Bool, true, false, map, Option, Some, None, IsSome, pos}
use Rattle.mz_base.specs.declared.fault.Fault.{Fault}
use Rattle.mz_base.specs.declared.kind.Kind.TheVariants.{BadSolution}
use Rattle.mz_value.specs.Contents.{content}
use Rattle.soln_reader.specs.declared.next.Next.{Next}
use Rattle.soln_reader.specs.declared.next.Next.TheVariants as next
use Rattle.fz_items.specs.Forms.{Form}
use Rattle.soln_reader.specs.Blocks.{Block}
use Rattle.soln_reader.specs.Stream.{Place, next_place, Event, block, mark, Passes, has_line, after_line, line_outcome, gives, is_bad}

-- what a reader holds: the shapes, the bytes that were fed and not yet answered, how many lines stand before them, the
-- block that is open there, and the line of the Bad that it answered, if it did
pub record State : Type 0 where
  pub forms : List Form
  pub bytes : List ℕ
  pub lines : ℕ
  pub block : Block
  pub bad : Option ℕ

abbrev pub place : State → Place
place s = record { lines = s.lines; block = s.block }

-- a reader of shapes that was fed nothing
abbrev pub start : List Form → State
start fs = record { forms = fs; bytes = []; lines = 0; block = None; bad = None }

abbrev pub fed : State → List ℕ → State
fed s piece = record { forms = s.forms; bytes = s.bytes ++ piece; lines = s.lines; block = s.block; bad = s.bad }

-- a reader with the same shapes, at a place, with these bytes left
abbrev pub at : State → Place → List ℕ → Option ℕ → State
at s p bs bad = record { forms = s.forms; bytes = bs; lines = p.lines; block = p.block; bad = bad }

-- some lines pass, and the next one gives the event; these lines are taken out
pub record GivesEvent (ended : Bool) (old : State) (e : Event) (new : State) : Type 0 where
  pub fresh : old.bad ≡ None
  pub before : Place
  pub from : List ℕ
  pub passed : Passes old.forms ended (place old) old.bytes before from
  pub line : has_line ended from ≡ true
  pub outcome : line_outcome old.forms before.block from ≡ gives e
  pub after : new ≡ at old (next_place before None) (after_line from) None

-- more bytes may come, all whole lines pass and are taken out, and no whole line is left
pub record Needs (ended : Bool) (old : State) (new : State) : Type 0 where
  pub going_on : ended ≡ false
  pub fresh : old.bad ≡ None
  pub passed : Passes old.forms false (place old) old.bytes (place new) new.bytes
  pub no_line : has_line false new.bytes ≡ false
  pub after : new ≡ at old (place new) new.bytes None

-- no more bytes come, all lines pass and are taken out, and no block is open
pub record Ends (ended : Bool) (old : State) (new : State) : Type 0 where
  pub over : ended ≡ true
  pub fresh : old.bad ≡ None
  pub passed : Passes old.forms true (place old) old.bytes (place new) []
  pub closed : new.block ≡ None
  pub after : new ≡ at old (place new) [] None

-- some lines pass, and the next one is bad; or no more bytes come, all lines pass, and a block is open at the end
pub data IsFirstBad (fs : List Form) (ended : Bool) (p : Place) (bs : List ℕ) : ℕ → List ℕ → Type 0 where
  a_bad_line : (q : Place) (from : List ℕ) → Passes fs ended p bs q from → has_line ended from ≡ true → line_outcome fs q.block from ≡ is_bad → IsFirstBad fs ended p bs (q.lines + 1) (after_line from)
  left_open : (q : Place) → Passes fs ended p bs q [] → ended ≡ true → IsSome q.block → IsFirstBad fs ended p bs q.lines []

-- the first bad line, with the lines up to it taken out; after that the same for ever
pub data FindsBad (ended : Bool) (old : State) (n : ℕ) (new : State) : Type 0 where
  first : (rest : List ℕ) → old.bad ≡ None → IsFirstBad old.forms ended (place old) old.bytes n rest → new ≡ at old (record { lines = n; block = None }) rest (Some n) → FindsBad ended old n new
  again : old.bad ≡ Some n → new ≡ old → FindsBad ended old n new

-- memory ran out, and nothing changed
abbrev pub Stops : State → State → Type 0
Stops old new = new ≡ old

-- a bad line's fault
abbrev pub bad_line : ℕ → Fault
bad_line n = record { kind = BadSolution; span = record { file = 18446744073709551615; line = n; col = 1; byte = 0 }; number = pos n }

-- what a call of `next` does, by its answer
abbrev pub Answers : Bool → State → Next → State → Type 0
Answers ended old (next.Block a) new = GivesEvent ended old (block (map content a.values.items)) new
Answers ended old (next.Mark m) new = GivesEvent ended old (mark m) new
Answers ended old next.Need new = Needs ended old new
Answers ended old next.End new = Ends ended old new
Answers ended old (next.Bad f) new = (n : ℕ) × (f ≡ bad_line n) × FindsBad ended old n new
Answers ended old next.Memory new = Stops old new
