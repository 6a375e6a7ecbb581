-- Where the descent begins, and how far down a call may still go.
use Rattle.std.specs.Prelude.{ℕ, ◌+◌, ◌*◌, ◌<◌, ◌≤◌, Bool, true, false, Result}
use Rattle.std.specs.declared.alloc.Global.{Global}
use denote.Ref.{MutBor}
use Rattle.mz_base.specs.declared.stop.Stop.{Stop}
use Rattle.mz_grammar.specs.declared.cursor.Cursor.{Cursor}
use Rattle.mz_grammar.specs.Reads.{Reads}
use Rattle.mz_grammar.specs.RulesReading.{Read, Reader, mapped, on}
use Rattle.mz_grammar.specs.declared.level.Level.{Level}
use Rattle.mz_grammar.specs.Operators.{tighter_level}
use Rattle.mz_grammar.specs.Parts as parts
use Rattle.mz_grammar.specs.Reading.{reads, operand_rank}
use Rattle.mz_expr.specs.declared.parser.descent.Entry.{Entry}
use Rattle.mz_expr.specs.declared.parser.descent.Entry.TheVariants as entry_is
use Rattle.mz_expr_operands.specs.declared.operand.Operand.{Operand}
use Rattle.mz_expr_operands.specs.Views.{operand}

-- what is read from an entry on
abbrev pub entry_at : Entry → ℕ → Reader parts.Operand
entry_at (entry_is.Level l) room ts = reads (parts.level l) room ts
entry_at entry_is.Unit room ts = reads parts.unit room ts
entry_at entry_is.Head room ts = reads parts.head room ts

-- where an operand of this level begins
abbrev pub tighter : Level → Entry
tighter l = on (tighter_level l) entry_is.Unit entry_is.Level

-- At one room, calls go down from level to level, to units and to heads.
abbrev pub height : Entry → ℕ
height (entry_is.Level l) = operand_rank l
height entry_is.Unit = 1
height entry_is.Head = 0

-- how far down calls may go, where this many tokens more may be opened: each that is opened counts more than all levels
abbrev pub extent : ℕ → Entry → ℕ
extent room e = 32 * room + height e

-- A call that goes further down than this room and entry may be made, and reads what stands there.
pub record Descends (room : ℕ) (entry : Entry) (pre : Global → MutBor Cursor → Entry → Type 0)
    (post : Global → MutBor Cursor → Entry → Result Operand Stop → MutBor Cursor → Type 0) : Type 0 where
  pub callable : (alloc : Global) (old : MutBor Cursor) (e : Entry) → extent old.now.room e < extent room entry → pre alloc old e
  pub reads : (alloc : Global) (old new : MutBor Cursor) (e : Entry) (result : Result Operand Stop) → post alloc old e result new → Reads operand (entry_at e) old.now new.now result

-- A method may be called that goes further down than this room: fewer tokens may be opened at its place.
pub record MayRead (room : ℕ) (entry : Entry) (pre : Global → MutBor Cursor → Entry → Type 0)
    (post : Global → MutBor Cursor → Entry → Result Operand Stop → MutBor Cursor → Type 0) (old : Cursor) : Type 0 where
  pub calls : Descends room entry pre post
  pub below : old.room < room

-- A method may be called that opens a token before it goes further down.
pub record MayOpen (room : ℕ) (entry : Entry) (pre : Global → MutBor Cursor → Entry → Type 0)
    (post : Global → MutBor Cursor → Entry → Result Operand Stop → MutBor Cursor → Type 0) (old : Cursor) : Type 0 where
  pub calls : Descends room entry pre post
  pub below : old.room ≤ room

-- A method may be called that begins with what is read from an entry on, and then goes further down.
pub record MayBegin (e : Entry) (room : ℕ) (entry : Entry) (pre : Global → MutBor Cursor → Entry → Type 0)
    (post : Global → MutBor Cursor → Entry → Result Operand Stop → MutBor Cursor → Type 0) (old : Cursor) : Type 0 where
  pub calls : Descends room entry pre post
  pub below : extent old.room e ≤ extent room entry

-- whether annotations were read before, or are now
abbrev pub annotated : Bool → Read Bool → Read Bool
annotated false o = o
annotated true o = mapped (λ b. true) o
