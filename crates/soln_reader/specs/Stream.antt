-- The solver's stream: lines, items, blocks and marks.
use Rattle.std.specs.Prelude.{◌≡◌, ℕ, ◌+◌, ◌-◌, ◌<◌, List, [], ◌∷◌, length, take, drop, Bool, true, ◌&&◌, ◌||◌, nat_eq, nat_lt, Option, Some, None, codes, slice_index, if◌then◌else◌}
use Rattle.std.specs.List.{prefix_len}
use Rattle.std.specs.Str.{bytes_eq}
use Rattle.mz_value.specs.Contents.{Content}
use Rattle.soln_reader.specs.declared.next.Mark.{Mark}
use Rattle.soln_reader.specs.declared.next.Mark.TheVariants.{Complete, Unsatisfiable, Unknown, Unbounded, UnsatOrUnbounded, Error}
use Rattle.soln_reader.specs.declared.line.TheConstants.{LINE_LIMIT}
use Rattle.fz_items.specs.Bytes.{first_byte, is_no_newline}
use Rattle.fz_items.specs.Forms.{Form}
use Rattle.fz_items.specs.Items.{is_empty, item_of, Item}
use Rattle.soln_reader.specs.Blocks.{Given, Block, given_in, put, solution}

-- lines

-- the most bytes of a line, its newline aside
abbrev pub line_limit : ℕ
line_limit = LINE_LIMIT

-- how many bytes stand before the first newline, or before the end
abbrev pub line_len : List ℕ → ℕ
line_len bs = prefix_len is_no_newline bs

abbrev pub has_newline : List ℕ → Bool
has_newline bs = nat_lt (line_len bs) (length bs)

-- a carriage return before the newline is dropped
abbrev pub chopped : List ℕ → List ℕ
chopped line = if nat_eq (slice_index line (length line - 1)) 13 then take (length line - 1) line else line

-- the first line, without its newline
unfoldable pub first_line : List ℕ → List ℕ
first_line bs = if has_newline bs then chopped (take (line_len bs) bs) else take (line_len bs) bs

-- the bytes after the first line and its newline
abbrev pub after_line : List ℕ → List ℕ
after_line bs = drop (line_len bs + 1) bs

-- a line longer than the limit, or the first bytes of one
abbrev pub is_too_long : List ℕ → Bool
is_too_long bs = nat_lt line_limit (line_len bs)

-- whether a whole line stands first: its newline does, or it is too long already, or no more bytes come
unfoldable pub has_line : Bool → List ℕ → Bool
has_line ended bs = has_newline bs || (is_too_long bs || (ended && nat_lt 0 (length bs)))

-- what a line says

unfoldable pub mark_of : List ℕ → Option Mark
mark_of line =
    if bytes_eq line (codes "==========") then Some Complete else
    if bytes_eq line (codes "=====UNSATISFIABLE=====") then Some Unsatisfiable else
    if bytes_eq line (codes "=====UNKNOWN=====") then Some Unknown else
    if bytes_eq line (codes "=====UNBOUNDED=====") then Some Unbounded else
    if bytes_eq line (codes "=====UNSATorUNBOUNDED=====") then Some UnsatOrUnbounded else
    if bytes_eq line (codes "=====ERROR=====") then Some Error else None

-- a line that says nothing: blanks alone, or a comment
unfoldable pub is_skipped : List ℕ → Bool
is_skipped line = nat_eq (first_byte line) 37 || is_empty line

unfoldable pub ends_block : List ℕ → Bool
ends_block line = bytes_eq line (codes "----------")

-- a solution has a value for each shape
pub data Event : Type 0 where
  block : List Content → Event
  mark : Mark → Event

-- what a line does where a block stands: it leaves a block, gives an event, after which no block is open, or is bad
pub data Outcome : Type 0 where
  leaves : Block → Outcome
  gives : Event → Outcome
  is_bad : Outcome

abbrev pub at_block_end : Option (List Content) → Outcome
at_block_end (Some xs) = gives (block xs)
at_block_end None = is_bad

abbrev pub at_mark : Block → Mark → Outcome
at_mark None m = gives (mark m)
at_mark (Some gs) m = is_bad

abbrev pub at_put : Option (List Given) → Outcome
at_put (Some gs) = leaves (Some gs)
at_put None = is_bad

abbrev pub at_item : List Given → Option Item → Outcome
at_item gs (Some i) = at_put (put i.0 i.1 gs)
at_item gs None = is_bad

abbrev pub at_other : List Form → Block → List ℕ → Option Mark → Outcome
at_other fs b line (Some m) = at_mark b m
at_other fs b line None = at_item (given_in fs b) (item_of fs line)

unfoldable pub outcome : List Form → Block → List ℕ → Outcome
outcome fs b line =
    if is_skipped line then leaves b else
    if ends_block line then at_block_end (solution fs (given_in fs b))
    else at_other fs b line (mark_of line)

-- what the first line does
unfoldable pub line_outcome : List Form → Block → List ℕ → Outcome
line_outcome fs b bs = if is_too_long bs then is_bad else outcome fs b (first_line bs)

-- the stream

-- between two lines: how many lines stand before, and the block that is open
pub record Place : Type 0 where
  pub lines : ℕ
  pub block : Block

abbrev pub next_place : Place → Block → Place
next_place p b = record { lines = p.lines + 1; block = b }

pub data Ending : Type 0 where
  whole : Ending
  -- the number of the first bad line
  bad : ℕ → Ending

-- from a place on, the bytes are these blocks and marks, up to the end or to the first bad line
pub data Stream (fs : List Form) : Place → List ℕ → List Event → Ending → Type 0 where
  at_the_end : {p : Place} → p.block ≡ None → Stream fs p [] [] whole
  in_a_block : {p : Place} {gs : List Given} → p.block ≡ Some gs → Stream fs p [] [] (bad p.lines)
  passes : {p : Place} {bs : List ℕ} {b : Block} {es : List Event} {x : Ending} → 0 < length bs → line_outcome fs p.block bs ≡ leaves b → Stream fs (next_place p b) (after_line bs) es x → Stream fs p bs es x
  an_event : {p : Place} {bs : List ℕ} {e : Event} {es : List Event} {x : Ending} → 0 < length bs → line_outcome fs p.block bs ≡ gives e → Stream fs (next_place p None) (after_line bs) es x → Stream fs p bs (e ∷ es) x
  a_bad_line : {p : Place} {bs : List ℕ} → 0 < length bs → line_outcome fs p.block bs ≡ is_bad → Stream fs p bs [] (bad (p.lines + 1))

-- whole lines at the beginning pass: each is skipped or an item. They lead from a place to a place, and leave these bytes
pub data Passes (fs : List Form) (ended : Bool) : Place → List ℕ → Place → List ℕ → Type 0 where
  no_line : {p : Place} {bs : List ℕ} → Passes fs ended p bs p bs
  a_line : {p : Place} {bs : List ℕ} {b : Block} {q : Place} {rest : List ℕ} → has_line ended bs ≡ true → line_outcome fs p.block bs ≡ leaves b → Passes fs ended (next_place p b) (after_line bs) q rest → Passes fs ended p bs q rest
