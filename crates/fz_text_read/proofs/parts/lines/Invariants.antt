use Rattle.std.proofs.Common.{◌≡◌, ◌-◌, length, map}
use Rattle.fz_text_read.specs.Lines.{every_at, lines_at}
use Rattle.fz_text_read.proofs.PartLoops.{with_prefix}
use Rattle.fz_text_read.proofs.parts.lines.Given as goal

abbrev pub invariant-loop-turn : goal.invariant-loop-turn
invariant-loop-turn g l = with_prefix (map g.P.Part.seen l.items.items) (lines_at l.head (g.P.Part.read_at l.part) (length l.bytes - l._turn) l.rest) ≡ every_at l.head (g.P.Part.read_at l.part) l.bytes
