use Rattle.std.proofs.Common.{◌≡◌, ◌-◌, length, map}
use Rattle.fz_text_read.specs.Lists.{all_at, parts_at}
use Rattle.fz_text_read.proofs.PartLoops.{with_prefix}
use Rattle.fz_text_read.proofs.parts.all.Given as goal

abbrev pub invariant-loop-turn : goal.invariant-loop-turn
invariant-loop-turn g l = with_prefix (map g.P.Part.seen l.items.items) (parts_at (g.P.Part.read_at l.part) (length l.bytes - l._turn) l.rest) ≡ all_at (g.P.Part.read_at l.part) l.bytes
