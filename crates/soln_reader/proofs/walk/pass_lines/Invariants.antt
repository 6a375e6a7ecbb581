use Rattle.std.proofs.Common.{◌≤◌, ◌+◌, ◌-◌, drop, length}
use Rattle.fz_items.specs.Forms.{forms}
use Rattle.soln_reader.specs.Views.{block_of}
use Rattle.soln_reader.specs.Stream.{line_len, Passes}
use Rattle.soln_reader.specs.StepsUndo.{Restores}
use Rattle.soln_reader.specs.StepsWalk.{place_at}
use Rattle.soln_reader.proofs.walk.pass_lines.Given as goal

abbrev pub invariant-lines : goal.invariant-lines
invariant-lines l = record {
  passed : Passes (forms l.shapes) l.ended (place_at l.fn.lines (block_of l.initial.block)) l.bytes (place_at l.passed (block_of l.block)) (drop l.at l.bytes);
  within : l.at ≤ length l.bytes;
  few : l.passed + (length l.bytes - l.at) ≤ l.fn.lines + length l.bytes;
  known : l.known ≤ line_len (drop l.at l.bytes);
  restores : Restores l.slots.items (block_of l.initial.block) (block_of l.block);
}

abbrev pub decreases-lines : goal.decreases-lines
decreases-lines l = length l.bytes - l.at
