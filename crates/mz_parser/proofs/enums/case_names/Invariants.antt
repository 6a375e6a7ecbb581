-- What was read so far, and then what the rest is read to, is what the whole is read to.
use Rattle.std.proofs.Common.{◌≡◌, ◌≤◌, length}
use Rattle.mz_grammar.specs.RulesReading.{with_prefix}
use Rattle.mz_grammar.specs.Parts as parts
use Rattle.mz_grammar.specs.Reading.{reads}
use Rattle.mz_parser.proofs.enums.case_names.Given as goal

abbrev pub invariant-loop-cur : goal.invariant-loop-cur
invariant-loop-cur l = record {
  reads : with_prefix l.all.items (reads parts.case_names l.cur.room l.cur.rest.now) ≡ reads parts.case_names l.fn.cur.room l.fn.cur.rest.now;
  room : l.cur.room ≡ l.fn.cur.room;
  end : l.cur.end ≡ l.fn.cur.end;
  shorter : length l.cur.rest.now ≤ length l.fn.cur.rest.now;
}

abbrev pub decreases-loop-cur : goal.decreases-loop-cur
decreases-loop-cur l = length l.cur.rest.now
