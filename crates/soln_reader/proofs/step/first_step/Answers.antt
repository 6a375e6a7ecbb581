use Rattle.std.proofs.Common.{arith}
use Rattle.std.proofs.lemmas.List.Sums.{prefix_len-le-length}
use Rattle.fz_items.specs.Bytes.{is_no_newline}
use Rattle.soln_reader.proofs.step.first_step.Goals as goal

pub line_len_from-n-requires-clause-room : goal.line_len_from-n-requires-clause-room
line_len_from-n-requires-clause-room c = omega (arith, c.requires.seen, prefix_len-le-length is_no_newline c.args.bytes.now)

pub returns-then-n-bytes : goal.returns-then-n-bytes
returns-then-n-bytes c = c.whole_line.ensures c.args.ended
