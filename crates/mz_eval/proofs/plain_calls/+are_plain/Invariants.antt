use Rattle.std.proofs.Common.{length}
use Rattle.mz_eval.proofs.plain_calls.+are_plain.Given as goal

abbrev pub decreases-are_plain : goal.decreases-are_plain
decreases-are_plain l = length l.all.now
