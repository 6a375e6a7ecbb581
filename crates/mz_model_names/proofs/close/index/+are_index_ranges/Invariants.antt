use Rattle.std.proofs.Common.{length}
use Rattle.mz_model_names.proofs.close.index.+are_index_ranges.Given as goal

abbrev pub decreases-are_index_ranges : goal.decreases-are_index_ranges
decreases-are_index_ranges l = length l.ranges.now
