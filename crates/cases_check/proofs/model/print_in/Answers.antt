use Rattle.std.proofs.Common.{length}
use Rattle.mz_scope_order.specs.Scoped.{scoped_tree}
use Rattle.mz_analysis.specs.Analysis.{count_read}
use Rattle.mz_analysis.proofs.Later.{named_model}
use Rattle.cases_check.proofs.model.print_in.Goals as goal

pub print-requires : goal.print-requires
print-requires c = record {
  distinct = c.in-Ok.ensures.scoped.scoped.distinct;
  ordered = c.in-Ok.ensures.ordered;
  named = named_model (length c.args.names.now) (count_read c.args.read.now) (scoped_tree c.in-Ok.scoped) c.in-Ok.ensures.within;
}
