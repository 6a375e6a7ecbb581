use Rattle.std.proofs.Common.{length, map}
use Rattle.mz_tree.specs.Data.{given}
use Rattle.mz_scope_names.specs.StepsWalk.{items_of}
use Rattle.mz_scope_order.specs.Scoped.{scoped_tree}
use Rattle.mz_analysis.proofs.Items.{all_known}
use Rattle.cases_check.proofs.Known.{occurring}
use Rattle.cases_check.proofs.Within.{data_named}
use Rattle.cases_check.proofs.with_data.typed.Goals as goal

pub scope-requires : goal.scope-requires
scope-requires c = occurring c.args.names.now c.args.sources.now.files.items (map given c.args.given_data.now.items.items) c.requires.known c.requires.within

pub check-requires : goal.check-requires
check-requires c = record {
  distinct = c.in_ok-scoped.ensures.scoped.distinct;
  ordered = c.in_ok-scoped.ensures.ordered;
  named = data_named (length c.args.names.now) (length c.args.sources.now.files.items) (items_of c.args.sources.now.files.items) (map given c.args.given_data.now.items.items) (scoped_tree c.in_ok-scoped.scoped) (all_known c.args.names.now c.args.sources.now.files.items c.requires.known) c.requires.within c.in_ok-scoped.ensures.scoped;
}
