use Rattle.std.proofs.Common.{map}
use Rattle.mz_tree.specs.Data.{given}
use Rattle.cases_check.proofs.Known.{occurring}
use Rattle.cases_check.proofs.with_data.print_scope.Goals as goal

pub scope-requires : goal.scope-requires
scope-requires c = occurring c.args.names.now c.args.sources.now.files.items (map given c.args.given_data.now.items.items) c.requires.known c.requires.within
