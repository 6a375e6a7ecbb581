use Rattle.std.proofs.Common.{arith}
use Rattle.mz_analysis.specs.Analysis.{items_read, count_read}
use Rattle.mz_analysis.proofs.Items.{names_known}
use Rattle.mz_analysis.proofs.Tested.{scoped_model, ill_named, within, fault_placed}
use Rattle.mz_analysis.proofs.scoping.scoped_model.Goals as goal

pub scope-requires : goal.scope-requires
scope-requires c = names_known c.args.names.now c.args.read.now.sources.files.items (count_read c.args.read.now) (items_read c.args.read.now) c.requires.files c.requires.items

pub returns-clause-scoped : goal.returns-clause-scoped
returns-clause-scoped c = scoped_model c.args.names.now c.args.read.now.sources.files.items c.args.read.now.given_data.items.items c.scope.result c.scope.ensures.tested c.scope.ensures.scoped

pub returns-clause-within : goal.returns-clause-within
returns-clause-within c =
    within c.args.names.now c.args.read.now.sources.files.items c.args.read.now.given_data.items.items (count_read c.args.read.now) (omega arith) c.requires.files c.requires.items c.scope.result c.scope.ensures.scoped

pub returns-clause-refused : goal.returns-clause-refused
returns-clause-refused c = ill_named c.args.names.now c.args.read.now.sources.files.items c.args.read.now.given_data.items.items c.scope.result c.scope.ensures.refused

pub returns-clause-placed : goal.returns-clause-placed
returns-clause-placed c =
    fault_placed c.args.names.now c.args.read.now.sources.files.items c.args.read.now.given_data.items.items (count_read c.args.read.now) (omega arith) c.requires.files c.requires.items c.requires.some c.scope.result c.scope.ensures.refused
