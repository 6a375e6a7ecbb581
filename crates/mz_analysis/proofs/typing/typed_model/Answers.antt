use Rattle.std.proofs.Common.{length}
use Rattle.mz_scope_order.specs.Scoped.{scoped_tree}
use Rattle.mz_core.specs.Program.{plain_program}
use Rattle.mz_analysis.specs.Analysis.{FailsTest, files_read, items_read, count_read}
use Rattle.mz_analysis.proofs.Declared.{declared_within, typed_within}
use Rattle.mz_analysis.proofs.Later.{named_model}
use Rattle.mz_analysis.proofs.Fails.{names_fail, types_fail, handed_on}
use Rattle.mz_analysis.proofs.typing.typed_model.Goals as goal

pub check-requires-clause-distinct : goal.check-requires-clause-distinct
check-requires-clause-distinct c = c.in_ok-scoped.ensures.scoped.scoped.distinct

pub check-requires-clause-named : goal.check-requires-clause-named
check-requires-clause-named c = named_model _ _ (scoped_tree c.in_ok-scoped.scoped) c.in_ok-scoped.ensures.within

pub returns-in_err-scoped-clause-refused : goal.returns-in_err-scoped-clause-refused
returns-in_err-scoped-clause-refused c =
    handed_on (FailsTest c.args.names.now (files_read c.args.names.now c.args.read.now) (length c.args.read.now.data_files.items) (items_read c.args.read.now)) c.from_residual.result c.in_err-scoped.field-0.0 c.from_residual.ensures.1
    (names_fail c.args.names.now c.args.read.now.sources.files.items (length c.args.read.now.data_files.items) (items_read c.args.read.now) c.in_err-scoped.field-0.0 c.in_err-scoped.ensures.refused c.in_err-scoped.ensures.placed)

pub returns-in_err-program-clause-refused : goal.returns-in_err-program-clause-refused
returns-in_err-program-clause-refused c =
    handed_on (FailsTest c.args.names.now (files_read c.args.names.now c.args.read.now) (length c.args.read.now.data_files.items) (items_read c.args.read.now)) c.from_residual-in_err-program.result c.in_err-program.field-0.0 c.from_residual-in_err-program.ensures.1
    (types_fail c.args.names.now c.args.read.now.sources.files.items (length c.args.read.now.data_files.items) (items_read c.args.read.now) (scoped_tree c.in_ok-scoped.scoped) c.in_err-program.field-0.0 c.requires.some c.requires.files c.in_ok-scoped.ensures.scoped c.in_ok-scoped.ensures.within c.in_err-program.ensures.refused)

pub returns-clause-typed : goal.returns-clause-typed
returns-clause-typed c = record {
  scoped = scoped_tree c.in_ok-scoped.scoped;
  is = c.in_ok-scoped.ensures.scoped;
  types = c.in_ok-program.ensures.checks;
}

pub returns-clause-named : goal.returns-clause-named
returns-clause-named c =
    declared_within c.args.names.now (files_read c.args.names.now c.args.read.now) (items_read c.args.read.now) (plain_program c.in_ok-program.program) (length c.args.names.now) (count_read c.args.read.now)
    (record { scoped = scoped_tree c.in_ok-scoped.scoped; is = c.in_ok-scoped.ensures.scoped; types = c.in_ok-program.ensures.checks })
    c.in_ok-scoped.ensures.within

pub returns-clause-named_in_order : goal.returns-clause-named_in_order
returns-clause-named_in_order c =
    typed_within c.args.names.now (files_read c.args.names.now c.args.read.now) (items_read c.args.read.now) (plain_program c.in_ok-program.program) (length c.args.names.now) (count_read c.args.read.now)
    (record { scoped = scoped_tree c.in_ok-scoped.scoped; is = c.in_ok-scoped.ensures.scoped; types = c.in_ok-program.ensures.checks })
    c.in_ok-scoped.ensures.within
