use Rattle.std.proofs.Common.{◌∙◌, sym}
use Rattle.std.proofs.lemmas.List.{length-map}
use Rattle.mz_core.specs.TreeViews.{decl}
use Rattle.mz_model_names.specs.Named.{held_name}
use Rattle.mz_model.specs.Walks.{names_of}
use Rattle.mz_model.proofs.Steps.{declared_on, declared_not}
use Rattle.mz_model.proofs.declarations.declare_next.Goals as goal

pub returns-clause-ends : goal.returns-clause-ends
returns-clause-ends c = declared_on c.walks_go_on.ensures.name c.args.task.now c.args.run.now c.next_form.new.run c.add_name.new.run (names_of c.args.names.now) (names_of c.add_name.new.names) (decl c.args.d.now) c.in_ok-form.form c.in_ok-form.ensures c.in-Ok.ensures.added (c.is_other.ensures c.if-is_other.false ∙ sym (length-map c.args.names.now.list.items held_name))

pub returns-in_err-form-clause-ends : goal.returns-in_err-form-clause-ends
returns-in_err-form-clause-ends c = declared_not c.names_are_added.ensures.stops c.walks_are_closed.ensures.declaration c.args.task.now c.args.run.now c.next_form.new.run (names_of c.args.names.now) (decl c.args.d.now) c.from_residual.result c.in_err-form.field-0.0 c.in_err-form.ensures c.from_residual.ensures.1
