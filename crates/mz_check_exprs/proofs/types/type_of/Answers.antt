use Rattle.std.proofs.Common.{◌∙◌, length, ap}
use Rattle.mz_tree.specs.declared.expr.Form.TheViews.{out-Decl}
use Rattle.mz_tree.specs.Views.{written}
use Rattle.mz_scope_order.specs.Scoped.{scoped_decl}
use Rattle.mz_check_meaning.specs.Models.{Env}
use Rattle.mz_check_meaning.specs.Typing.{check_written}
use Rattle.mz_check_context.specs.Known.{known}
use Rattle.mz_check_exprs.proofs.Named.{type_named}
use Rattle.mz_check_exprs.proofs.types.type_of.Goals as goal

pub check_written-t-requires : goal.check_written-t-requires
check_written-t-requires c = type_named (length (known c.args.context.now).texts) (scoped_decl c.args.d.now) c.requires

pub returns : goal.returns
returns c =
    let t = written (out-Decl c.args.d.now.decl.now).ty in
    c.in_ok-answer.ensures (check_written (known c.args.context.now) t c.outermost-scope.result) c.check_written-t.ensures.passes
    ∙ ap (λ (env : Env). check_written (known c.args.context.now) t env) c.outermost-scope.ensures
