use Rattle.std.proofs.Common.{length}
use Rattle.mz_check_context.specs.Known.{known}
use Rattle.mz_check_exprs.proofs.NamingLaws.{expression_named, expression_callee_named}
use Rattle.mz_check_exprs.proofs.laws.form_is_named.Goals as goal

pub returns : goal.returns
returns c =
    let k = length (known c.args.context.now).texts in
    record { parts = expression_named k c.args.e.now c.requires; callee = expression_callee_named k c.args.e.now c.requires }
