use Rattle.std.proofs.Common.{map}
use Rattle.std.proofs.lemmas.Result.{IfOk-weaker}
use Rattle.mz_arena.specs.Instances.{par_value}
use Rattle.mz_print_model.proofs.names.add_decl.Goals as goal

pub returns-then-is_var_name : goal.returns-then-is_var_name
returns-then-is_var_name c = IfOk-weaker c.add_var.result _ _ (λ next added. added (map par_value c.args.pars.now)) c.add_var.ensures
