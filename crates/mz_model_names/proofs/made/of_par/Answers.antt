use Rattle.std.proofs.Common.{◌∙◌, sym}
use Rattle.mz_core.specs.Types.{plain_type}
use Rattle.mz_model_names.specs.Named.{held_name}
use Rattle.mz_model_names.proofs.Nexts.{par_over}
use Rattle.mz_model_names.proofs.made.of_par.Goals as goal

pub returns-clause-name : goal.returns-clause-name
returns-clause-name c = par_over c.names_are_added.ensures.par c.roots_tell_values.ensures.none (plain_type c.args.t.now) c.args.label.slot c.args.k c.args.run.now (held_name c.par_name.result) (sym c.is_var.ensures ∙ c.if-is_var.false) c.par_name.ensures.name
