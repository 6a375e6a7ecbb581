use Rattle.mz_core.specs.Types.{plain_type}
use Rattle.mz_model_names.specs.Named.{held_name}
use Rattle.mz_model_names.proofs.Nexts.{one_over}
use Rattle.mz_model_names.proofs.made.of_one.Goals as goal

pub returns-clause-name : goal.returns-clause-name
returns-clause-name c = one_over c.names_are_added.ensures.var (plain_type c.args.t.now) c.args.label.slot c.args.label.name c.args.label c.args.set c.args.value c.args.run.now c.one_name.new.run (held_name c.in_ok-h.h) (c.is_par.ensures c.if-is_par.false) c.requires c.in_ok-h.ensures.var
