use Rattle.std.proofs.Common.{refl}
use Rattle.mz_core.specs.Types.{plain_type}
use Rattle.mz_model_names.specs.declared.forms.Form.TheVariants as form
use Rattle.mz_model_names.specs.Named.{held_name}
use Rattle.mz_model_names.proofs.Nexts.{many_over}
use Rattle.mz_model_names.proofs.made.of_many.Goals as goal

pub returns-clause-name : goal.returns-clause-name
returns-clause-name c = many_over c.names_are_added.ensures.var (plain_type c.args.t.now) c.args.label.slot c.args.label.name c.args.label (form.Many c.args.parts.0 c.args.parts.1 c.args.value) c.args.parts.0.items c.args.parts.1.items c.args.value c.args.run.now c.many_name.new.run (held_name c.in_ok-h.h) (c.is_par.ensures c.if-is_par.false) c.requires (λ r. refl) c.in_ok-h.ensures.var
