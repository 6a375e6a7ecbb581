use Rattle.std.proofs.Common.{◌∙◌, ◌++◌, ap}
use Rattle.mz_model_names.proofs.NameLaws.{name_taken}
use Rattle.mz_model_names.proofs.close.names.with_name.Goals as goal

pub returns : goal.returns
returns c = name_taken c.args.h c.args.t c.in_ok-all.all c.in_ok-p.p (c.in_ok-all.ensures ∙ ap (λ rs. c.args.t.roots.items ++ rs) c.deref.ensures.value) c.in_ok-p.ensures
