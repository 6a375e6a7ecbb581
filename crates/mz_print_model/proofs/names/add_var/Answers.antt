use Rattle.std.proofs.Common.{ap}
use Rattle.mz_core.specs.TreeViews.{decl}
use Rattle.mz_print_model.specs.Names.{variable}
use Rattle.mz_print_model.proofs.Named.{var_added}
use Rattle.mz_print_model.proofs.names.add_var.Goals as goal

pub returns : goal.returns
returns c = λ vs. var_added (decl c.args.d.now) vs c.args.at _ _ _ c.requires (ap variable c.slot_of.ensures) c.in_ok-push.ensures.items
