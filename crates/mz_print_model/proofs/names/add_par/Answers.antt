use Rattle.std.proofs.Common.{refl}
use Rattle.mz_core.specs.TreeViews.{decl}
use Rattle.mz_print_model.proofs.Named.{par_added, par_named}
use Rattle.mz_print_model.proofs.names.add_par.Goals as goal

pub returns : goal.returns
returns c =
    par_added (decl c.args.d.now) c.args.pars.now c.args.at _ c.index-pars-at.result _ _ _ c.requires.var c.requires.there c.in_ok-push.ensures.items (par_named _ _ _ _ c.slot_of.ensures c.in_ok-cell.ensures.of) refl
