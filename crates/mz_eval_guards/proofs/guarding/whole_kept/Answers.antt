use Rattle.std.proofs.Common.{◌∙◌, sym, ap}
use Rattle.mz_eval_cells.specs.Views.{var_content}
use Rattle.mz_eval_guards.proofs.guarding.whole_kept.Goals as goal

pub untold_kept-requires : goal.untold_kept-requires
untold_kept-requires c t = ap (var_content t) (sym c.deref.ensures) ∙ c.is_untold.ensures c.if-is_untold.true t
