use Rattle.std.proofs.Common.{◌∷◌, [], false}
use Rattle.mz_globals.specs.declared.global.Global.TheVariants as global
use Rattle.mz_meaning.specs.Cells.{value_of}
use Rattle.mz_eval_cells.specs.Views.{seen}
use Rattle.mz_eval_global_terms.proofs.CallLaws.{call_is}
use Rattle.mz_eval_global_terms.proofs.ParLaws.{no_windows}
use Rattle.mz_eval_global_terms.proofs.windows.of_sliding.Goals as goal

pub returns-then-is_undefined-clause-call : goal.returns-then-is_undefined-clause-call
returns-then-is_undefined-clause-call c =
    call_is global.SlidingSum (c.args.a.now ∷ c.args.b.now ∷ c.args.n.now ∷ c.args.d.now ∷ []) _ _ false c.in_ok-id.id c.in_ok-id.ensures.says
    (λ r. no_windows _ _ (value_of (seen r c.args.n.now)) _ (c.is_undefined.ensures c.if-is_undefined.true r))
