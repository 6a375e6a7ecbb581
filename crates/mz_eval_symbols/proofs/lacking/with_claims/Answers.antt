use Rattle.std.proofs.Common.{◌∙◌, ◌++◌, ◌∷◌, [], ap}
use Rattle.mz_eval_symbols.proofs.lacking.with_claims.Goals as goal

pub returns : goal.returns
returns c = c.in_ok-both.ensures ∙ ap (λ xs. xs ++ c.args.e ∷ []) c.in_ok-one.ensures
