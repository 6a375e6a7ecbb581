use Rattle.std.proofs.Common.{◌∙◌, ap}
use Rattle.mz_meaning.specs.Runs.{Out, give, then_do}
use Rattle.mz_symbol.specs.Readings.{blank}
use Rattle.mz_eval_cells.specs.Views.{seen}
use Rattle.mz_eval_scopes.proofs.work.done.Goals as goal

pub returns-clause-bare : goal.returns-clause-bare
returns-clause-bare c =
    let k = seen blank c.args.cell in
    ap (λ a. then_do a (λ _. give k)) c.in_ok-spend.ensures.bare ∙ ap (λ s. Out k s) (c.in_ok-save.ensures.same blank)
