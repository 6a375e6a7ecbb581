use Rattle.std.proofs.Common.{◌∙◌, ap}
use Rattle.mz_meaning.specs.Runs.{Out}
use Rattle.mz_meaning.specs.Cells.{held}
use Rattle.mz_symbol.specs.Readings.{state_of}
use Rattle.mz_eval_cells.specs.Views.{var_content}
use Rattle.mz_eval_symbols.proofs.Arrays.{held_twice}
use Rattle.mz_eval_symbols.proofs.symbols.var_symbol.Goals as goal

pub returns-in-Some-clause-means : goal.returns-in-Some-clause-means
returns-in-Some-clause-means c r h =
    ap (λ v. Out v (state_of r c.args.run.now)) (held_twice r.mode (var_content r.term c.args.v.now) ∙ ap (held r.mode) (c.in-Some.ensures r.term))
