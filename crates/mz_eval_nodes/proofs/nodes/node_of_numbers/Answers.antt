use Rattle.std.proofs.Common.{◌∙◌, ap}
use Rattle.mz_meaning.specs.Runs.{Out}
use Rattle.mz_symbol.specs.Readings.{blank, state_of}
use Rattle.mz_eval_nodes.proofs.nodes.node_of_numbers.Goals as goal

pub returns-clause-means : goal.returns-clause-means
returns-clause-means c x y n r h = c.in_ok-k.ensures.means x y n r h ∙ ap (λ d. Out d (state_of r c.number_row.new.run)) (c.in_ok-x.ensures r)

pub returns-clause-bare : goal.returns-clause-bare
returns-clause-bare c x y i j n = c.in_ok-k.ensures.bare x y i j n ∙ ap (λ d. Out d (state_of blank c.number_row.new.run)) (c.in_ok-x.ensures blank)
