use Rattle.std.proofs.Common.{[], ◌∷◌, ap}
use Rattle.mz_symbol.specs.Readings.{blank, state_of}
use Rattle.mz_eval_cells.specs.Views.{seen}
use Rattle.mz_eval_scopes.specs.Seen.{world_seen}
use Rattle.mz_eval_chains.specs.Innermosts.{operator_of}
use Rattle.mz_eval_chains.proofs.Runs.{meets_at_is}
use Rattle.mz_eval_nodes.specs.RowNodes.{node_by}
use Rattle.mz_eval_nodes.proofs.BareLaws.{cell_blind}
use Rattle.mz_eval_nodes.proofs.operands.node_over.Goals as goal

pub returns-in-Some-clause-means : goal.returns-in-Some-clause-means
returns-in-Some-clause-means c r h =
    let o = operator_of c.args.o.now in
    meets_at_is (seen r) c.node_of_numbers.result (state_of r c.node_of_numbers.new.run) _ _
    (ap (λ p. node_by (world_seen r c.args.world.now) o.at o.step.ty (seen r c.args.a ∷ seen r c.args.b ∷ []) p (state_of r c.args.run.now)) c.in-Some.ensures.row)
    (c.node_of_numbers.ensures.means (λ q. seen q c.args.a) (λ q. seen q c.args.b) c.in-Some.ensures.numbers r h)

pub returns-in-Some-clause-bare : goal.returns-in-Some-clause-bare
returns-in-Some-clause-bare c =
    let o = operator_of c.args.o.now in
    meets_at_is (seen blank) c.node_of_numbers.result (state_of blank c.node_of_numbers.new.run) _ _
    (ap (λ p. node_by (world_seen blank c.args.world.now) o.at o.step.ty (seen blank c.args.a ∷ seen blank c.args.b ∷ []) p (state_of blank c.args.run.now)) c.in-Some.ensures.row)
    (c.node_of_numbers.ensures.bare (λ q. seen q c.args.a) (λ q. seen q c.args.b) (λ s. cell_blind s c.args.a) (λ s. cell_blind s c.args.b) c.in-Some.ensures.numbers)
