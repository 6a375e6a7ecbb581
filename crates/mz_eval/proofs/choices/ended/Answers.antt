use Rattle.std.proofs.Common.{◌≡◌, ◌∙◌, sym, ap}
use Rattle.mz_core.specs.Types.{plain_type}
use Rattle.mz_meaning.specs.Runs.{then_do}
use Rattle.mz_meaning.specs.Arrays.{branch_cell}
use Rattle.mz_symbol.specs.Readings.{state_of}
use Rattle.mz_eval_cells.specs.Views.{seen}
use Rattle.mz_eval_nodes.specs.Views.{pairs_seen}
use Rattle.mz_eval_chains.proofs.Runs.{meets_at_is}
use Rattle.mz_eval.proofs.choices.ended.Goals as goal

pub returns-clause-means : goal.returns-clause-means
returns-clause-means c r h =
    let u = state_of r c.spend.new.self in
    let t = plain_type c.args.node.now.ty in
    let at = c.args.node.now.span in
    meets_at_is (seen r) c.chosen_branch.result (state_of r c.chosen_branch.new.run) _ _
    (ap (λ a. then_do a (λ _. branch_cell r.mode t at (pairs_seen r c.args.others.items) (seen r c.args.cell))) (c.in_ok-spend.ensures.means r (c.chosen_branch.ensures.goes.back r h))
    ∙ ap (λ ps. branch_cell r.mode t at (pairs_seen r ps) (seen r c.args.cell) u) (sym c.deref.ensures.value))
    (c.chosen_branch.ensures.means r h)
