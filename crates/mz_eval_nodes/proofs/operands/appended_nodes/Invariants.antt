use Rattle.std.proofs.Common.{length}
use Rattle.mz_meaning.specs.Runs.{loop, then_do, give}
use Rattle.mz_meaning.specs.Forms.{append_node}
use Rattle.mz_symbol.specs.Makes.{Continues}
use Rattle.mz_eval_cells.specs.Views.{seen}
use Rattle.mz_eval_scopes.specs.Seen.{world_seen}
use Rattle.mz_eval_nodes.specs.Operators.{lefts_seen}
use Rattle.mz_eval_nodes.proofs.operands.appended_nodes.Given as goal

abbrev pub invariant-loop-p : goal.invariant-loop-p
invariant-loop-p l = Continues l.fn.run l.run
    (λ r s. then_do (loop (append_node (world_seen r l.world)) (l.fn.x.place, seen r l.fn.x.last) (lefts_seen r l.fn.x.lefts.items) s) (λ x. give x.1))
    (λ r s. then_do (loop (append_node (world_seen r l.world)) (l.place, seen r l.last) (lefts_seen r l.lefts.items) s) (λ x. give x.1))

abbrev pub decreases-loop-p : goal.decreases-loop-p
decreases-loop-p l = length l.lefts.items
