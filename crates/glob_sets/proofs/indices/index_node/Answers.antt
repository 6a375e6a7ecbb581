use Rattle.std.proofs.Common.{◌∙◌, Some, ap, rules}
use Rattle.std.proofs.lemmas.Int.{to_z-of_z}
use mir.Syntax.{w64}
use Rattle.mz_arena.specs.Values as terms
use Rattle.glob_nodes.proofs.Saying.{ok_so}
use Rattle.glob_sets.proofs.Belonging.{range_by}
use Rattle.glob_sets.proofs.indices.index_node.Goals as goal

pub returns-clause-gives : goal.returns-clause-gives
returns-clause-gives c =
    let xs = c.args.xs.now in
    ok_so c.set_node.result c.set_node.ensures.gives (λ id g. record { same = g.same; is = λ r q. g.is r q ∙ ap (λ s. Some (terms.set s)) (range_by c.in_ok-set.set _ xs.first _ xs.last c.in_ok-set.ensures (to_z-of_z w64 xs.first (search rules)) (to_z-of_z w64 xs.last (search rules))) })
