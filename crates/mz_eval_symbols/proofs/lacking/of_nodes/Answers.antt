use Rattle.mz_eval_symbols.specs.declared.lacking.Claim.TheVariants as claim
use Rattle.mz_eval_symbols.proofs.LackingLaws.{false_lacks}
use Rattle.mz_eval_symbols.proofs.lacking.of_nodes.Goals as goal

pub returns-then-is_false : goal.returns-then-is_false
returns-then-is_false c = false_lacks c.args.nodes.now c.args.o c.args.x (c.is_false.ensures c.if-is_false.true)

pub returns : goal.returns
returns c =
    let es = c.args.nodes.now in
    let d = claim.Nodes c.args.o c.args.x in
    c.first.ensures es d c.by_guard.ensures
    (c.first-other.ensures es d (c.first-told.ensures es d c.by_choice.ensures (c.first-chosen.ensures es d c.by_branches.ensures c.by_condition.ensures)) (c.first-joined.ensures es d c.by_element.ensures c.by_both.ensures))
