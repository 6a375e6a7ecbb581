use Rattle.std.proofs.Common.{◌∙◌}
use Rattle.mz_core.specs.Tree.{type_of}
use Rattle.mz_core.specs.TreeViews.{tree}
use Rattle.mz_eval_chains.specs.Links.{links_round}
use Rattle.mz_eval_chains.proofs.LastLinks.{base_at_end, base_before_end}
use Rattle.mz_eval_chains.proofs.bases.operand_base.Goals as goal

pub returns-in-Some : goal.returns-in-Some
returns-in-Some c =
    let o = c.args.o.now in
    base_at_end (type_of (tree o.operand.now)) (links_round o.after) o.step.now.right.items c.as_slice-links.result.now c.last.result c.in-Some.l c.as_slice-links.ensures.value c.last.ensures.value c.in-Some.is

pub returns-in-None : goal.returns-in-None
returns-in-None c =
    let o = c.args.o.now in
    c.round_base.ensures
    ∙ base_before_end (type_of (tree o.operand.now)) (links_round o.after) o.step.now.right.items c.as_slice-links.result.now c.last.result c.as_slice-links.ensures.value c.last.ensures.value c.in-None.is
