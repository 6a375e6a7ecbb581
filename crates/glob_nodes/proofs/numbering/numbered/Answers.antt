use Rattle.std.proofs.Common.{◌∙◌, subst, arith, rules}
use Rattle.std.proofs.lemmas.Int.{to_z-of_z}
use mir.Syntax.{w64}
use mir.Val.{to_z, of_z}
use Rattle.glob_nodes.specs.Places.{AreNumbered}
use Rattle.glob_nodes.proofs.Indexing.{numbering_begins, numbering_step, numbering_whole}
use Rattle.glob_nodes.proofs.numbering.numbered.Goals as goal

pub loop-k-init : goal.loop-k-init
loop-k-init c = numbering_begins c.args.run.now (to_z w64 (of_z w64 c.args.first)) c.args.items.now c.new-ps.result.items c.new-ps.ensures.items

pub loop-k-preserved : goal.loop-k-preserved
loop-k-preserved c = numbering_step c.args.run.now c.loop-k.run c.constant.new.run _ (to_z w64 c.loop-k.index-bits) _ c.args.items.now c.loop-k.k _ c.in_ok-id.id c.loop-k.ps.items c.push.new.self.items c.loop-k.invariant (omega (arith, c.loop-k-test.true)) (omega arith) c.in_ok-id.ensures.goes c.in_ok-id.ensures.is (to_z-of_z w64 c.in_ok-index.index (search rules) ∙ c.in_ok-index.ensures) c.in_ok-push.ensures.items

pub returns-clause-goes : goal.returns-clause-goes
returns-clause-goes c = c.loop-k.invariant.goes

pub returns-clause-numbered : goal.returns-clause-numbered
returns-clause-numbered c = subst (λ n. AreNumbered c.args.run.now c.loop-k.run n c.args.items.now c.loop-k.ps.items) (to_z-of_z w64 c.args.first (search rules)) (numbering_whole c.args.run.now c.loop-k.run (to_z w64 (of_z w64 c.args.first)) (to_z w64 c.loop-k.index-bits) c.args.items.now c.loop-k.k c.loop-k.ps.items c.loop-k.invariant (omega (arith, c.loop-k-test.false)))
