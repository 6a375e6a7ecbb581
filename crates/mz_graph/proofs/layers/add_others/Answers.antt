use Rattle.std.proofs.Common.{ap, ◌∙◌, arith, ◌≡◌, ◌+◌, get_or}
use Rattle.std.proofs.lemmas.Grind.{get_or_default_zero}
use Rattle.mz_graph.specs.Graph.{number_of}
use Rattle.mz_graph.proofs.Membership.{in_at}
use Rattle.mz_graph.proofs.Reading.{other_skipped, other_added}
use Rattle.mz_graph.proofs.layers.add_others.Goals as goal
use Rattle.mz_graph.proofs.layers.add_others.Goals.{then-number-own+in_ok-push, else-number-own}

pub index-number-requires : goal.index-number-requires
index-number-requires c = let h = c.requires.functions _ (in_at c.args.functions.now c.loop-h.h-index 0 c.loop-h-test.true) in omega (arith, h)

pub overflow_add-first : goal.overflow_add-first
overflow_add-first c =
    let h = c.requires.functions _ (in_at c.args.functions.now c.loop-h.h-index 0 c.loop-h-test.true) in
    let e = c.index-number.ensures ∙ get_or_default_zero c.args.of.now.items (get_or c.args.functions.now c.loop-h.h-index 0) c.index-number.result.now h in
    let g = c.requires.components (get_or c.args.functions.now c.loop-h.h-index 0) h in
    omega (arith, e, g)

pub loop-h-preserved : goal.loop-h-preserved
loop-h-preserved c =
    let h = c.requires.functions _ (in_at c.args.functions.now c.loop-h.h-index 0 c.loop-h-test.true) in
    let e : c.index-number.result.now ≡ number_of c.args.of.now.items (get_or c.args.functions.now c.loop-h.h-index 0) = c.index-number.ensures ∙ get_or_default_zero c.args.of.now.items (get_or c.args.functions.now c.loop-h.h-index 0) c.index-number.result.now h in
    elim c.if-number-own.branch [
      | then-number-own+in_ok-push w ↦ other_added c.args.of.now.items c.args.own c.args.first c.loop-h.h-index c.index-number.result.now c.args.functions.now c.loop-h.row.items c.if-number-own.row.items _ c.loop-h.invariant c.loop-h-test.true e w.if-number-own.true (ap (λ v. v.items) w.row-is ∙ w.in_ok-push.ensures.items)
      | else-number-own w ↦ other_skipped c.args.of.now.items c.args.own c.args.first c.loop-h.h-index c.index-number.result.now c.args.functions.now c.loop-h.row.items c.if-number-own.row.items _ c.loop-h.invariant c.loop-h-test.true e w.if-number-own.false (ap (λ v. v.items) w.row-is)
    ]
