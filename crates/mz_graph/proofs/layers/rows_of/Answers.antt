use Rattle.std.proofs.Common.{sym, ap, ◌∙◌, subst, arith, ◌≡◌, ◌<◌, length}
use Rattle.std.proofs.lemmas.Grind.{get_or_default_zero}
use Rattle.mz_graph.specs.Graph.{graph_of, heads, IsIn, number_of}
use Rattle.mz_graph.proofs.Tables.{row_read, as_many}
use Rattle.mz_graph.specs.StepsLayers.{in_layers, row_heads}
use Rattle.mz_graph.proofs.Joining.{rows_more, rows_of_both}
use Rattle.mz_graph.proofs.layers.rows_of.Goals as goal

pub row_of-requires-clause-calls : goal.row_of-requires-clause-calls
row_of-requires-clause-calls c =
    let e = c.as_slice.ensures.value ∙ sym (row_read c.args.calls.now c.loop-x.x c.index-calls-x.result c.loop-x-test.true c.index-calls-x.is) in
    λ h a. c.requires.called.below c.loop-x.x h (subst (λ z. IsIn h z) e a)

pub row_of-requires-clause-mentions : goal.row_of-requires-clause-mentions
row_of-requires-clause-mentions c =
    let l : c.loop-x.x < length c.args.mentions.now = omega (arith, c.loop-x-test.true, as_many c.args.calls.now, as_many c.args.mentions.now, c.requires.mentions) in
    let e = c.as_slice-in-loop-x.ensures.value ∙ sym (row_read c.args.mentions.now c.loop-x.x c.index-mentions-x.result l c.index-mentions-x.is) in
    λ h a. c.requires.mentioned c.loop-x.x h (subst (λ z. IsIn h z) e a)

pub loop-x-preserved : goal.loop-x-preserved
loop-x-preserved c =
    let l : c.loop-x.x < length c.args.mentions.now = omega (arith, c.loop-x-test.true, as_many c.args.calls.now, as_many c.args.mentions.now, c.requires.mentions) in
    let o : c.loop-x.x < length c.args.own.now.items = omega (arith, c.loop-x-test.true, as_many c.args.calls.now, c.requires.own) in
    let p : c.as_slice.result.now ≡ heads (graph_of c.args.calls.now) c.loop-x.x = c.as_slice.ensures.value ∙ sym (row_read c.args.calls.now c.loop-x.x c.index-calls-x.result c.loop-x-test.true c.index-calls-x.is) in
    let q : c.as_slice-in-loop-x.result.now ≡ heads (graph_of c.args.mentions.now) c.loop-x.x = c.as_slice-in-loop-x.ensures.value ∙ sym (row_read c.args.mentions.now c.loop-x.x c.index-mentions-x.result l c.index-mentions-x.is) in
    let r : c.index.result.now ≡ number_of c.args.own.now.items c.loop-x.x = c.index.ensures ∙ get_or_default_zero c.args.own.now.items c.loop-x.x c.index.result.now o in
    rows_more (in_layers (graph_of c.args.calls.now) (graph_of c.args.mentions.now) c.args.of.now.items c.args.own.now.items c.args.first c.args.base) c.loop-x.x c.in_ok-row.row.items (graph_of c.loop-x.rows.items) (graph_of c.push.new.self.items) c.loop-x.invariant
    (ap (λ z. graph_of z) c.in_ok-push.ensures.items ∙ rows_of_both c.loop-x.rows.items _)
    (c.in_ok-row.ensures
    ∙ ap (λ z. row_heads z c.as_slice-in-loop-x.result.now c.args.of.now.items c.index.result.now c.args.first c.args.base) p
    ∙ ap (λ z. row_heads (heads (graph_of c.args.calls.now) c.loop-x.x) z c.args.of.now.items c.index.result.now c.args.first c.args.base) q
    ∙ ap (λ z. row_heads (heads (graph_of c.args.calls.now) c.loop-x.x) (heads (graph_of c.args.mentions.now) c.loop-x.x) c.args.of.now.items z c.args.first c.args.base) r)
