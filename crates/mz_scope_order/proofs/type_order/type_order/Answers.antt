use Rattle.std.proofs.Common.{◌≡◌, ◌∙◌, ◌<◌, length, ap, subst, arith}
use Rattle.mz_graph.specs.Graph.{graph_of, IsIn}
use Rattle.mz_graph.proofs.Tables.{as_many}
use Rattle.mz_scope_order.proofs.Apart.{in_order_counted}
use Rattle.mz_scope_order.proofs.type_order.type_order.Goals as goal

pub subjects_in-requires : goal.subjects_in-requires
subjects_in-requires c = λ x there.
    let g = graph_of c.args.types.now in
    let low : x < length g = in_order_counted (length g) c.in_ok-nodes.nodes.items x c.in_ok-nodes.ensures (subst (λ z. IsIn x z) c.as_slice-2.ensures.value there) in
    let long : length g ≡ length c.args.types.now = as_many c.args.types.now in
    let sized : length c.as_slice.result.now ≡ c.args.count = ap length c.as_slice.ensures.value ∙ c.in_ok-at.ensures.sized in
    omega (arith, low, long, sized, c.requires.counted)
