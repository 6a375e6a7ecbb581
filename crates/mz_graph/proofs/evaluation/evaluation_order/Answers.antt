use Rattle.std.proofs.Common.{sym, ap, subst, arith, ℕ, ◌≡◌, ◌<◌, ◌+◌, length}
use Rattle.mz_graph.specs.Graph.{Graph, heads, graph_of, IsIn}
use Rattle.mz_graph.proofs.Tables.{as_many}
use Rattle.mz_graph.proofs.Joining.{layers_closed}
use Rattle.mz_graph.proofs.Reading.{evaluated, counted_in, complete, first_of_left}
use Rattle.mz_graph.proofs.evaluation.evaluation_order.Goals as goal

pub order_of-requires : goal.order_of-requires
order_of-requires c =
    let e : graph_of c.as_slice.result.now ≡ graph_of c.in_ok-all.all.items = ap (λ z. graph_of z) c.as_slice.ensures.value in
    subst (λ (z : Graph). (x y : ℕ) → IsIn y (heads z x) → y < length z) (sym e) (layers_closed (graph_of c.args.calls.now) (graph_of c.args.mentions.now) (graph_of c.args.decl_calls.now) (graph_of c.args.decl_mentions.now) c.in_ok-parts.parts.of.items c.in_ok-parts.parts.count (graph_of c.in_ok-all.all.items) c.requires c.in_ok-parts.ensures.components c.in_ok-all.ensures)

pub first_left-requires : goal.first_left-requires
first_left-requires c =
    let base : length c.args.calls.now + c.in_ok-parts.parts.count ≡ length (graph_of c.args.calls.now) + c.in_ok-parts.parts.count = omega (arith, as_many c.args.calls.now) in
    let o = evaluated (graph_of c.args.calls.now) (graph_of c.args.mentions.now) (graph_of c.args.decl_calls.now) (graph_of c.args.decl_mentions.now) c.in_ok-parts.parts.of.items c.in_ok-parts.parts.count _ (graph_of c.in_ok-all.all.items) (graph_of c.as_slice.result.now) c.in_ok-order.order.items c.as_slice-2.result.now c.in_ok-decls.decls.items c.requires c.in_ok-parts.ensures.components c.in_ok-all.ensures (ap (λ z. graph_of z) c.as_slice.ensures.value) c.in_ok-order.ensures c.as_slice-2.ensures.value base c.in_ok-decls.ensures in
    λ x a. let h = counted_in x c.in_ok-decls.decls.items o (subst (λ z. IsIn x z) c.as_slice-3.ensures.value a) in omega (arith, h, as_many c.args.decl_mentions.now)

pub returns-in-None : goal.returns-in-None
returns-in-None c =
    let base : length c.args.calls.now + c.in_ok-parts.parts.count ≡ length (graph_of c.args.calls.now) + c.in_ok-parts.parts.count = omega (arith, as_many c.args.calls.now) in
    record {
      is = evaluated (graph_of c.args.calls.now) (graph_of c.args.mentions.now) (graph_of c.args.decl_calls.now) (graph_of c.args.decl_mentions.now) c.in_ok-parts.parts.of.items c.in_ok-parts.parts.count _ (graph_of c.in_ok-all.all.items) (graph_of c.as_slice.result.now) c.in_ok-order.order.items c.as_slice-2.result.now c.in_ok-decls.decls.items c.requires c.in_ok-parts.ensures.components c.in_ok-all.ensures (ap (λ z. graph_of z) c.as_slice.ensures.value) c.in_ok-order.ensures c.as_slice-2.ensures.value base c.in_ok-decls.ensures;
      complete = complete (length (graph_of c.args.decl_mentions.now)) (length c.args.decl_mentions.now) c.in_ok-decls.decls.items c.as_slice-3.result.now c.in_ok-first_left.field-0 c.in-None.is c.in_ok-first_left.ensures (sym (as_many c.args.decl_mentions.now)) c.as_slice-3.ensures.value;
    }

pub returns : goal.returns
returns c =
    let base : length c.args.calls.now + c.in_ok-parts.parts.count ≡ length (graph_of c.args.calls.now) + c.in_ok-parts.parts.count = omega (arith, as_many c.args.calls.now) in
    record {
      order = c.in_ok-decls.decls.items;
      is = evaluated (graph_of c.args.calls.now) (graph_of c.args.mentions.now) (graph_of c.args.decl_calls.now) (graph_of c.args.decl_mentions.now) c.in_ok-parts.parts.of.items c.in_ok-parts.parts.count _ (graph_of c.in_ok-all.all.items) (graph_of c.as_slice.result.now) c.in_ok-order.order.items c.as_slice-2.result.now c.in_ok-decls.decls.items c.requires c.in_ok-parts.ensures.components c.in_ok-all.ensures (ap (λ z. graph_of z) c.as_slice.ensures.value) c.in_ok-order.ensures c.as_slice-2.ensures.value base c.in_ok-decls.ensures;
      first = first_of_left (length (graph_of c.args.decl_mentions.now)) (length c.args.decl_mentions.now) c.in-Some.d c.in_ok-decls.decls.items c.as_slice-3.result.now c.in_ok-first_left.field-0 c.in-Some.is c.in_ok-first_left.ensures (sym (as_many c.args.decl_mentions.now)) c.as_slice-3.ensures.value;
    }
