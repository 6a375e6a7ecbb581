use Rattle.std.proofs.Common.{refl, map, ap, sym, subst, length}
use Rattle.mz_graph.specs.Graph.{Graph, graph_of, IsGraph}
use Rattle.mz_graph.specs.Depends.{AreUses, HaveComponents}
use Rattle.mz_graph.specs.Evaluation.{IsEvaluation}
use Rattle.mz_scope_names.specs.Sketches.{sketch}
use Rattle.mz_scope_order.specs.Subjects.{subject}
use Rattle.mz_scope_order.proofs.Answering as answering
use Rattle.mz_scope_order.proofs.Closing as closing
use Rattle.mz_scope_order.proofs.Making.{of_four, evaluated, none_found, first_found, decls_counted, decls_apart, subjects_found}
use Rattle.mz_scope_order.proofs.sequence.sequence_of.Goals as goal

pub evaluation_order-requires : goal.evaluation_order-requires
evaluation_order-requires c =
    of_four (λ x y z w. AreUses x y z w) (graph_of c.in_ok-graphs.graphs.calls.items) (graph_of c.in_ok-graphs.graphs.mentions.items) (graph_of c.in_ok-graphs.graphs.decl_calls.items) (graph_of c.in_ok-graphs.graphs.decl_mentions.items) (graph_of c.as_slice.result.now) (graph_of c.as_slice-2.result.now) (graph_of c.as_slice-3.result.now) (graph_of c.as_slice-4.result.now)
    (closing.uses (map sketch c.args.decls.now) (map sketch c.args.functions.now) (graph_of c.in_ok-graphs.graphs.calls.items) (graph_of c.in_ok-graphs.graphs.mentions.items) (graph_of c.in_ok-graphs.graphs.decl_calls.items) (graph_of c.in_ok-graphs.graphs.decl_mentions.items) (graph_of c.in_ok-graphs.graphs.types.items) c.requires c.in_ok-graphs.ensures)
    (ap (λ z. graph_of z) c.as_slice.ensures.value) (ap (λ z. graph_of z) c.as_slice-2.ensures.value) (ap (λ z. graph_of z) c.as_slice-3.ensures.value) (ap (λ z. graph_of z) c.as_slice-4.ensures.value)

pub returns-in-Cyclic : goal.returns-in-Cyclic
returns-in-Cyclic c =
    let e = evaluated (graph_of c.as_slice.result.now) (graph_of c.as_slice-2.result.now) (graph_of c.as_slice-3.result.now) (graph_of c.as_slice-4.result.now) (graph_of c.in_ok-graphs.graphs.calls.items) (graph_of c.in_ok-graphs.graphs.mentions.items) (graph_of c.in_ok-graphs.graphs.decl_calls.items) (graph_of c.in_ok-graphs.graphs.decl_mentions.items) c.in_ok-evaluation.evaluation c.in_ok-evaluation.ensures (ap (λ z. graph_of z) c.as_slice.ensures.value) (ap (λ z. graph_of z) c.as_slice-2.ensures.value) (ap (λ z. graph_of z) c.as_slice-3.ensures.value) (ap (λ z. graph_of z) c.as_slice-4.ensures.value) in
    answering.stuck (map sketch c.args.decls.now) (map sketch c.args.functions.now) (graph_of c.in_ok-graphs.graphs.calls.items) (graph_of c.in_ok-graphs.graphs.mentions.items) (graph_of c.in_ok-graphs.graphs.decl_calls.items) (graph_of c.in_ok-graphs.graphs.decl_mentions.items) (graph_of c.in_ok-graphs.graphs.types.items) c.requires c.in_ok-graphs.ensures c.in-Cyclic.d (subst (λ z. IsEvaluation (graph_of c.in_ok-graphs.graphs.calls.items) (graph_of c.in_ok-graphs.graphs.mentions.items) (graph_of c.in_ok-graphs.graphs.decl_calls.items) (graph_of c.in_ok-graphs.graphs.decl_mentions.items) z) c.in-Cyclic.is e)

pub first_on_cycle-requires-clause-graph : goal.first_on_cycle-requires-clause-graph
first_on_cycle-requires-clause-graph c = subst (λ (z : Graph). IsGraph z) (sym (ap (λ z. graph_of z) c.as_slice-in-Ordered.ensures.value)) (closing.types_closed (map sketch c.args.decls.now) (map sketch c.args.functions.now) (graph_of c.in_ok-graphs.graphs.calls.items) (graph_of c.in_ok-graphs.graphs.mentions.items) (graph_of c.in_ok-graphs.graphs.decl_calls.items) (graph_of c.in_ok-graphs.graphs.decl_mentions.items) (graph_of c.in_ok-graphs.graphs.types.items) c.requires c.in_ok-graphs.ensures)

pub type_order-requires-clause-graph : goal.type_order-requires-clause-graph
type_order-requires-clause-graph c = subst (λ (z : Graph). IsGraph z) (sym (ap (λ z. graph_of z) c.as_slice-in-None.ensures.value)) (closing.types_closed (map sketch c.args.decls.now) (map sketch c.args.functions.now) (graph_of c.in_ok-graphs.graphs.calls.items) (graph_of c.in_ok-graphs.graphs.mentions.items) (graph_of c.in_ok-graphs.graphs.decl_calls.items) (graph_of c.in_ok-graphs.graphs.decl_mentions.items) (graph_of c.in_ok-graphs.graphs.types.items) c.requires c.in_ok-graphs.ensures)

pub type_order-requires-clause-counted : goal.type_order-requires-clause-counted
type_order-requires-clause-counted c = decls_counted c.args.decls.now (graph_of c.as_slice-in-None.result.now) (graph_of c.in_ok-graphs.graphs.types.items) (answering.counted (map sketch c.args.decls.now) (map sketch c.args.functions.now) (graph_of c.in_ok-graphs.graphs.calls.items) (graph_of c.in_ok-graphs.graphs.mentions.items) (graph_of c.in_ok-graphs.graphs.decl_calls.items) (graph_of c.in_ok-graphs.graphs.decl_mentions.items) (graph_of c.in_ok-graphs.graphs.types.items) c.requires c.in_ok-graphs.ensures) (ap (λ z. graph_of z) c.as_slice-in-None.ensures.value)

pub type_order-requires-clause-apart : goal.type_order-requires-clause-apart
type_order-requires-clause-apart c =
    let e = evaluated (graph_of c.as_slice.result.now) (graph_of c.as_slice-2.result.now) (graph_of c.as_slice-3.result.now) (graph_of c.as_slice-4.result.now) (graph_of c.in_ok-graphs.graphs.calls.items) (graph_of c.in_ok-graphs.graphs.mentions.items) (graph_of c.in_ok-graphs.graphs.decl_calls.items) (graph_of c.in_ok-graphs.graphs.decl_mentions.items) c.in_ok-evaluation.evaluation c.in_ok-evaluation.ensures (ap (λ z. graph_of z) c.as_slice.ensures.value) (ap (λ z. graph_of z) c.as_slice-2.ensures.value) (ap (λ z. graph_of z) c.as_slice-3.ensures.value) (ap (λ z. graph_of z) c.as_slice-4.ensures.value) in
    let w = subst (λ z. IsEvaluation (graph_of c.in_ok-graphs.graphs.calls.items) (graph_of c.in_ok-graphs.graphs.mentions.items) (graph_of c.in_ok-graphs.graphs.decl_calls.items) (graph_of c.in_ok-graphs.graphs.decl_mentions.items) z) c.in-Ordered.is e in
    decls_apart c.args.decls.now c.as_slice-in-None-2.result.now c.in-Ordered.order.items (answering.apart (map sketch c.args.decls.now) (map sketch c.args.functions.now) (graph_of c.in_ok-graphs.graphs.calls.items) (graph_of c.in_ok-graphs.graphs.mentions.items) (graph_of c.in_ok-graphs.graphs.decl_calls.items) (graph_of c.in_ok-graphs.graphs.decl_mentions.items) (graph_of c.in_ok-graphs.graphs.types.items) c.requires c.in_ok-graphs.ensures c.in-Ordered.order.items w) c.as_slice-in-None-2.ensures.value

pub returns-in-None : goal.returns-in-None
returns-in-None c =
    let e = evaluated (graph_of c.as_slice.result.now) (graph_of c.as_slice-2.result.now) (graph_of c.as_slice-3.result.now) (graph_of c.as_slice-4.result.now) (graph_of c.in_ok-graphs.graphs.calls.items) (graph_of c.in_ok-graphs.graphs.mentions.items) (graph_of c.in_ok-graphs.graphs.decl_calls.items) (graph_of c.in_ok-graphs.graphs.decl_mentions.items) c.in_ok-evaluation.evaluation c.in_ok-evaluation.ensures (ap (λ z. graph_of z) c.as_slice.ensures.value) (ap (λ z. graph_of z) c.as_slice-2.ensures.value) (ap (λ z. graph_of z) c.as_slice-3.ensures.value) (ap (λ z. graph_of z) c.as_slice-4.ensures.value) in
    let w = subst (λ z. IsEvaluation (graph_of c.in_ok-graphs.graphs.calls.items) (graph_of c.in_ok-graphs.graphs.mentions.items) (graph_of c.in_ok-graphs.graphs.decl_calls.items) (graph_of c.in_ok-graphs.graphs.decl_mentions.items) z) c.in-Ordered.is e in
    let p = ap (λ z. graph_of z) c.as_slice-in-Ordered.ensures.value in
    let s = answering.in_sequence (map sketch c.args.decls.now) (map sketch c.args.functions.now) (graph_of c.in_ok-graphs.graphs.calls.items) (graph_of c.in_ok-graphs.graphs.mentions.items) (graph_of c.in_ok-graphs.graphs.decl_calls.items) (graph_of c.in_ok-graphs.graphs.decl_mentions.items) (graph_of c.in_ok-graphs.graphs.types.items) c.requires c.in_ok-graphs.ensures c.in-Ordered.order.items w
    (none_found (graph_of c.as_slice-in-Ordered.result.now) (graph_of c.in_ok-graphs.graphs.types.items) (length c.args.functions.now) c.args.functions.now c.in_ok-cycle-in-Ordered.cycle c.in_ok-cycle-in-Ordered.ensures.found c.in-None.is p refl)
    (subst (λ z. HaveComponents z) p c.in_ok-cycle-in-Ordered.ensures.components) in
    answering.orders (map sketch c.args.decls.now) (map sketch c.args.functions.now) (graph_of c.in_ok-graphs.graphs.calls.items) (graph_of c.in_ok-graphs.graphs.mentions.items) (graph_of c.in_ok-graphs.graphs.decl_calls.items) (graph_of c.in_ok-graphs.graphs.decl_mentions.items) (graph_of c.in_ok-graphs.graphs.types.items) c.requires c.in_ok-graphs.ensures c.in-Ordered.order.items (map subject c.in_ok-types-in-None.types.items) s
    (subjects_found (graph_of c.as_slice-in-None.result.now) (graph_of c.in_ok-graphs.graphs.types.items) (length c.args.functions.now) (length c.args.decls.now) c.args.decls.now c.args.functions.now c.as_slice-in-None-2.result.now c.in-Ordered.order.items (map subject c.in_ok-types-in-None.types.items) c.in_ok-types-in-None.ensures (ap (λ z. graph_of z) c.as_slice-in-None.ensures.value) refl refl c.as_slice-in-None-2.ensures.value)

pub returns : goal.returns
returns c =
    let e = evaluated (graph_of c.as_slice.result.now) (graph_of c.as_slice-2.result.now) (graph_of c.as_slice-3.result.now) (graph_of c.as_slice-4.result.now) (graph_of c.in_ok-graphs.graphs.calls.items) (graph_of c.in_ok-graphs.graphs.mentions.items) (graph_of c.in_ok-graphs.graphs.decl_calls.items) (graph_of c.in_ok-graphs.graphs.decl_mentions.items) c.in_ok-evaluation.evaluation c.in_ok-evaluation.ensures (ap (λ z. graph_of z) c.as_slice.ensures.value) (ap (λ z. graph_of z) c.as_slice-2.ensures.value) (ap (λ z. graph_of z) c.as_slice-3.ensures.value) (ap (λ z. graph_of z) c.as_slice-4.ensures.value) in
    let w = subst (λ z. IsEvaluation (graph_of c.in_ok-graphs.graphs.calls.items) (graph_of c.in_ok-graphs.graphs.mentions.items) (graph_of c.in_ok-graphs.graphs.decl_calls.items) (graph_of c.in_ok-graphs.graphs.decl_mentions.items) z) c.in-Ordered.is e in
    let p = ap (λ z. graph_of z) c.as_slice-in-Ordered.ensures.value in
    answering.back (map sketch c.args.decls.now) (map sketch c.args.functions.now) (graph_of c.in_ok-graphs.graphs.calls.items) (graph_of c.in_ok-graphs.graphs.mentions.items) (graph_of c.in_ok-graphs.graphs.decl_calls.items) (graph_of c.in_ok-graphs.graphs.decl_mentions.items) (graph_of c.in_ok-graphs.graphs.types.items) c.requires c.in_ok-graphs.ensures c.in-Ordered.order.items c.in-Some.f w
    (first_found (graph_of c.as_slice-in-Ordered.result.now) (graph_of c.in_ok-graphs.graphs.types.items) (length c.args.functions.now) c.in-Some.f c.args.functions.now c.in_ok-cycle-in-Ordered.cycle c.in_ok-cycle-in-Ordered.ensures.found c.in-Some.is p refl)
