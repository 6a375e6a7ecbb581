use Rattle.std.proofs.Common.{sym, ap, ◌∙◌, subst, arith, ◌<◌, length}
use Rattle.std.proofs.lemmas.Grind.{get_or_default_zero}
use Rattle.mz_graph.specs.Graph.{graph_of, IsIn}
use Rattle.mz_graph.proofs.Tables.{row_read, as_many}
use Rattle.mz_graph.specs.StepsLayers.{LeadsWithin}
use Rattle.mz_graph.proofs.Cycles.{cycle_found, no_cycle, none_yet}
use Rattle.mz_graph.proofs.cycle.first_on_cycle.Goals as goal

pub leads_within-requires : goal.leads_within-requires
leads_within-requires c =
    let h : c.loop-x.x < length c.args.graph.now = omega (arith, c.requires.till, c.loop-x-test.true, as_many c.args.graph.now) in
    let e = c.as_slice.ensures.value ∙ sym (row_read c.args.graph.now c.loop-x.x c.index-graph-x.result h c.index-graph-x.is) in
    λ y a.
    let k = c.requires.graph c.loop-x.x y (subst (λ z. IsIn y z) e a) in
    let m = ap length c.as_slice-in-loop-x.ensures.value in
    omega (arith, k, m, c.in_ok-parts.ensures.components.sized)

pub returns-then-leads_within-clause-found : goal.returns-then-leads_within-clause-found
returns-then-leads_within-clause-found c =
    let l : c.loop-x.x < length (graph_of c.args.graph.now) = omega (arith, c.requires.till, c.loop-x-test.true) in
    let h : c.loop-x.x < length c.args.graph.now = omega (arith, l, as_many c.args.graph.now) in
    let of : c.loop-x.x < length c.in_ok-parts.parts.of.items = omega (arith, l, c.in_ok-parts.ensures.components.sized) in
    record {
      later = omega (arith, c.loop-x.auto.x);
      within = c.loop-x-test.true;
      cycle = cycle_found (graph_of c.args.graph.now) c.in_ok-parts.parts.of.items c.as_slice.result.now c.as_slice-in-loop-x.result.now _ c.loop-x.x c.index.result.now c.requires.graph c.in_ok-parts.ensures.components l
          (c.as_slice.ensures.value ∙ sym (row_read c.args.graph.now c.loop-x.x c.index-graph-x.result h c.index-graph-x.is))
          c.as_slice-in-loop-x.ensures.value
          (c.index.ensures ∙ get_or_default_zero c.in_ok-parts.parts.of.items c.loop-x.x c.index.result.now of)
          (c.leads_within.ensures.0 c.if-leads_within.true);
      before = c.loop-x.invariant;
    }

pub loop-x-preserved : goal.loop-x-preserved
loop-x-preserved c =
    let l : c.loop-x.x < length (graph_of c.args.graph.now) = omega (arith, c.requires.till, c.loop-x-test.true) in
    let h : c.loop-x.x < length c.args.graph.now = omega (arith, l, as_many c.args.graph.now) in
    let of : c.loop-x.x < length c.in_ok-parts.parts.of.items = omega (arith, l, c.in_ok-parts.ensures.components.sized) in
    none_yet (graph_of c.args.graph.now) c.args.from c.loop-x.x c.loop-x.invariant
    (no_cycle (graph_of c.args.graph.now) c.in_ok-parts.parts.of.items c.as_slice.result.now c.as_slice-in-loop-x.result.now _ c.loop-x.x c.index.result.now c.requires.graph c.in_ok-parts.ensures.components l
    (c.as_slice.ensures.value ∙ sym (row_read c.args.graph.now c.loop-x.x c.index-graph-x.result h c.index-graph-x.is))
    c.as_slice-in-loop-x.ensures.value
    (c.index.ensures ∙ get_or_default_zero c.in_ok-parts.parts.of.items c.loop-x.x c.index.result.now of)
    (λ (s : LeadsWithin c.as_slice.result.now c.as_slice-in-loop-x.result.now c.index.result.now). let t = c.leads_within.ensures.1 s in let f = c.if-leads_within.false in absurd (cc)))

pub returns-clause-found : goal.returns-clause-found
returns-clause-found c = λ x l h. c.loop-x.invariant x l (omega (arith, h, c.loop-x-test.false))

pub returns-then-leads_within-clause-components : goal.returns-then-leads_within-clause-components
returns-then-leads_within-clause-components c = record { count = c.in_ok-parts.parts.count; number = c.in_ok-parts.parts.of.items; are = c.in_ok-parts.ensures.components }

pub returns-clause-components : goal.returns-clause-components
returns-clause-components c = record { count = c.in_ok-parts.parts.count; number = c.in_ok-parts.parts.of.items; are = c.in_ok-parts.ensures.components }
