use Rattle.std.proofs.Common.{refl, ◌<◌, length, slice_index_or, ap, sym, ◌∙◌, subst}
use Rattle.std.proofs.lemmas.Grind.{get_or_default_zero}
use Rattle.mz_graph.specs.Graph.{graph_of, IsIn}
use Rattle.mz_graph.proofs.Tables.{row_read, as_many, below_as}
use Rattle.mz_graph.proofs.Membership.{in_at}
use Rattle.mz_graph.specs.StepsTurns.{line}
use Rattle.mz_graph.proofs.Placing.{code_waits, code_ready}
use Rattle.mz_graph.proofs.turns.Turns.place.Goals as goal

pub first_pending-requires : goal.first_pending-requires
first_pending-requires c =
    let h : c.args.x < length c.args.graph.now = below_as c.requires.counted (sym (as_many c.args.graph.now)) in
    let e = c.as_slice-row.ensures.value ∙ sym (row_read c.args.graph.now c.args.x c.index-graph-x.result h c.index-graph-x.is) in
    λ y a.
    let k = c.requires.graph c.args.x y (subst (λ z. IsIn y z) e a) in
    let m = ap length c.as_slice.ensures.value in
    below_as k (m ∙ c.requires.rows.done)

pub append_to-requires : goal.append_to-requires
append_to-requires c =
    let h : c.args.x < length c.args.graph.now = below_as c.requires.counted (sym (as_many c.args.graph.now)) in
    let e = c.as_slice-row.ensures.value ∙ sym (row_read c.args.graph.now c.args.x c.index-graph-x.result h c.index-graph-x.is) in
    let k = c.requires.graph c.args.x _ (subst (λ z. IsIn (slice_index_or c.as_slice-row.result.now c.in-Some.k 0) z) e (in_at c.as_slice-row.result.now c.in-Some.k 0 c.in-Some.ensures.within)) in
    below_as k c.requires.rows.waiting

pub returns-in_ok-append_to-in-Some-clause-stands : goal.returns-in_ok-append_to-in-Some-clause-stands
returns-in_ok-append_to-in-Some-clause-stands c =
    let h : c.args.x < length c.args.graph.now = below_as c.requires.counted (sym (as_many c.args.graph.now)) in
    let passed : c.args.x < length c.args.self.now.passed.items = below_as c.requires.counted c.requires.rows.passed in
    code_waits (graph_of c.args.graph.now) (line c.args.self.now) c.args.x c.in-Some.k (slice_index_or c.as_slice-row.result.now c.in-Some.k 0) c.index.result.now c.as_slice-row.result.now c.as_slice.result.now (graph_of c.append_to.new.rows.items)
    c.requires.graph
    c.requires.rows
    (c.as_slice-row.ensures.value ∙ sym (row_read c.args.graph.now c.args.x c.index-graph-x.result h c.index-graph-x.is))
    c.as_slice.ensures.value
    (c.index.ensures ∙ get_or_default_zero c.args.self.now.passed.items c.args.x c.index.result.now passed)
    c.in-Some.ensures
    refl
    c.in_ok-append_to-in-Some.ensures

pub returns-in_ok-insert-in-None-clause-stands : goal.returns-in_ok-insert-in-None-clause-stands
returns-in_ok-insert-in-None-clause-stands c =
    let h : c.args.x < length c.args.graph.now = below_as c.requires.counted (sym (as_many c.args.graph.now)) in
    let passed : c.args.x < length c.args.self.now.passed.items = below_as c.requires.counted c.requires.rows.passed in
    code_ready (graph_of c.args.graph.now) (line c.args.self.now) c.args.x c.index.result.now c.as_slice-row.result.now c.insert.new.self.keys c.as_slice.result.now
    (c.as_slice-row.ensures.value ∙ sym (row_read c.args.graph.now c.args.x c.index-graph-x.result h c.index-graph-x.is))
    c.as_slice.ensures.value
    (c.index.ensures ∙ get_or_default_zero c.args.self.now.passed.items c.args.x c.index.result.now passed)
    c.in-None.ensures
    c.in_ok-insert-in-None.ensures.keys
