use Rattle.std.proofs.Common.{refl, ◌∙◌, subst, arith}
use Rattle.std.proofs.lemmas.List.{drop_more, drop_all}
use Rattle.mz_graph.specs.Graph.{graph_of}
use Rattle.mz_graph.specs.StepsTurns.{line, Stands}
use Rattle.mz_graph.proofs.Tables.{below_as}
use Rattle.mz_graph.proofs.Membership.{in_rest}
use Rattle.mz_graph.proofs.Placing.{code_turn, turn_rows, first_counted, one_turn_less}
use Rattle.mz_graph.proofs.turns.Turns.turn.Goals as goal

pub take_row-waited-requires : goal.take_row-waited-requires
take_row-waited-requires c =
    let h = first_counted (graph_of c.args.graph.now) (line c.args.self.now) c.in-Some.x c.pop_first.new.self.keys c.requires.stands c.in-Some.ensures.removal in
    below_as h c.requires.rows.waiting

pub index_mut-requires : goal.index_mut-requires
index_mut-requires c =
    let h = first_counted (graph_of c.args.graph.now) (line c.args.self.now) c.in-Some.x c.pop_first.new.self.keys c.requires.stands c.in-Some.ensures.removal in
    omega (arith, h, c.requires.rows.done)

pub loop-y-init : goal.loop-y-init
loop-y-init c = record {
  rows = turn_rows (graph_of c.args.graph.now) (line c.args.self.now) c.in-Some.x c.pop_first.new.self.keys c.push.new.self.items (graph_of c.take_row-waited.new.rows.items) c.requires.rows c.take_row-waited.ensures.rest;
  stands = code_turn (graph_of c.args.graph.now) (line c.args.self.now) c.in-Some.x c.pop_first.new.self.keys c.deref-y-items.result.now c.push.new.self.items (graph_of c.take_row-waited.new.rows.items) c.requires.rows c.requires.stands c.in-Some.ensures.removal c.in-Some.ensures.all_above (c.deref-y-items.ensures.value ∙ c.take_row-waited.ensures.row) c.in_ok-push.ensures.items c.take_row-waited.ensures.rest;
  done = refl;
}

pub place-requires-clause-counted : goal.place-requires-clause-counted
place-requires-clause-counted c = (c.loop-y.invariant.stands.left _ (in_rest c.deref-y-items.result.now c.loop-y.y-index 0 c.loop-y-test.true)).counted

pub loop-y-preserved : goal.loop-y-preserved
loop-y-preserved c = record {
  rows = c.in_ok-place.ensures.rows;
  stands = c.in_ok-place.ensures.stands _ (subst (λ z. Stands (graph_of c.args.graph.now) z (line c.loop-y.self)) (drop_more c.deref-y-items.result.now c.loop-y.y-index 0 c.loop-y-test.true) c.loop-y.invariant.stands);
  done = c.in_ok-place.ensures.done ∙ c.loop-y.invariant.done;
}

pub returns-clause-rows : goal.returns-clause-rows
returns-clause-rows c = c.loop-y.invariant.rows

pub returns-clause-stands : goal.returns-clause-stands
returns-clause-stands c = subst (λ z. Stands (graph_of c.args.graph.now) z (line c.loop-y.self)) (drop_all c.loop-y.y-index c.deref-y-items.result.now c.loop-y-test.false) c.loop-y.invariant.stands

pub returns-clause-turned : goal.returns-clause-turned
returns-clause-turned c = one_turn_less (graph_of c.args.graph.now) (line c.args.self.now) c.in-Some.x c.pop_first.new.self.keys c.loop-y.self.done.items c.requires.rows c.requires.stands c.in-Some.ensures.removal c.loop-y.invariant.done
