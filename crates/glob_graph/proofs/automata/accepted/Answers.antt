use Rattle.std.proofs.Common.{◌∙◌, arith, length, sym}
use Rattle.glob_nodes.proofs.Saying.{ok_so}
use Rattle.glob_nodes.proofs.Telling.{goes_less}
use Rattle.glob_graph.proofs.Letterwise.{accepted_none, all_cost}
use Rattle.glob_graph.proofs.Rowwise.{is_none, is_some_length}
use Rattle.glob_graph.proofs.automata.accepted.Goals as goal

pub starts_accepted-requires : goal.starts_accepted-requires
starts_accepted-requires c = is_none (length c.args.ids.now) (sym c.is_empty.ensures ∙ c.if-is_empty.true)

pub returns-then-is_empty-clause-goes : goal.returns-then-is_empty-clause-goes
returns-then-is_empty-clause-goes c = goes_less 18 _ c.args.run.now c.starts_accepted.new.run (omega arith) c.starts_accepted.ensures.goes

pub returns-then-has_no_step-clause-goes : goal.returns-then-has_no_step-clause-goes
returns-then-has_no_step-clause-goes c = goes_less 0 _ c.args.run.now c.truth.new.run (omega arith) c.truth.ensures.goes

pub returns-then-has_no_step-clause-accepted : goal.returns-then-has_no_step-clause-accepted
returns-then-has_no_step-clause-accepted c = ok_so c.truth.result c.truth.ensures.says (λ id s. accepted_none c.args.run.now c.truth.new.run c.args.m.now c.args.ids.now id (is_some_length (length c.args.ids.now) (sym c.is_empty.ensures ∙ c.if-is_empty.false)) (is_none (length c.args.m.now.steps.cells.items) (sym c.has_no_step.ensures ∙ c.if-has_no_step.true)) s)

pub returns-else-has_no_step-clause-goes : goal.returns-else-has_no_step-clause-goes
returns-else-has_no_step-clause-goes c = goes_less _ _ c.args.run.now c.all_accepted.new.run (all_cost (length c.args.ids.now) (length c.args.m.now.steps.cells.items) (is_some_length (length c.args.ids.now) (sym c.is_empty.ensures ∙ c.if-is_empty.false)) (is_some_length (length c.args.m.now.steps.cells.items) (sym c.has_no_step.ensures ∙ c.if-has_no_step.false))) c.all_accepted.ensures.goes
