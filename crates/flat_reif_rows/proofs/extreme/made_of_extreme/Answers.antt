use Rattle.std.proofs.Common.{sym, ◌∙◌}
use Rattle.std.proofs.lemmas.List.{nil_from_length}
use Rattle.fz_program.specs.Arguments.{plain, plains}
use Rattle.flat_reif_rows.proofs.Stepping.{first_step, next_may, next_step, all_done}
use Rattle.flat_reif_rows.proofs.extreme.made_of_extreme.Goals as goal

pub steps-init : goal.steps-init
steps-init c = first_step c.args.build.now c.args.side c.args.items.items c.pop.new.self.items c.in-Some.x c.in-Some.ensures.items c.requires

pub nearer-requires : goal.nearer-requires
nearer-requires c = next_may c.args.build.now c.steps.build c.args.side (plains c.args.items.items) c.steps.rest.items c.pop-in-steps.new.self.items c.in-Some-pop.x c.steps.out c.in-Some-pop.ensures.items c.requires c.steps.invariant

pub steps-preserved : goal.steps-preserved
steps-preserved c = next_step c.args.build.now c.steps.build c.args.side (plains c.args.items.items) c.steps.rest.items c.pop-in-steps.new.self.items c.in-Some-pop.x c.steps.out c.in-Some-pop.ensures.items c.requires c.steps.invariant c.nearer.new.build c.in-Ok.x c.in-Ok.ensures.gives

pub returns-in-None-pop : goal.returns-in-None-pop
returns-in-None-pop c = record { makes = all_done c.args.build.now c.steps.build c.args.side (plains c.args.items.items) c.steps.rest.items (plain c.steps.out) (nil_from_length c.steps.rest.items (sym c.steps.rest.ok.0 ∙ c.in-None-pop.ensures.cases.0)) c.steps.invariant }
