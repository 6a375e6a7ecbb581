use Rattle.std.proofs.Common.{◌+◌, drop, map, ap, sym, ◌∙◌}
use Rattle.mz_tree.specs.Views.{declaration}
use Rattle.mz_scope_names.specs.Uses.{with_declaration}
use Rattle.mz_scope_names.specs.Sketches.{in_parameter, in_parameters, with_parameters}
use Rattle.mz_scope_names.proofs.UsesLists.{step, parameters_from, with_parameters_from, parameters_read, with_parameters_read}
use Rattle.mz_scope_names.proofs.making.in_parameters.Goals as goal

pub loop-p-preserved : goal.loop-p-preserved
loop-p-preserved c = record {
  uses = step (λ h xs. in_parameters h (map declaration xs)) (λ h x. in_parameter h (declaration x)) (λ h x. with_declaration h (declaration x)) c.args.params.now c.loop-p.p-index c.p-item.result c.loop-p.hidden c.in_parameter.new.hidden _ c.loop-p.out.items c.in_parameter.new.out.items
      (parameters_from c.loop-p.hidden declaration c.args.params.now c.loop-p.p-index c.p-item.result c.loop-p-test.true c.p-item.is)
      c.loop-p.invariant.uses c.in_ok-in_parameter.ensures.uses c.in_ok-in_parameter.ensures.hidden;
  hidden = c.loop-p.invariant.hidden ∙ with_parameters_from c.loop-p.hidden declaration c.args.params.now c.loop-p.p-index c.p-item.result c.loop-p-test.true c.p-item.is
      ∙ ap (λ z. with_parameters z (map declaration (drop (c.loop-p.p-index + 1) c.args.params.now))) (sym c.in_ok-in_parameter.ensures.hidden);
}

pub returns-clause-uses : goal.returns-clause-uses
returns-clause-uses c = parameters_read c.loop-p.hidden declaration c.args.params.now c.loop-p.p-index _ c.loop-p.out.items c.loop-p.invariant.uses c.loop-p-test.false

pub returns-clause-hidden : goal.returns-clause-hidden
returns-clause-hidden c = with_parameters_read c.loop-p.hidden declaration c.args.params.now c.loop-p.p-index _ c.loop-p.invariant.hidden c.loop-p-test.false
