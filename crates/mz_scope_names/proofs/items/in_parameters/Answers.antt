use Rattle.std.proofs.Common.{refl}
use Rattle.mz_tree.specs.Views.{declaration}
use Rattle.mz_scope_names.specs.Occurrences.{in_parameter}
use Rattle.mz_scope_names.proofs.Lists.{one_read, all_read}
use Rattle.mz_scope_names.proofs.items.in_parameters.Goals as goal

pub loop-d-preserved : goal.loop-d-preserved
loop-d-preserved c =
    one_read (λ x. in_parameter (declaration x)) c.args.params.now c.loop-d.d-index c.d-item.result c.args.out.now.items c.loop-d.out.items c.in_parameter.new.out.items c.loop-d.invariant c.loop-d-test.true c.d-item.is
    c.in_ok-in_parameter.ensures

pub returns : goal.returns
returns c = all_read (λ x. in_parameter (declaration x)) c.args.params.now c.loop-d.d-index c.args.out.now.items c.loop-d.out.items _ c.loop-d.invariant c.loop-d-test.false refl
