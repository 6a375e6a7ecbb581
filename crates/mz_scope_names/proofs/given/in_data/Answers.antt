use Rattle.std.proofs.Common.{refl}
use Rattle.mz_tree.specs.Data.{given}
use Rattle.mz_scope_names.specs.Given.{in_given}
use Rattle.mz_scope_names.specs.Sets.{holds}
use Rattle.mz_scope_names.proofs.Lists.{one_read, all_read}
use Rattle.mz_scope_names.proofs.given.in_data.Goals as goal

pub loop-d-preserved : goal.loop-d-preserved
loop-d-preserved c =
    one_read (λ x. in_given (holds x.name c.args.enums.now) (given x)) c.args.items.now c.loop-d.d-index c.d-item.result c.args.out.now.items c.loop-d.out.items c.in_given.new.out.items c.loop-d.invariant c.loop-d-test.true c.d-item.is
    c.in_ok-in_given.ensures

pub returns : goal.returns
returns c = all_read (λ x. in_given (holds x.name c.args.enums.now) (given x)) c.args.items.now c.loop-d.d-index c.args.out.now.items c.loop-d.out.items _ c.loop-d.invariant c.loop-d-test.false refl
