use Rattle.std.proofs.Common.{refl}
use Rattle.mz_scope_names.specs.Occurrences.{of_case}
use Rattle.mz_scope_names.proofs.Lists.{one_read, all_read}
use Rattle.mz_scope_names.proofs.given.in_listed.Goals as goal

pub loop-case-preserved : goal.loop-case-preserved
loop-case-preserved c =
    one_read (λ x. of_case (x, c.args.at)) c.args.cases.now c.loop-case.case-index c.case-item.result c.args.out.now.items c.loop-case.out.items c.in_case.new.out.items c.loop-case.invariant c.loop-case-test.true c.case-item.is
    c.in_ok-in_case.ensures

pub returns : goal.returns
returns c = all_read (λ x. of_case (x, c.args.at)) c.args.cases.now c.loop-case.case-index c.args.out.now.items c.loop-case.out.items _ c.loop-case.invariant c.loop-case-test.false refl
