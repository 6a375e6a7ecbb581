use Rattle.std.proofs.Common.{Bor}
use Rattle.std.specs.Option.{option_map}
use Rattle.mz_scope_order.specs.Scoped.{lent_function}
use Rattle.mz_check_meaning.specs.Models.{heading_of}
use Rattle.mz_check_meaning.specs.Checks.{heading_met}
use Rattle.mz_check_context.specs.declared.heading.Heading.{Heading}
use Rattle.mz_check_context.specs.Headings.{heading}
use Rattle.mz_check_context.specs.Known.{known}
use Rattle.mz_check.specs.StepsMeeting.{met_of}
use Rattle.mz_check.proofs.Refused.{one_met, next_met, all_met}
use Rattle.mz_check.proofs.testing.test_functions.Goals as goal

pub loop-k-preserved : goal.loop-k-preserved
loop-k-preserved c =
    let m = known c.args.context.now in
    let f = lent_function c.index-functions-k.result in
    let first = option_map met_of c.loop-k.first in
    let next = option_map met_of c.note_heading.new.first in
    next_met (heading_met m) lent_function c.args.functions.now c.loop-k.k c.index-functions-k.result _ first next c.loop-k.invariant c.loop-k-test.true c.index-functions-k.is
    (one_met (λ (h : Bor Heading). heading h.now) c.heading_of-h.result (heading_of m f.span c.loop-k.k) f.span first next c.heading_of-h.ensures c.in_ok-note_heading.ensures)

pub returns : goal.returns
returns c = all_met (heading_met (known c.args.context.now)) lent_function c.args.functions.now c.loop-k.k _ (option_map met_of c.loop-k.first) c.loop-k.invariant c.loop-k-test.false
