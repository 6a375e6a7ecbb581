use Rattle.std.proofs.Common.{◌≡◌, map, drop}
use Rattle.std.specs.List.{flat_map, enumerate_from}
use Rattle.std.specs.Option.{option_map}
use Rattle.mz_scope_order.specs.Scoped.{lent_function}
use Rattle.mz_check_meaning.specs.Checks.{numbered, heading_met}
use Rattle.mz_check_context.specs.Known.{known}
use Rattle.mz_check.specs.StepsMeeting.{met_of, after}
use Rattle.mz_check.proofs.testing.test_functions.Given as goal

abbrev pub invariant-loop-k : goal.invariant-loop-k
invariant-loop-k l =
    after (option_map met_of l.fn.first) (flat_map (heading_met (known l.context)) (numbered (map lent_function l.functions)))
    ≡ after (option_map met_of l.first) (flat_map (heading_met (known l.context)) (enumerate_from l.k (map lent_function (drop l.k l.functions))))
