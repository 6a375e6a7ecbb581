use Rattle.std.proofs.Common.{◌≡◌, map, drop}
use Rattle.std.specs.List.{flat_map, enumerate_from}
use Rattle.std.specs.Option.{option_map}
use Rattle.mz_scope_order.specs.Scoped.{scoped_decl}
use Rattle.mz_check_meaning.specs.Checks.{numbered, type_met}
use Rattle.mz_check_context.specs.Known.{known}
use Rattle.mz_check.specs.StepsMeeting.{met_of, after}
use Rattle.mz_check.proofs.testing.test_decls.Given as goal

abbrev pub invariant-loop-k : goal.invariant-loop-k
invariant-loop-k l =
    after (option_map met_of l.fn.first) (flat_map (type_met (known l.context)) (numbered (map scoped_decl l.decls)))
    ≡ after (option_map met_of l.first) (flat_map (type_met (known l.context)) (enumerate_from l.k (map scoped_decl (drop l.k l.decls))))
