use Rattle.std.proofs.Common.{◌≡◌, [], drop}
use Rattle.mz_check_meaning.specs.Tests.{loop, one_more}
use Rattle.mz_check_meaning.specs.Calls.{function_candidate}
use Rattle.mz_check_context.specs.Known.{known}
use Rattle.mz_check_calls.proofs.candidates.functions_with.Given as goal

abbrev pub invariant-loop-function : goal.invariant-loop-function
invariant-loop-function l =
    loop (one_more (function_candidate (known l.context) l.span)) [] l.numbers ≡ loop (one_more (function_candidate (known l.context) l.span)) l.all (drop l.function-index l.numbers)
