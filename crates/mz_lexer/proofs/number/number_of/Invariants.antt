use Rattle.std.proofs.Common.{◌≡◌, ◌≤◌, ◌^◌, ◌+◌, drop}
use Rattle.mz_lexer.specs.Numbers.{number_from, number_of}
use Rattle.mz_lexer.proofs.number.number_of.Given as goal

abbrev pub invariant-loop-digit : goal.invariant-loop-digit
invariant-loop-digit l = record {
  reads : number_from l.base l.value (drop l.digit-index l.digits) ≡ number_of l.base l.digits;
  small : l.value ≤ 2 ^ 61 + 36;
}
