use Rattle.std.proofs.Common.{sym, arith}
use Rattle.mz_lexer.proofs.Digits.{too_great}
use Rattle.mz_lexer.proofs.number.number_of.Goals as goal

pub returns-then-value-most : goal.returns-then-value-most
returns-then-value-most c =
    sym (too_great c.args.base c.args.digits.now c.loop-digit.value c.loop-digit.digit-index (omega arith) c.loop-digit.invariant.reads (omega arith) (omega arith))
