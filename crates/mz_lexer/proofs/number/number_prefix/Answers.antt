use Rattle.std.proofs.Common.{◌<◌, length, refl, arith}
use Rattle.std.specs.List.{prefix_len}
use Rattle.mz_base.specs.Words.{is_digit}
use Rattle.mz_lexer.proofs.Runs.{some_run}
use Rattle.mz_lexer.proofs.number.number_prefix.Goals as goal

pub returns-clause-fits : goal.returns-clause-fits
returns-clause-fits c =
    let some : 0 < prefix_len is_digit c.args.bytes.now = some_run is_digit refl c.args.bytes.now c.requires in
    c.literal-2.ensures.fits (length c.args.bytes.now) (omega (arith, some, c.digits_len-len.ensures.value)) c.digits_len-len.ensures.within
