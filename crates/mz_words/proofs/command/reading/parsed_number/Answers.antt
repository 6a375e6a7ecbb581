use Rattle.std.proofs.Common.{subst}
use Rattle.std.proofs.lemmas.Result.{IfOk-weaker}
use Rattle.clap.specs.Simple.{App}
use Rattle.mz_words.proofs.Taking.{has_count}
use Rattle.mz_words.specs.Parsed.{AreNumbers, rows_in}
use Rattle.mz_words.proofs.command.reading.parsed_number.Goals as goal

pub returns-in-Ok-clause-count : goal.returns-in-Ok-clause-count
returns-in-Ok-clause-count c =
    IfOk-weaker c.parsed.result _ _ (λ m numbers. has_count c.args.name.now (rows_in m) (subst (λ (a : App). AreNumbers a (rows_in m)) c.in-Ok.ensures numbers))
    c.parsed.ensures.numbers
