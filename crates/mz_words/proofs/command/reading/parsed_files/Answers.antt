use Rattle.std.proofs.Common.{subst}
use Rattle.std.proofs.lemmas.Result.{IfOk-weaker}
use Rattle.clap.specs.Simple.{App}
use Rattle.mz_words.proofs.Taking.{has_numbers}
use Rattle.mz_words.specs.Parsed.{AreNumbers, rows_in}
use Rattle.mz_words.proofs.command.reading.parsed_files.Goals as goal

pub returns-in-Ok-clause-numbers : goal.returns-in-Ok-clause-numbers
returns-in-Ok-clause-numbers c =
    IfOk-weaker c.parsed.result _ _ (λ m numbers. has_numbers c.args.name.now (rows_in m) (subst (λ (a : App). AreNumbers a (rows_in m)) c.in-Ok.ensures numbers))
    c.parsed.ensures.numbers
