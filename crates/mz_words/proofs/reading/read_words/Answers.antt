use Rattle.mz_words.proofs.Answering.{asked_nothing, first_answers}
use Rattle.mz_words.proofs.reading.read_words.Goals as goal

pub returns-in-Some-clause-value : goal.returns-in-Some-clause-value
returns-in-Some-clause-value c =
    first_answers c.args.words.now c.in-Some.name.now c.as_str.result.now c.read_command.result c.in-Some.ensures.value c.as_str.ensures.value c.read_command.ensures.value

pub returns-in-None-clause-value : goal.returns-in-None-clause-value
returns-in-None-clause-value c = asked_nothing c.args.words.now c.in-None.ensures.value
