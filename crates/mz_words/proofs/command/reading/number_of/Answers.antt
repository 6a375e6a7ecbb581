use Rattle.clap.specs.Matches.{found_of}
use Rattle.mz_words.proofs.Numbers.{may_be_parsed, nothing_is_found, number_is_found, number_is_within}
use Rattle.mz_words.proofs.command.reading.number_of.Goals as goal

pub number-requires : goal.number-requires
number-requires c =
    may_be_parsed c.in-Some.text.now (found_of c.args.matches.now) c.args.name.now c.requires.0 (rw c.in-Some.is at c.get_str.ensures) c.requires.1

pub returns-in-Some-clause-value : goal.returns-in-Some-clause-value
returns-in-Some-clause-value c =
    number_is_found c.in-Some.text.now c.number.result (found_of c.args.matches.now) c.args.name.now c.number.ensures (rw c.in-Some.is at c.get_str.ensures)

pub returns-in-Some-clause-range : goal.returns-in-Some-clause-range
returns-in-Some-clause-range c =
    λ limit number. number_is_within c.in-Some.text.now c.number.result limit (found_of c.args.matches.now) c.args.name.now c.number.ensures
    (rw c.in-Some.is at c.get_str.ensures) number

pub returns-in-None-clause-value : goal.returns-in-None-clause-value
returns-in-None-clause-value c = nothing_is_found (found_of c.args.matches.now) c.args.name.now (rw c.in-None.is at c.get_str.ensures)
