use Rattle.clap.specs.Words.{kind_of}
use Rattle.mz_words.proofs.Found.{are_numbers, is_found, refusal_answers}
use Rattle.mz_words.proofs.command.reading.parsed.Goals as goal

pub returns-in-Ok : goal.returns-in-Ok
returns-in-Ok c = record {
  value = is_found _ _ _ (c.in-Ok.ensures.kinds c.requires.free) (c.in-Ok.ensures.ok.2 c.requires.simple).0;
  numbers = are_numbers c.args.command c.try_get_matches_from_mut.new.self c.in-Ok.matches c.requires c.in-Ok.ensures.ok.1 c.in-Ok.ensures.fails c.in-Ok.ensures.after;
}

pub returns-clause-value : goal.returns-clause-value
returns-clause-value c = rw c.refusal.ensures (refusal_answers _ _ (kind_of c.in-Err.error) (c.in-Err.ensures.kinds c.requires.free))
