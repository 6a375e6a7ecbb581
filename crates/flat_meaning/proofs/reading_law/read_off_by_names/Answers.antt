use Rattle.flat_meaning.proofs.Distinct.{reads_itself}
use Rattle.flat_meaning.proofs.reading_law.read_off_by_names.Goals as goal

pub returns : goal.returns
returns c names f distinct long = reads_itself names f distinct long
