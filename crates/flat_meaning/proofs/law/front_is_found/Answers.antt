use Rattle.flat_meaning.proofs.Front.{front_found}
use Rattle.flat_meaning.proofs.law.front_is_found.Goals as goal

pub returns : goal.returns
returns c = front_found
