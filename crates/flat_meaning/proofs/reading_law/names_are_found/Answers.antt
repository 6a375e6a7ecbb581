use Rattle.flat_meaning.proofs.Found.{variables_found, items_found}
use Rattle.flat_meaning.proofs.reading_law.names_are_found.Goals as goal

pub returns : goal.returns
returns c = record { variables = variables_found; items = items_found }
