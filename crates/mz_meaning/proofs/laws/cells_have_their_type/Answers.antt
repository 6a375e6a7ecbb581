use Rattle.mz_meaning.proofs.Typing.{booleans_are_defined, cells_have_their_mark}
use Rattle.mz_meaning.proofs.laws.cells_have_their_type.Goals as goal

pub returns : goal.returns
returns c = record { booleans = booleans_are_defined; marks = cells_have_their_mark }
