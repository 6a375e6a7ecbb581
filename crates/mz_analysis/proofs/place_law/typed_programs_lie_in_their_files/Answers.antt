use Rattle.mz_analysis.proofs.PlacePrograms.{typing_keeps_places, programs_lie_in_their_files}
use Rattle.mz_analysis.proofs.place_law.typed_programs_lie_in_their_files.Goals as goal

pub returns : goal.returns
returns c = record { typing = typing_keeps_places; files = programs_lie_in_their_files }
