use Rattle.mz_meaning_laws.proofs.PlaceWalks.{expressions_stop, walks_stop}
use Rattle.mz_meaning_laws.proofs.place_law.evaluation_stops_in_its_places.Goals as goal

pub returns : goal.returns
returns c = record { expressions = expressions_stop; walks = walks_stop }
