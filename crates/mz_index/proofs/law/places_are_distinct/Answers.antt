use Rattle.mz_index.proofs.Laws.{all_inside, place_of-some, place_of-below, place_of-distinct}
use Rattle.mz_index.proofs.law.places_are_distinct.Goals as goal

pub returns-clause-inside : goal.returns-clause-inside
returns-clause-inside c rs is = (all_inside rs is, place_of-some rs is)

pub returns-clause-below : goal.returns-clause-below
returns-clause-below c = place_of-below

pub returns-clause-distinct : goal.returns-clause-distinct
returns-clause-distinct c = place_of-distinct
