use Rattle.soln_reader.proofs.Values.{begins_fit, fed_fits, gives_values, needed_fits}
use Rattle.soln_reader.proofs.laws.values_fit.Goals as goal

pub returns : goal.returns
returns c = record { begun = begins_fit; fed = fed_fits; given = gives_values; needed = needed_fits }
