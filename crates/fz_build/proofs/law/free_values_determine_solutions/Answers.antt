use Rattle.fz_build.proofs.Histories.{free_determine}
use Rattle.fz_build.proofs.law.free_values_determine_solutions.Goals as goal

pub returns : goal.returns
returns c front p n is made f g solves other same = free_determine front is p n made f g solves other same
