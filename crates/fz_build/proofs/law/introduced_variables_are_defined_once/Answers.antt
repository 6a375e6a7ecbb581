use Rattle.fz_build.proofs.Histories.{made_of}
use Rattle.fz_build.proofs.law.introduced_variables_are_defined_once.Goals as goal

pub returns : goal.returns
returns c front p n is made = made_of front is p n made
