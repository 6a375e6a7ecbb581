use Rattle.mz_symbol_access.proofs.AloneLaws.{single}
use Rattle.mz_symbol_access.proofs.reached.only_index.Goals as goal

pub returns : goal.returns
returns c = single _ c.args.indices.now c.requires
