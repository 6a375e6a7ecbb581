use Rattle.fz_build.proofs.Copies.{array_opened}
use Rattle.flat_reif_rows.proofs.access.array_of.Goals as goal

pub returns : goal.returns
returns c = array_opened c.args.items
