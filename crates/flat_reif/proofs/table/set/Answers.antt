use Rattle.flat_reif.proofs.Puts.{set_put}
use Rattle.flat_reif.proofs.table.set.Goals as goal

pub returns : goal.returns
returns c = set_put c.args.args.now.items c.args.id c.args.a c.requires
