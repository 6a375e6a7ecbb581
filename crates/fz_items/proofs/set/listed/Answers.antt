use Rattle.std.proofs.Common.{rules}
use Rattle.fz_items.proofs.SetLemmas.{listed_is}
use Rattle.fz_items.proofs.set.listed.Goals as goal

pub returns : goal.returns
returns c = listed_is c.args.items.now c.in_ok-of.field-0 (search rules) c.in_ok-of.ensures.members c.in_ok-of.ensures.canonical
