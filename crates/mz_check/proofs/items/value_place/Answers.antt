use Rattle.std.proofs.Common.{◌∙◌, sym}
use Rattle.mz_check.proofs.Values.{place_is}
use Rattle.mz_check.proofs.items.value_place.Goals as goal

pub returns : goal.returns
returns c = c.place_or.ensures ∙ sym (place_is c.args.d.now)
