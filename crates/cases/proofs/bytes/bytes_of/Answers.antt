use Rattle.std.proofs.Common.{◌≡◌, ap, arith, []}
use Rattle.std.proofs.lemmas.Grind.{common_steps}
use Rattle.cases.specs.Bytes.{written}
use Rattle.cases.proofs.bytes.bytes_of.Goals as goal

pub returns : goal.returns
unfolding written
returns c =
    let ends : written c.loop-byte.rest.now ≡ [] = ap written c.in_default.ensures.writes in
    grind (arith, common_steps, ends, c.loop-byte.invariant)
