use Rattle.std.proofs.Common.{refl, sym}
use Rattle.mz_symbol.proofs.run.Run.listing.Goals as goal

pub returns-in-Some : goal.returns-in-Some
returns-in-Some c = record { line = c.in-Some.l.now; stands = sym c.in-Some.ensures.line; is = refl; sound = c.in-Some.ensures.sound }
