use Rattle.std.proofs.Common.{subst, sym}
use Rattle.mz_symbol.specs.Runs.{ReadsNodes}
use Rattle.mz_eval_elements.proofs.PlaceLaws.{sure_told}
use Rattle.mz_eval_elements.proofs.places.sure_symbol.Goals as goal

pub returns-in-Some : goal.returns-in-Some
returns-in-Some c r h = sure_told r c.args.run.now c.args.line c.in-Ok.found.0 c.in-Ok.found.1 c.args.n c.in-Some.y c.in-Ok.ensures.line c.in-Some.ensures (λ t g. c.may_fail.ensures c.if-may_fail.false t (subst (ReadsNodes t) (sym c.arena.ensures.nodes) g)) h
