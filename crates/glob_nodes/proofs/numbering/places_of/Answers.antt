use Rattle.std.proofs.Common.{subst, rules}
use Rattle.std.proofs.lemmas.Int.{to_z-of_z}
use mir.Syntax.{w64}
use Rattle.glob_nodes.proofs.Saying.{ok_so}
use Rattle.glob_nodes.specs.Places.{AreNumbered}
use Rattle.glob_nodes.proofs.numbering.places_of.Goals as goal

pub returns-clause-numbered : goal.returns-clause-numbered
returns-clause-numbered c = ok_so c.numbered.result c.numbered.ensures.numbered (λ ps t.
    subst (λ is. AreNumbered c.args.run.now c.numbered.new.run c.args.xs.now.first is ps.items) c.deref.ensures.value
    (subst (λ n. AreNumbered c.args.run.now c.numbered.new.run n c.deref.result.now ps.items) (to_z-of_z w64 c.args.xs.now.first (search rules)) t))
