use Rattle.fz_program.proofs.TestAnswers.{says_false}
use Rattle.fz_program.proofs.Places.{no_places}
use Rattle.fz_program.proofs.index.has_places.Goals as goal

pub returns-then-left-size-ne0 : goal.returns-then-left-size-ne0
returns-then-left-size-ne0 c =
    says_false (λ h. no_places c.loop-rest.rest.now _ _ c.in-len1-up.len_at_least c.size_of-size.ensures c.if-size-eq0.false c.if-left-size-ne0.true (c.loop-rest.invariant.from h))
