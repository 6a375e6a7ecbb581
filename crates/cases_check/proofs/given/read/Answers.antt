use Rattle.cases_check.proofs.given.read.Goals as goal

pub returns-clause-named : goal.returns-clause-named
returns-clause-named c = c.in_ok-data.ensures.named (rw c.as_slice.ensures.value c.in_ok-all.ensures.named)
