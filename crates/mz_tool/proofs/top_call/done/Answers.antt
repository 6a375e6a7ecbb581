use Rattle.mz_tool.proofs.top_call.done.Goals as goal

pub returns-in-Check-clause-ended : goal.returns-in-Check-clause-ended
returns-in-Check-clause-ended g c = rw c.in-Check.is (c.check.ensures.ended _)

pub returns-in-Check-clause-output : goal.returns-in-Check-clause-output
returns-in-Check-clause-output g c = c.check.ensures.writes_nothing _

pub returns-in-Make-clause-ended : goal.returns-in-Make-clause-ended
returns-in-Make-clause-ended g c = rw c.in-Make.is (c.make.ensures.ended _)

pub returns-in-Print-clause-printed : goal.returns-in-Print-clause-printed
returns-in-Print-clause-printed g c = rw c.in-Print.is c.print.ensures.printed
