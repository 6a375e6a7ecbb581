use Rattle.std.proofs.Common.{◌∙◌, sym}
use Rattle.mz_eval_cells.specs.Views.{cell_of, seen}
use Rattle.mz_eval_scopes.proofs.scopes.at_slot.Goals as goal

pub returns-in-None-clause-of : goal.returns-in-None-clause-of
returns-in-None-clause-of c = c.undefined.ensures.of ∙ sym (c.in-None.ensures cell_of)

pub returns-in-None-clause-seen : goal.returns-in-None-clause-seen
returns-in-None-clause-seen c r = c.undefined.ensures.seen r ∙ sym (c.in-None.ensures (seen r))

pub returns-in_ok-same-in-Some-clause-of : goal.returns-in_ok-same-in-Some-clause-of
returns-in_ok-same-in-Some-clause-of c = c.in_ok-same-in-Some.ensures.of ∙ sym (c.in-Some.ensures cell_of)

pub returns-in_ok-same-in-Some-clause-seen : goal.returns-in_ok-same-in-Some-clause-seen
returns-in_ok-same-in-Some-clause-seen c r = c.in_ok-same-in-Some.ensures.seen r ∙ sym (c.in-Some.ensures (seen r))
