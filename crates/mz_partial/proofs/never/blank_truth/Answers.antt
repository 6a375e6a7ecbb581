use Rattle.mz_partial.proofs.Testing.{blank_truth, constant_truth}
use Rattle.std.proofs.Common.{true}
use Rattle.mz_partial.proofs.never.blank_truth.Goals as goal

pub negation-requires : goal.negation-requires
negation-requires c = record { arena = c.in_ok-yes.ensures.arena; a = constant_truth c.args.arena.now c.always.new.arena true c.in_ok-yes.yes c.in_ok-yes.ensures }

pub returns : goal.returns
returns c = blank_truth c.args.arena.now c.always.new.arena c.negation.new.arena c.in_ok-yes.yes c.in_ok-t.t c.in_ok-yes.ensures c.in_ok-t.ensures
