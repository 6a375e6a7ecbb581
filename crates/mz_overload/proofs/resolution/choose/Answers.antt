use Rattle.std.proofs.Common.{map, ◌∙◌}
use Rattle.mz_core.specs.Types.{plain_type, plain_signature}
use Rattle.mz_overload.proofs.Resolutions.{chosen_first, chosen_is}
use Rattle.mz_overload.proofs.resolution.choose.Goals as goal

pub returns-clause-first : goal.returns-clause-first
returns-clause-first c = c.first_accepting.ensures ∙ chosen_first (map plain_signature c.args.cands.now) (map plain_type c.args.args.now)

pub returns-clause-best : goal.returns-clause-best
returns-clause-best c = chosen_is (map plain_signature c.args.cands.now) (map plain_type c.args.args.now) c.first_accepting.result (returns-clause-first c)
