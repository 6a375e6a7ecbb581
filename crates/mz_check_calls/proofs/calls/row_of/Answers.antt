use Rattle.std.proofs.Common.{map}
use Rattle.mz_core.specs.Types.{plain_type}
use Rattle.mz_check_calls.proofs.Choosing.{passes_row}
use Rattle.mz_check_calls.proofs.calls.row_of.Goals as goal

pub returns-clause-row : goal.returns-clause-row
returns-clause-row c = passes_row c.args.span c.args.name.now (map plain_type c.args.args.now) c.row_found.result c.row_found.ensures
