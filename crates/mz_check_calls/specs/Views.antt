-- What the code's candidates, operands and chains stand for.
use Rattle.std.specs.Prelude.{map, reverse}
use Rattle.mz_core.specs.Types.{plain_type, plain_signature}
use Rattle.mz_core.specs.TreeViews.{tree, step}
use Rattle.mz_check_meaning.specs.Calls.{Candidate}
use Rattle.mz_check_meaning.specs.Chains.{Operand, Chained}
use Rattle.mz_check_calls.specs.declared.pairs.Candidate.{Candidate as Found}
use Rattle.mz_check_calls.specs.declared.chains.Operand.{Operand as Typed}
use Rattle.mz_check_calls.specs.declared.chains.Chained.{Chained as Done}

abbrev pub candidate : Found → Candidate
candidate c = record { callee = c.callee; signature = plain_signature c.signature }

abbrev pub operand : Typed → Operand
operand o = record { operator = o.operator; tree = tree o.tree }

abbrev pub chained : Done → Chained
chained c = record { ty = plain_type c.ty; done = map step c.done.items }

-- the same with its last operator first in the code's list
abbrev pub chained_back : Done → Chained
chained_back c = record { ty = plain_type c.ty; done = reverse (map step c.done.items) }
