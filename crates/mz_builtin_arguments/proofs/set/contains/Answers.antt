use Rattle.std.proofs.Common.{arith}
use Rattle.std.proofs.lemmas.Int.{ints}
use Rattle.mz_builtin_arguments.proofs.Sets.{contains_at}
use Rattle.mz_builtin_arguments.proofs.set.contains.Goals as goal

pub returns : goal.returns
returns c = contains_at c.args.s.now c.args.x _ c.contains.result c.contains.ensures (omega (arith, ints))
