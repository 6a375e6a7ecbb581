use Rattle.std.proofs.Common.{subst}
use Rattle.mz_symbol_arrays.specs.Sure.{IsSure}
use Rattle.mz_symbol_arrays.proofs.items.number_there.Goals as goal

pub sure_there-requires : goal.sure_there-requires
sure_there-requires c = subst (λ es. IsSure es c.args.x) c.arena.ensures.nodes (c.is_sure.ensures c.if-is_sure.true)
