use Rattle.std.proofs.Common.{subst, sym}
use Rattle.mz_symbol.specs.Runs.{ReadsNodes}
use Rattle.mz_eval_symbols.specs.Steps.{AreMade}
use Rattle.mz_eval_symbols.specs.StepsLacking.{IsSameItem}
use Rattle.mz_eval_symbols.proofs.lines.fits_of.Goals as goal

pub returns-clause-made : goal.returns-clause-made
returns-clause-made c t h = subst (λ xs. AreMade (IsSameItem t) xs c.args.count c.in_ok-all.all.items) c.deref.ensures.value (c.in_ok-all.ensures.made t (subst (ReadsNodes t) (sym c.arena.ensures.nodes) h))
