use Rattle.std.proofs.Common.{subst, sym}
use Rattle.mz_symbol.specs.Runs.{ReadsNodes}
use Rattle.mz_eval_symbols.proofs.CastLaws.{counts_itself}
use Rattle.mz_eval_symbols.proofs.casts.truth_recast.Goals as goal

pub returns-then-counts_itself-clause-cast : goal.returns-then-counts_itself-clause-cast
returns-then-counts_itself-clause-cast c r h = counts_itself r c.args.run.now c.arena.result.now c.args.b c.args.s (c.counts_itself.ensures c.if-counts_itself.true) (subst (ReadsNodes r.term) (sym c.arena.ensures.nodes) h.nodes)
