use Rattle.std.proofs.Common.{◌∙◌, ap}
use Rattle.mz_core.specs.Types.{plain_type}
use Rattle.mz_operations.specs.Bounds as bounds
use Rattle.mz_meaning.specs.Cells.{Var}
use Rattle.mz_meaning.specs.Domains.{domain_over}
use Rattle.mz_symbol.specs.Readings.{state_of}
use Rattle.mz_symbol_rows.specs.RowValues.{argument}
use Rattle.mz_eval_guards.specs.Guards.{guard_seen}
use Rattle.mz_eval_declared.proofs.Choosing.{taken_means}
use Rattle.mz_eval_declared.proofs.choices.taken_in.Goals as goal

pub returns-clause-means : goal.returns-clause-means
unfolding plain_type
returns-clause-means c r h =
    taken_means r (domain_over (plain_type c.args.t.now) c.args.set.now) c.in-Ok.s c.in_ok-k.k (guard_seen r c.surely.result) (state_of r c.args.run.now) (state_of r c.choice.new.run) (c.surely.ensures r) (c.in-Ok.ensures.means r h) (c.in_ok-k.ensures.seen r ∙ ap (λ q. Var (bounds.one q) (argument r c.in-Ok.s)) c.requires)
