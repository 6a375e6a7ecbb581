use Rattle.std.proofs.Common.{◌∙◌, None, ap}
use Rattle.mz_operations.specs.Bounds as bounds
use Rattle.mz_meaning.specs.Cells.{Var}
use Rattle.mz_eval_cells.specs.Views.{known_bound}
use Rattle.mz_model_roots.proofs.PlaceCells.{place_seen}
use Rattle.mz_model_roots.proofs.cells.place_cell.Goals as goal

pub returns-clause-of : goal.returns-clause-of
returns-clause-of c = c.in_ok-k.ensures.of ∙ ap (λ (b : bounds.Bound). Var (bounds.one b) None) c.in_ok-bound.ensures

pub returns-clause-seen : goal.returns-clause-seen
returns-clause-seen c = place_seen c.with_whole_value.new.run c.in_ok-k.k c.args.place.now c.in_ok-symbol.symbol (known_bound c.in_ok-bound.bound) c.in_ok-symbol.ensures.whole c.in_ok-bound.ensures c.in_ok-k.ensures.seen

pub returns-clause-keeps : goal.returns-clause-keeps
returns-clause-keeps c = record { same = c.in_ok-symbol.ensures.same }
