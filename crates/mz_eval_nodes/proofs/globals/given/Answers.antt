use Rattle.std.proofs.Common.{◌∙◌, sym, ap}
use Rattle.mz_symbol.specs.Readings.{state_of}
use Rattle.mz_meaning.specs.Cells.{all_par}
use Rattle.mz_eval_cells.specs.Views.{cells_of}
use Rattle.mz_eval_nodes.proofs.Calls.{call_seen}
use Rattle.mz_eval_nodes.proofs.globals.given.Goals as goal

pub returns-then-all_par-clause-means : goal.returns-then-all_par-clause-means
returns-then-all_par-clause-means c r h = call_seen r c.args.g c.args.at c.args.all.items c.global_cell.result (state_of r c.args.run.now) (sym (ap (λ xs. all_par (cells_of xs)) c.deref.ensures.value) ∙ sym c.all_par.ensures ∙ c.if-all_par.true) c.global_cell.ensures
