use Rattle.mz_core.specs.Types.{plain_type}
use Rattle.mz_eval_cells.specs.Views.{known_bound, seen}
use Rattle.mz_eval_comprehensions.proofs.ItemLaws.{line_told}
use Rattle.mz_eval_comprehensions.proofs.drawn.places.line_place.Goals as goal

pub returns-clause-cell : goal.returns-clause-cell
returns-clause-cell c = record {
  same = c.in_ok-x.ensures.cell.same;
  is = λ r h. line_told r c.args.run.now (plain_type c.element_type-t.result) (known_bound c.args.bound) c.args.cast c.args.line c.in_ok-found.found.0 c.in_ok-found.found.1 c.args.n c.in-Some.s (seen r c.in_ok-x.x) (seen r c.in_ok-k.k) c.in_ok-found.ensures.line c.in-Some.ensures (c.in_ok-x.ensures.goes.back r h) (c.in_ok-k.ensures r) (c.in_ok-x.ensures.cell.is r h);
}
