use Rattle.mz_model_roots.proofs.WholeItems.{items_kept, line_goes, line_kept}
use Rattle.mz_model_roots.proofs.array_cells.kept.Goals as goal

pub push_line-requires : goal.push_line-requires
push_line-requires c t h there = items_kept c.args.run.now c.symbols.new.run c.args.places.now c.in_ok-items.items.items c.symbols.ensures.goes c.requires c.in_ok-items.ensures.whole t h

pub returns-clause-goes : goal.returns-clause-goes
returns-clause-goes c = line_goes c.args.run.now c.symbols.new.run c.push_line.new.self c.args.places.now c.in_ok-items.items.items c.symbols.ensures.goes c.in_ok-items.ensures.whole c.push_line.ensures.goes

pub returns-clause-means : goal.returns-clause-means
returns-clause-means c r h = line_kept r c.args.run.now c.symbols.new.run c.push_line.new.self c.args.places.now c.in_ok-items.items.items c.args.defined c.in-Ok.line c.symbols.ensures.goes c.in_ok-items.ensures.keeps c.requires c.in_ok-items.ensures.whole (c.push_line.ensures.goes.back r h) (c.in-Ok.ensures.means r h)
