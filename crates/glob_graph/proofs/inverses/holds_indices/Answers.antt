use Rattle.std.proofs.Common.{◌*◌, length, subst}
use Rattle.std.specs.List.{list_all}
use Rattle.mz_symbol.specs.Makes.{GoesOnBy}
use Rattle.glob_nodes.specs.Says.{Tells, num}
use Rattle.glob_nodes.proofs.Saying.{ok_so}
use Rattle.glob_nodes.specs.Places.{lies_within}
use Rattle.glob_graph.proofs.inverses.holds_indices.Goals as goal

pub returns-clause-goes : goal.returns-clause-goes
returns-clause-goes c = subst (λ ids. GoesOnBy (24 * length ids) c.args.run.now c.are_indices.new.run) c.deref.ensures.value c.are_indices.ensures.goes

pub returns-clause-tells : goal.returns-clause-tells
returns-clause-tells c = ok_so c.are_indices.result c.are_indices.ensures.tells (λ id t. subst (λ ids. Tells c.args.run.now c.are_indices.new.run (λ r. list_all (λ x. lies_within (c.args.g.now.first, c.args.g.now.last) (num r x)) ids) id) c.deref.ensures.value t)
