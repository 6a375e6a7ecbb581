use Rattle.std.proofs.Common.{◌∙◌, ◌*◌, length, ap, arith, subst}
use Rattle.std.specs.List.{list_all}
use Rattle.mz_operations.specs.Sets.{is_subset}
use Rattle.mz_arena.specs.Values.{as_set, holds}
use Rattle.mz_symbol.specs.Makes.{GoesOnBy}
use Rattle.glob_nodes.proofs.Saying.{ok_so}
use Rattle.glob_nodes.proofs.Telling.{goes_less, goes_more}
use Rattle.glob_nodes.proofs.IntegerNodes.{tells_from}
use Rattle.glob_sets.specs.Senses.{lies_among}
use Rattle.glob_sets.proofs.indices.have_indices.Goals as goal

pub returns-in_err-places-clause-goes : goal.returns-in_err-places-clause-goes
returns-in_err-places-clause-goes c = goes_less 0 _ c.args.run.now c.index_node.new.run (omega arith) c.index_node.ensures.goes

pub returns-clause-goes : goal.returns-clause-goes
returns-clause-goes c = goes_more 0 (12 * length c.args.ys.now.items.items) _ c.args.run.now c.index_node.new.run c.are_parts.new.run (omega arith) c.in_ok-places.ensures.goes (subst (λ ids. GoesOnBy (12 * length ids) c.index_node.new.run c.are_parts.new.run) c.deref.ensures.value c.are_parts.ensures.goes)

pub returns-clause-tells : goal.returns-clause-tells
returns-clause-tells c = ok_so c.are_parts.result c.are_parts.ensures.tells (λ id t. tells_from c.args.run.now c.index_node.new.run c.are_parts.new.run _ _ id _
    (λ r h. c.in_ok-places.ensures.gives.same r h)
    c.are_parts.ensures.goes t
    (λ r h. ap (λ u. list_all (λ s. holds (as_set (r.term s)) (as_set u) is_subset) c.deref.result.now) (c.in_ok-places.ensures.gives.is r h)
    ∙ ap (λ ids. list_all (λ s. lies_among (c.args.xs.now.first, c.args.xs.now.last) (as_set (r.term s))) ids) c.deref.ensures.value))
