use Rattle.std.proofs.Common.{◌≡◌, ◌∙◌, ◌*◌, ap, arith, length, subst}
use Rattle.std.specs.List.{list_any}
use Rattle.mz_symbol.specs.Makes.{GoesOnBy}
use Rattle.glob_nodes.proofs.Saying.{ok_so}
use Rattle.glob_nodes.proofs.Telling.{goes_less, goes_more}
use Rattle.glob_nodes.specs.Places.{indexed}
use Rattle.glob_nodes.proofs.IntegerNodes.{tells_from}
use Rattle.glob_graph.specs.Senses.{is_place}
use Rattle.glob_graph.proofs.ElementAt.{any_numbered}
use Rattle.glob_graph.proofs.elements.some_place.Goals as goal

pub returns-in_err-places-clause-goes : goal.returns-in_err-places-clause-goes
returns-in_err-places-clause-goes c = goes_less 0 _ c.args.run.now c.places_of.new.run (omega arith) c.places_of.ensures.goes

pub returns-clause-goes : goal.returns-clause-goes
returns-clause-goes c =
    let count : length c.deref.result.now ≡ length c.args.xs.now.items.items = ap length c.deref.ensures.value ∙ c.in_ok-places.ensures.numbered.count in
    goes_more 0 (24 * length c.args.xs.now.items.items) _ c.args.run.now c.places_of.new.run c.some_pass.new.run (omega arith) c.in_ok-places.ensures.goes
    (subst (λ n. GoesOnBy (24 * n) c.places_of.new.run c.some_pass.new.run) count c.some_pass.ensures.goes)

pub returns-clause-tells : goal.returns-clause-tells
returns-clause-tells c = ok_so c.some_pass.result c.some_pass.ensures.tells (λ id t. tells_from c.args.run.now c.places_of.new.run c.some_pass.new.run (λ r. list_any (λ x. is_place r c.args.i c.args.y (indexed r x)) c.deref.result.now) _ id _ c.in_ok-places.ensures.numbered.same c.some_pass.ensures.goes t
    (λ r h. ap (λ ps. list_any (λ x. is_place r c.args.i c.args.y (indexed r x)) ps) c.deref.ensures.value ∙ any_numbered c.args.run.now c.places_of.new.run c.args.xs.now.first c.args.xs.now.items.items c.in_ok-places.places.items r (is_place r c.args.i c.args.y) c.in_ok-places.ensures.numbered h))
