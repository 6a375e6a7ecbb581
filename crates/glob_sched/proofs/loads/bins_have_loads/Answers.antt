use Rattle.std.proofs.Common.{◌≡◌, ◌∙◌, ◌+◌, ◌*◌, ap, arith, length, subst}
use Rattle.std.specs.List.{list_all}
use Rattle.mz_symbol.specs.Makes.{GoesOnBy}
use Rattle.glob_nodes.proofs.Saying.{ok_so}
use Rattle.glob_nodes.proofs.Telling.{goes_less, goes_more}
use Rattle.glob_nodes.specs.Places.{indexed}
use Rattle.glob_nodes.proofs.IntegerNodes.{tells_from}
use Rattle.glob_nodes.proofs.Indexing.{all_numbered}
use Rattle.glob_sched.specs.Senses.{has_load}
use Rattle.glob_sched.proofs.loads.bins_have_loads.Goals as goal

pub returns-in_err-places-clause-goes : goal.returns-in_err-places-clause-goes
returns-in_err-places-clause-goes c = goes_less 0 _ c.args.run.now c.places_of.new.run (omega arith) c.places_of.ensures.goes

pub returns-clause-goes : goal.returns-clause-goes
returns-clause-goes c =
    let count : length c.deref.result.now ≡ length c.args.loads.now.items.items = ap length c.deref.ensures.value ∙ c.in_ok-places.ensures.numbered.count in
    goes_more 0 ((18 * length c.args.things.now + 6 + 6) * length c.args.loads.now.items.items) _ c.args.run.now c.places_of.new.run c.all_pass.new.run (omega arith) c.in_ok-places.ensures.goes
    (subst (λ n. GoesOnBy ((18 * length c.args.things.now + 6 + 6) * n) c.places_of.new.run c.all_pass.new.run) count c.all_pass.ensures.goes)

pub returns-clause-tells : goal.returns-clause-tells
returns-clause-tells c = ok_so c.all_pass.result c.all_pass.ensures.tells (λ id t. tells_from c.args.run.now c.places_of.new.run c.all_pass.new.run (λ r. list_all (λ x. has_load r c.args.things.now (indexed r x)) c.deref.result.now) _ id _ c.in_ok-places.ensures.numbered.same c.all_pass.ensures.goes t
    (λ r h. ap (λ ps. list_all (λ x. has_load r c.args.things.now (indexed r x)) ps) c.deref.ensures.value ∙ all_numbered c.args.run.now c.places_of.new.run c.args.loads.now.first c.args.loads.now.items.items c.in_ok-places.places.items r (has_load r c.args.things.now) c.in_ok-places.ensures.numbered h))
