use Rattle.std.proofs.Common.{◌≡◌, ◌∙◌, ◌*◌, ap, arith, length, subst}
use Rattle.std.specs.List.{list_all}
use Rattle.mz_symbol.specs.Makes.{GoesOnBy}
use Rattle.glob_nodes.proofs.Saying.{ok_so}
use Rattle.glob_nodes.proofs.Telling.{goes_less, goes_more}
use Rattle.glob_nodes.specs.Places.{indexed}
use Rattle.glob_nodes.proofs.Indexing.{all_numbered}
use Rattle.glob_nodes.proofs.IntegerNodes.{tells_from}
use Rattle.glob_sets.specs.Senses.{is_linked}
use Rattle.glob_sets.proofs.links.all_linked.Goals as goal

pub returns-in_err-ps-clause-goes : goal.returns-in_err-ps-clause-goes
returns-in_err-ps-clause-goes c = goes_less 0 _ c.args.run.now c.places_of.new.run (omega arith) c.places_of.ensures.goes

pub returns-clause-goes : goal.returns-clause-goes
returns-clause-goes c =
    let ps : length c.deref.result.now ≡ length c.args.bs.now.items.items = ap length c.deref.ensures.value ∙ c.in_ok-ps.ensures.numbered.count in
    goes_more 0 (18 * length c.args.bs.now.items.items) _ c.args.run.now c.places_of.new.run c.places_linked.new.run (omega arith) c.in_ok-ps.ensures.goes
    (subst (λ n. GoesOnBy (18 * n) c.places_of.new.run c.places_linked.new.run) ps c.places_linked.ensures.goes)

pub returns-clause-tells : goal.returns-clause-tells
returns-clause-tells c = ok_so c.places_linked.result c.places_linked.ensures.tells (λ id t. tells_from c.args.run.now c.places_of.new.run c.places_linked.new.run (λ r. list_all (λ p. is_linked r c.args.s (indexed r p)) c.deref.result.now) _ id _
    (λ r h. c.in_ok-ps.ensures.numbered.same r h)
    c.places_linked.ensures.goes t
    (λ r h. ap (λ ps. list_all (λ p. is_linked r c.args.s (indexed r p)) ps) c.deref.ensures.value
    ∙ all_numbered c.args.run.now c.places_of.new.run c.args.bs.now.first c.args.bs.now.items.items c.in_ok-ps.ps.items r (is_linked r c.args.s) c.in_ok-ps.ensures.numbered h))
