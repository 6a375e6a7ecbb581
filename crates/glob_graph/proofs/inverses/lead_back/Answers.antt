use Rattle.std.proofs.Common.{◌≡◌, ◌∙◌, ◌+◌, ◌*◌, ap, arith, length, subst}
use Rattle.std.specs.List.{list_all}
use Rattle.mz_symbol.specs.Makes.{GoesOnBy}
use Rattle.glob_nodes.proofs.Saying.{ok_so}
use Rattle.glob_nodes.proofs.Telling.{goes_less, goes_more}
use Rattle.glob_nodes.specs.Places.{indexed}
use Rattle.glob_nodes.proofs.IntegerNodes.{tells_from}
use Rattle.glob_nodes.proofs.Several.{same_two}
use Rattle.glob_graph.specs.Senses.{are_two_way}
use Rattle.glob_graph.proofs.BothWays.{back_numbered}
use Rattle.glob_graph.proofs.inverses.lead_back.Goals as goal

pub returns-in_err-fs-clause-goes : goal.returns-in_err-fs-clause-goes
returns-in_err-fs-clause-goes c = goes_less 0 _ c.args.run.now c.places_of.new.run (omega arith) c.places_of.ensures.goes

pub returns-in_err-gs-clause-goes : goal.returns-in_err-gs-clause-goes
returns-in_err-gs-clause-goes c = goes_more 0 0 _ c.args.run.now c.places_of.new.run c.places_of-2.new.run (omega arith) c.in_ok-fs.ensures.goes c.places_of-2.ensures.goes

pub returns-clause-goes : goal.returns-clause-goes
returns-clause-goes c =
    let fs : length c.deref.result.now ≡ length c.args.f.now.items.items = ap length c.deref.ensures.value ∙ c.in_ok-fs.ensures.numbered.count in
    let gs : length c.deref-2.result.now ≡ length c.args.g.now.items.items = ap length c.deref-2.ensures.value ∙ c.in_ok-gs.ensures.numbered.count in
    goes_more 0 ((24 * length c.args.g.now.items.items + 6) * length c.args.f.now.items.items) _ c.args.run.now c.places_of-2.new.run c.all_lead_back.new.run (omega arith)
    (goes_more 0 0 0 c.args.run.now c.places_of.new.run c.places_of-2.new.run (omega arith) c.in_ok-fs.ensures.goes c.in_ok-gs.ensures.goes)
    (subst (λ n. GoesOnBy ((24 * n + 6) * length c.args.f.now.items.items) c.places_of-2.new.run c.all_lead_back.new.run) gs
    (subst (λ n. GoesOnBy ((24 * length c.deref-2.result.now + 6) * n) c.places_of-2.new.run c.all_lead_back.new.run) fs c.all_lead_back.ensures.goes))

pub returns-clause-tells : goal.returns-clause-tells
returns-clause-tells c = ok_so c.all_lead_back.result c.all_lead_back.ensures.tells (λ id t. tells_from c.args.run.now c.places_of-2.new.run c.all_lead_back.new.run (λ r. list_all (λ p. list_all (λ q. are_two_way r (indexed r p) (indexed r q)) c.deref-2.result.now) c.deref.result.now) _ id _
    (λ r h. c.in_ok-fs.ensures.numbered.same r (c.in_ok-gs.ensures.goes.back r h) ∙ c.in_ok-gs.ensures.numbered.same r h)
    c.all_lead_back.ensures.goes t
    (λ r h. same_two (λ fs gs. list_all (λ p. list_all (λ q. are_two_way r (indexed r p) (indexed r q)) gs) fs) c.deref.result.now c.in_ok-fs.fs.items c.deref-2.result.now c.in_ok-gs.gs.items c.deref.ensures.value c.deref-2.ensures.value
    ∙ back_numbered c.args.run.now c.places_of.new.run c.places_of-2.new.run c.args.f.now c.args.g.now c.in_ok-fs.fs.items c.in_ok-gs.gs.items r c.in_ok-fs.ensures.numbered c.in_ok-gs.ensures.numbered (c.in_ok-gs.ensures.goes.back r h) h))
