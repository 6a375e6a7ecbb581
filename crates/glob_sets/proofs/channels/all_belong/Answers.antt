use Rattle.std.proofs.Common.{◌≡◌, ◌∙◌, ◌+◌, ◌*◌, ap, arith, length, subst}
use Rattle.std.specs.List.{list_all}
use Rattle.mz_symbol.specs.Makes.{GoesOnBy}
use Rattle.glob_nodes.proofs.Saying.{ok_so}
use Rattle.glob_nodes.proofs.Telling.{goes_less, goes_more}
use Rattle.glob_nodes.specs.Places.{indexed}
use Rattle.glob_nodes.proofs.IntegerNodes.{tells_from}
use Rattle.glob_nodes.proofs.Several.{same_two}
use Rattle.glob_sets.specs.Senses.{belong}
use Rattle.glob_sets.proofs.Belonging.{pairs_numbered}
use Rattle.glob_sets.proofs.channels.all_belong.Goals as goal

pub returns-in_err-ps-clause-goes : goal.returns-in_err-ps-clause-goes
returns-in_err-ps-clause-goes c = goes_less 0 _ c.args.run.now c.places_of.new.run (omega arith) c.places_of.ensures.goes

pub returns-in_err-qs-clause-goes : goal.returns-in_err-qs-clause-goes
returns-in_err-qs-clause-goes c = goes_more 0 0 _ c.args.run.now c.places_of.new.run c.places_of-2.new.run (omega arith) c.in_ok-ps.ensures.goes c.places_of-2.ensures.goes

pub returns-clause-goes : goal.returns-clause-goes
returns-clause-goes c =
    let ps : length c.deref.result.now ≡ length c.args.xs.now.items.items = ap length c.deref.ensures.value ∙ c.in_ok-ps.ensures.numbered.count in
    let qs : length c.deref-2.result.now ≡ length c.args.ys.now.items.items = ap length c.deref-2.ensures.value ∙ c.in_ok-qs.ensures.numbered.count in
    goes_more 0 ((24 * length c.args.ys.now.items.items + 6) * length c.args.xs.now.items.items) _ c.args.run.now c.places_of-2.new.run c.places_belong.new.run (omega arith)
    (goes_more 0 0 0 c.args.run.now c.places_of.new.run c.places_of-2.new.run (omega arith) c.in_ok-ps.ensures.goes c.in_ok-qs.ensures.goes)
    (subst (λ n. GoesOnBy ((24 * n + 6) * length c.args.xs.now.items.items) c.places_of-2.new.run c.places_belong.new.run) qs
    (subst (λ n. GoesOnBy ((24 * length c.deref-2.result.now + 6) * n) c.places_of-2.new.run c.places_belong.new.run) ps c.places_belong.ensures.goes))

pub returns-clause-tells : goal.returns-clause-tells
returns-clause-tells c = ok_so c.places_belong.result c.places_belong.ensures.tells (λ id t. tells_from c.args.run.now c.places_of-2.new.run c.places_belong.new.run (λ r. list_all (λ p. list_all (λ q. belong r (indexed r p) (indexed r q)) c.deref-2.result.now) c.deref.result.now) _ id _
    (λ r h. c.in_ok-ps.ensures.numbered.same r (c.in_ok-qs.ensures.goes.back r h) ∙ c.in_ok-qs.ensures.numbered.same r h)
    c.places_belong.ensures.goes t
    (λ r h. same_two (λ ps qs. list_all (λ p. list_all (λ q. belong r (indexed r p) (indexed r q)) qs) ps) c.deref.result.now c.in_ok-ps.ps.items c.deref-2.result.now c.in_ok-qs.qs.items c.deref.ensures.value c.deref-2.ensures.value
    ∙ pairs_numbered c.args.run.now c.places_of.new.run c.places_of-2.new.run c.args.xs.now c.args.ys.now c.in_ok-ps.ps.items c.in_ok-qs.qs.items r (belong r) c.in_ok-ps.ensures.numbered c.in_ok-qs.ensures.numbered (c.in_ok-qs.ensures.goes.back r h) h))
