use Rattle.std.proofs.Common.{refl, ◌≡◌, ◌-◌, ◌+◌, length, take, drop, ap, ◌∙◌, subst, arith}
use Rattle.mz_graph.specs.Graph.{IsIn}
use Rattle.mz_graph.specs.StepsSearch.{trail, AreNumbered}
use Rattle.mz_graph.proofs.Visits.{tail_slice}
use Rattle.mz_graph.proofs.Numbering.{code_settled, code_less, rest_is_below}
use Rattle.mz_graph.proofs.search.Search.settle.Goals as goal

pub number_all-requires : goal.number_all-requires
number_all-requires c = λ x a. rest_is_below c.args.self.now.visits.items c.args.self.now.path.items c.last_start-start.result c.requires.visits x (subst (λ z. IsIn x z) (tail_slice c.args.self.now.path.items c.deref.result.now c.last_start-start.result c.deref.ensures.value) a)

pub returns-clause-holds : goal.returns-clause-holds
returns-clause-holds c = λ g h.
    let counted : length c.push.new.self.items ≡ length c.args.self.now.leaders.items + 1 = omega (arith, c.in_ok-push.ensures.len) in
    let n : c.len.result ≡ length c.args.self.now.starts.items = omega (arith, c.len.ensures) in
    let m : c.len-2.result ≡ length c.args.self.now.floors.items = omega (arith, c.len-2.ensures) in
    let number : c.len-number.result ≡ length c.args.self.now.leaders.items = omega (arith, c.len-number.ensures) in
    code_settled g (trail c.args.self.now) (record { visits = c.number_all.new.visits.items; path = c.truncate.new.self.items; work = c.args.self.now.work.items; starts = c.truncate-2.new.self.items; floors = c.truncate-3.new.self.items; count = length c.push.new.self.items }) c.last_start-start.result h
    (subst (λ z. AreNumbered c.args.self.now.visits.items c.number_all.new.visits.items z (length c.args.self.now.leaders.items)) (tail_slice c.args.self.now.path.items c.deref.result.now c.last_start-start.result c.deref.ensures.value) (subst (λ z. AreNumbered c.args.self.now.visits.items c.number_all.new.visits.items (take (length c.deref.result.now - c.last_start-start.result) (drop c.last_start-start.result c.deref.result.now)) z) number c.number_all.ensures))
    c.last_start-start.ensures
    c.requires.some
    c.requires.idle
    c.truncate.ensures.items
    (c.truncate-2.ensures.items ∙ ap (λ z. take (z - 1) c.args.self.now.starts.items) n)
    (c.truncate-3.ensures.items ∙ ap (λ z. take (z - 1) c.args.self.now.floors.items) m)
    refl
    counted

pub returns-clause-left : goal.returns-clause-left
returns-clause-left c = λ g.
    let number : c.len-number.result ≡ length c.args.self.now.leaders.items = omega (arith, c.len-number.ensures) in
    code_less g (trail c.args.self.now) (record { visits = c.number_all.new.visits.items; path = c.truncate.new.self.items; work = c.args.self.now.work.items; starts = c.truncate-2.new.self.items; floors = c.truncate-3.new.self.items; count = length c.push.new.self.items }) c.last_start-start.result (take (length c.deref.result.now - c.last_start-start.result) (drop c.last_start-start.result c.deref.result.now))
    (subst (λ z. AreNumbered c.args.self.now.visits.items c.number_all.new.visits.items (take (length c.deref.result.now - c.last_start-start.result) (drop c.last_start-start.result c.deref.result.now)) z) number c.number_all.ensures)
    (omega (arith, c.requires.inside, c.last_start-start.ensures))
    c.truncate.ensures.items
    refl
