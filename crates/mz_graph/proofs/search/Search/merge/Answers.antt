use Rattle.std.proofs.Common.{◌≡◌, ◌<◌, ℕ, ◌-◌, length, take, ap, sym, ◌∙◌, subst, arith}
use Rattle.mz_graph.specs.Graph.{Path}
use Rattle.mz_graph.specs.StepsSearch.{trail, visit_of, at}
use Rattle.mz_graph.proofs.Following.{code_merged, code_begins, to_last}
use Rattle.mz_graph.proofs.search.Search.merge.Goals as goal

pub loop-self-preserved : goal.loop-self-preserved
loop-self-preserved c =
    let i = c.loop-self.invariant in
    let n : c.len.result ≡ length c.loop-self.self.starts.items = omega (arith, c.len.ensures) in
    let m : c.len-in-loop-self.result ≡ length c.loop-self.self.floors.items = omega (arith, c.len-in-loop-self.ensures) in
    let starts : c.truncate.new.self.items ≡ take (length c.loop-self.self.starts.items - 1) c.loop-self.self.starts.items = c.truncate.ensures.items ∙ ap (λ z. take (z - 1) c.loop-self.self.starts.items) n in
    let floors : c.truncate-in-loop-self.new.self.items ≡ take (length c.loop-self.self.floors.items - 1) c.loop-self.self.floors.items = c.truncate-in-loop-self.ensures.items ∙ ap (λ z. take (z - 1) c.loop-self.self.floors.items) m in
    let above : c.args.p < at c.loop-self.self.starts.items (length c.loop-self.self.starts.items - 1) = omega (arith, c.loop-self-test.true, c.last_start.ensures) in
    record {
      begins = code_begins c.loop-self.self.starts.items c.truncate.new.self.items c.args.p i.begins starts above;
      paired = omega (arith, i.paired, c.truncate.ensures.len, c.truncate-in-loop-self.ensures.len, c.len.ensures, c.len-in-loop-self.ensures);
      path = record { visits = i.path.visits; path = i.path.path; work = i.path.work };
      holds = λ g y k e r. code_merged g (trail c.loop-self.self) c.truncate.new.self.items c.truncate-in-loop-self.new.self.items y c.args.p (i.holds g y k e r) (ap (λ z. visit_of z y) i.path.visits ∙ e) (subst (λ z. (q : ℕ) → q < length z → Path g (at z q) y) (sym i.path.path) r) i.begins.some above starts floors;
    }

pub returns-clause-holds : goal.returns-clause-holds
returns-clause-holds c = λ g y k e r.
    let i = c.loop-self.invariant in
    to_last g (trail c.loop-self.self) y c.args.p (i.holds g y k e r) (ap (λ z. visit_of z y) i.path.visits ∙ e) i.begins.some (omega (arith, c.loop-self-test.false, c.last_start.ensures))
