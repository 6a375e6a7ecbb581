use Rattle.std.proofs.Common.{refl, ◌≡◌, ◌<◌, [], ◌∷◌, ◌-◌, length, take, ap, sym, ◌∙◌, subst, arith}
use Rattle.mz_graph.specs.Graph.{graph_of, Path}
use Rattle.mz_graph.specs.StepsSearch.{trail, at, Holds}
use Rattle.mz_graph.proofs.Visits.{front, last_read}
use Rattle.mz_graph.proofs.Following.{in_hand, reach_head}
use Rattle.mz_graph.proofs.search.Search.step.Goals as goal

pub follow-requires-clause-counted : goal.follow-requires-clause-counted
follow-requires-clause-counted c =
    let n : c.len-length.result ≡ length c.args.self.now.work.items = omega (arith, c.len-length.ensures) in
    let some : 0 < c.len-length.result = omega (arith, c.if-length-index.true) in
    let e = c.index-y.ensures ∙ last_read c.args.self.now.work.items c.len-length.result _ _ n refl some in
    let edge = c.requires.holds.parts.tails (length c.args.self.now.work.items - 1) (omega (arith, c.len-length.ensures, some)) in
    subst (λ z. z < length (graph_of c.args.graph.now)) (sym e) (c.requires.graph _ _ edge.edge.listed)

pub follow-requires-clause-holds : goal.follow-requires-clause-holds
follow-requires-clause-holds c =
    let n : c.len-length.result ≡ length c.args.self.now.work.items = omega (arith, c.len-length.ensures) in
    let some : 0 < c.len-length.result = omega (arith, c.if-length-index.true) in
    let m : c.len-count.result ≡ length c.args.self.now.floors.items = omega (arith, c.len-count.ensures) in
    let any : 0 < c.len-count.result = omega (arith, c.if-count-eq0.false) in
    let e = c.index-y.ensures ∙ last_read c.args.self.now.work.items c.len-length.result _ _ n refl some in
    let short = front c.args.self.now.work.items c.truncate.new.self.items (c.truncate.ensures.items ∙ ap (λ z. take (z - 1) c.args.self.now.work.items) n) (omega (arith, c.len-length.ensures, some)) in
    let last : length c.args.self.now.work.items - 1 ≡ length c.truncate.new.self.items = omega (arith, short.one) in
    let floor = c.index.ensures ∙ last_read c.args.self.now.floors.items c.len-count.result _ _ m refl any in
    let pair : length c.args.self.now.floors.items - 1 ≡ length c.args.self.now.starts.items - 1 = omega (arith, c.requires.holds.parts.paired) in
    let top = floor ∙ ap (λ z. at c.args.self.now.floors.items z) pair in
    subst (λ z. Holds (graph_of c.args.graph.now) (z ∷ []) (record (trail c.args.self.now) { work = c.truncate.new.self.items })) (sym (e ∙ ap (λ z. at c.args.self.now.work.items z) last))
    (in_hand (graph_of c.args.graph.now) (trail c.args.self.now) c.truncate.new.self.items c.requires.holds short (omega (arith, any, c.len-count.ensures, c.requires.holds.parts.paired)) (omega (arith, top, c.if-length-index.true, c.len-length.ensures, short.one)))

pub follow-requires-clause-reach : goal.follow-requires-clause-reach
follow-requires-clause-reach c =
    let n : c.len-length.result ≡ length c.args.self.now.work.items = omega (arith, c.len-length.ensures) in
    let some : 0 < c.len-length.result = omega (arith, c.if-length-index.true) in
    let m : c.len-count.result ≡ length c.args.self.now.floors.items = omega (arith, c.len-count.ensures) in
    let any : 0 < c.len-count.result = omega (arith, c.if-count-eq0.false) in
    let e = c.index-y.ensures ∙ last_read c.args.self.now.work.items c.len-length.result _ _ n refl some in
    let floor = c.index.ensures ∙ last_read c.args.self.now.floors.items c.len-count.result _ _ m refl any in
    let pair : length c.args.self.now.floors.items - 1 ≡ length c.args.self.now.starts.items - 1 = omega (arith, c.requires.holds.parts.paired) in
    let top = floor ∙ ap (λ z. at c.args.self.now.floors.items z) pair in
    λ q h. subst (λ z. Path (graph_of c.args.graph.now) (at c.args.self.now.path.items q) z) (sym e)
    (reach_head (graph_of c.args.graph.now) (trail c.args.self.now) (length c.args.self.now.work.items - 1) c.requires.holds (omega (arith, any, c.len-count.ensures, c.requires.holds.parts.paired)) (omega (arith, c.len-length.ensures, some)) (omega (arith, top, c.if-length-index.true, c.len-length.ensures)) q h)
