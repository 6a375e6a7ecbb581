use Rattle.std.proofs.Common.{ap, ◌∙◌, subst, arith, ◌≡◌, ◌<◌, ◌++◌, ◌∷◌, [], length, set}
use Rattle.std.proofs.lemmas.Grind.{get_or_default_zero}
use Rattle.mz_graph.specs.Graph.{graph_of, heads, number_of}
use Rattle.mz_graph.specs.Members.{AreMembers}
use Rattle.mz_graph.proofs.Joining.{members_none, members_more}
use Rattle.mz_graph.proofs.layers.members_of.Goals as goal

pub loop-f-init : goal.loop-f-init
loop-f-init c = members_none c.args.of.now.items c.args.count (graph_of c.in_ok-members.members.items) c.in_ok-members.ensures

pub append_to-requires : goal.append_to-requires
append_to-requires c =
    let l : c.loop-f.f < length c.args.of.now.items = omega (arith, c.loop-f-test.true, c.len-f-end.ensures) in
    let r : c.index.result.now ≡ number_of c.args.of.now.items c.loop-f.f = c.index.ensures ∙ get_or_default_zero c.args.of.now.items c.loop-f.f c.index.result.now l in
    let b = c.requires c.loop-f.f l in
    omega (arith, r, b, c.loop-f.invariant.sized)

pub loop-f-preserved : goal.loop-f-preserved
loop-f-preserved c =
    let l : c.loop-f.f < length c.args.of.now.items = omega (arith, c.loop-f-test.true, c.len-f-end.ensures) in
    let r : c.index.result.now ≡ number_of c.args.of.now.items c.loop-f.f = c.index.ensures ∙ get_or_default_zero c.args.of.now.items c.loop-f.f c.index.result.now l in
    members_more c.args.of.now.items c.args.count c.loop-f.f (graph_of c.loop-f.members.items) (graph_of c.append_to.new.rows.items) c.loop-f.invariant (c.requires c.loop-f.f l)
    (c.in_ok-append_to.ensures ∙ ap (λ z. set (graph_of c.loop-f.members.items) z (heads (graph_of c.loop-f.members.items) z ++ c.loop-f.f ∷ [])) r)

pub returns : goal.returns
returns c =
    let e : c.loop-f.f ≡ length c.args.of.now.items = omega (arith, c.loop-f-test.false, c.len-f-end.ensures, c.loop-f.auto.f-end) in
    subst (λ z. AreMembers c.args.of.now.items c.args.count z (graph_of c.loop-f.members.items)) e c.loop-f.invariant
