use Rattle.std.proofs.Common.{refl, sym, ap, ◌∙◌, arith, rules, ◌≡◌, ◌+◌, ◌++◌, length}
use Rattle.mz_graph.specs.Graph.{graph_of}
use Rattle.mz_graph.proofs.Tables.{as_many}
use Rattle.mz_graph.proofs.Joining.{layered, rows_same, members_same, past_all, rows_of_both}
use Rattle.mz_graph.proofs.layers.layers_of.Goals as goal

pub rows_of-requires-clause-mentioned : goal.rows_of-requires-clause-mentioned
rows_of-requires-clause-mentioned c = λ x e a.
    let b = c.requires.uses.mentioned.below x e a in
    omega (arith, b, as_many c.args.decl_mentions.now)

pub rows_of-requires-2-clause-mentioned : goal.rows_of-requires-2-clause-mentioned
rows_of-requires-2-clause-mentioned c = λ x e a.
    let b = c.requires.uses.mentioned_by_decls.below x e a in
    omega (arith, b, as_many c.args.decl_mentions.now)

pub returns : goal.returns
returns c =
    let first : length c.args.calls.now ≡ length (graph_of c.args.calls.now) = sym (as_many c.args.calls.now) in
    let base : length c.args.calls.now + c.args.parts.now.count ≡ length (graph_of c.args.calls.now) + c.args.parts.now.count = ap (λ z. z + c.args.parts.now.count) first in
    layered (graph_of c.args.calls.now) (graph_of c.args.mentions.now) (graph_of c.args.decl_calls.now) (graph_of c.args.decl_mentions.now) c.args.parts.now.of.items c.in_ok-none.none.items c.args.parts.now.count (length (graph_of c.args.decl_mentions.now))
    (graph_of c.in_ok-all.all.items) (graph_of c.in_ok-members.members.items) (graph_of c.in_ok-decls.decls.items) (graph_of c.append-2.new.self.items)
    c.requires.parts c.requires.uses.called_by_decls
    (rows_same (graph_of c.args.calls.now) (graph_of c.args.mentions.now) c.args.parts.now.of.items c.args.parts.now.of.items _ _ _ _ _ _ (graph_of c.in_ok-all.all.items) c.in_ok-all.ensures first base refl)
    (members_same c.args.parts.now.of.items _ _ _ _ (graph_of c.in_ok-members.members.items) c.in_ok-members.ensures refl c.requires.parts.sized)
    (rows_same (graph_of c.args.decl_calls.now) (graph_of c.args.decl_mentions.now) c.args.parts.now.of.items c.in_ok-none.none.items _ _ _ _ _ _ (graph_of c.in_ok-decls.decls.items) c.in_ok-decls.ensures first base c.requires.uses.decls)
    (past_all c.args.parts.now.count (length (graph_of c.args.decl_mentions.now)) c.args.parts.now.count (length c.args.decl_calls.now) c.in_ok-none.none.items (search rules) refl (omega (arith, as_many c.args.decl_calls.now, c.requires.uses.decls)))
    (ap (λ z. graph_of z) (c.in_ok-append-2.ensures.items ∙ ap (λ z. z ++ c.in_ok-decls.decls.items) c.in_ok-append.ensures.items) ∙ rows_of_both (c.in_ok-all.all.items ++ c.in_ok-members.members.items) c.in_ok-decls.decls.items ∙ ap (λ z. z ++ graph_of c.in_ok-decls.decls.items) (rows_of_both c.in_ok-all.all.items c.in_ok-members.members.items))
