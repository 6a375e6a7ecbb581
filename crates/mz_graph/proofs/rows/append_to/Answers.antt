use Rattle.std.proofs.Common.{◌<◌, ◌∷◌, ◌++◌, [], length, ap, sym, ◌∙◌}
use Rattle.mz_graph.proofs.Tables.{written, row_read, as_many, below_as}
use Rattle.mz_graph.proofs.rows.append_to.Goals as goal

pub returns : goal.returns
returns c =
    let h : c.args.at < length c.args.rows.now.items = below_as c.requires (sym (as_many c.args.rows.now.items)) in
    written c.args.rows.now.items c.args.at c.push.new.self _ (c.in_ok-push.ensures.items ∙ ap (λ z. z ++ c.args.x ∷ []) (sym (row_read c.args.rows.now.items c.args.at c.index_mut-row.result.now h c.index_mut-row.ensures.value)))
