use Rattle.std.proofs.Common.{◌≡◌, ◌∙◌, sym, ap, map}
use Rattle.std.proofs.lemmas.List.{map-id}
use Rattle.std.proofs.lemmas.Iterator.Adapters.{YieldsList-from_vec}
use Rattle.std.proofs.lemmas.Iterator.Consumers.{YieldsList-end}
use Rattle.mz_meaning.specs.Cells.{value_of}
use Rattle.mz_eval_cells.specs.Views.{cells_of}
use Rattle.mz_eval_row_cells.proofs.row_of.all_given.Goals as goal

pub returns : goal.returns
returns c =
    let seen = YieldsList-end (YieldsList-from_vec c.args.cells.items c.into_iter-k-iterator.ensures.into_iter_gives.0 (c.into_iter-k-iterator.ensures.into_iter_gives.1 ∙ c.args.cells.ok.0)) c.loop-k.yielded c.loop-k.k-iterator c.loop-k.yielded_by c.next.result c.next.new.self c.in-None.is c.next.ensures.steps in
    let all : c.loop-k.yielded ≡ c.args.cells.items = sym (map-id c.loop-k.yielded) ∙ seen.0 in
    c.loop-k.invariant ∙ ap (λ ks. map value_of (cells_of ks)) all
