use Rattle.std.proofs.Common.{◌∙◌, ◌||◌, sym, ap}
use Rattle.mz_core.specs.Tree.{root_coercions}
use Rattle.mz_core.specs.TreeViews.{tree}
use Rattle.mz_meaning.specs.Contexts.{links_close}
use Rattle.mz_eval_nodes.proofs.ContextLaws.{round_is}
use Rattle.mz_eval_nodes.proofs.contexts.+round_closes.Goals as goal

pub returns-in-Coerce : goal.returns-in-Coerce
returns-in-Coerce t c =
    let part = c.deref.result.now in
    c.either.ensures
    ∙ ap (λ b. b || c.link_closes.result) c.round_closes-inside.ensures
    ∙ ap (λ b. links_close (root_coercions (tree part)) || b) c.link_closes.ensures
    ∙ sym (round_is c.args.e.now part _ _ c.in-Coerce.is c.deref.ensures)
