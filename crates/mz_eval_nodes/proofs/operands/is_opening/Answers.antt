use Rattle.std.proofs.Common.{[], ◌∷◌, subst, sym}
use Rattle.mz_core.specs.Paths.{path_links}
use Rattle.mz_core.specs.Types.{plain_type}
use Rattle.mz_eval_nodes.specs.Numbers.{IsOpened}
use Rattle.mz_eval_nodes.proofs.NumberLaws.{opened_by}
use Rattle.mz_eval_nodes.proofs.operands.is_opening.Goals as goal

pub returns-in-ToVar : goal.returns-in-ToVar
returns-in-ToVar c t k n h =
    let link = c.args.link.now in
    subst (λ ls. IsOpened (path_links ls) k n) (sym c.requires)
    (subst (λ x. IsOpened ((x, plain_type link.1) ∷ []) k n) (sym c.in-ToVar.is) (opened_by (plain_type link.1) k n h))
