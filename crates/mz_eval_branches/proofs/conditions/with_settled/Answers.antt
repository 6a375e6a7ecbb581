use Rattle.std.proofs.Common.{◌∙◌, ◌∷◌, ◌++◌, [], map, ap}
use Rattle.std.proofs.lemmas.List.{map_push}
use Rattle.mz_meaning.specs.Cells.{Cell}
use Rattle.std.specs.Prelude.{Bool}
use Rattle.mz_eval_branches.specs.StepsConditions.{tested}
use Rattle.mz_eval_branches.proofs.Settling.{same_test}
use Rattle.mz_eval_branches.proofs.conditions.with_settled.Goals as goal

pub returns : goal.returns
returns c r =
    ap (map (tested r)) c.in_ok-push.ensures.items
    ∙ map_push (tested r) c.args.made.items (c.in_ok-condition.condition, c.in_ok-branch.branch)
    ∙ ap (λ (q : Bool × Cell). map (tested r) c.args.made.items ++ q ∷ []) (same_test r c.args.p.now c.in_ok-condition.condition c.in_ok-branch.branch (c.in_ok-condition.ensures r) (c.in_ok-branch.ensures.seen r))
