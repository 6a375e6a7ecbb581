use Rattle.std.proofs.Common.{◌∙◌, Vec, Global, map, ap}
use Rattle.std.specs.Vec.Iter.{into_iter_items}
use Rattle.mz_core.specs.declared.tree.Core.{Core}
use Rattle.mz_core.specs.TreeViews.{tree}
use Rattle.mz_check_meaning.specs.Tests.{loop, one_more, each}
use Rattle.mz_check_meaning.specs.Coerced.{condition}
use Rattle.mz_check_forms.proofs.Passing.{stops, each_stops}
use Rattle.mz_check_forms.proofs.branches.conditions.Goals as goal

pub returns-in_err-condition : goal.returns-in_err-condition
returns-in_err-condition c =
    let rest = into_iter_items c.next.new.self in
    stops tree (λ (v : Vec Core Global). map tree v.items) c.from_residual.result c.in_err-condition.field-0.0
    (condition (tree c.in-Some.e)) (each condition (map tree c.args.es.items)) c.from_residual.ensures.1
    (λ f p. c.loop-e.invariant
    ∙ ap (λ es. loop (one_more condition) (map tree c.loop-e.all.items) (map tree es)) c.in-Some.ensures.steps.0
    ∙ each_stops condition (map tree c.loop-e.all.items) (tree c.in-Some.e) (map tree rest) f p)
    c.in_err-condition.ensures
