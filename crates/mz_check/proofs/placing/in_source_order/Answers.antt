use Rattle.std.proofs.Common.{rules, ℕ}
use Rattle.std.proofs.lemmas.List.Sorted.{answers_always}
use Rattle.mz_core.specs.declared.tree.CoreDecl.{CoreDecl}
use Rattle.mz_core.specs.TreeViews.{decl}
use Rattle.mz_check.proofs.Placed.{rises, in_order}
use Rattle.mz_check.proofs.placing.in_source_order.Goals as goal

pub returns-clause-sorted : goal.returns-clause-sorted
returns-clause-sorted c =
    let key : CoreDecl → ℕ × ℕ × ℕ = λ d. ((decl d).span.file, (decl d).span.byte, (decl d).slot) in
    in_order _ (rises decl _ (c.sort_unstable_by_key.ensures.sorted key (answers_always _ _ _ (λ f a r g h. search rules))))
