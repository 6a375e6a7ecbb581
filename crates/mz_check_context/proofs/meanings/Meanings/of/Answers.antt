use Rattle.std.proofs.Common.{ℕ, List, ◌∷◌, ◌++◌, ◌+◌, ◌≡◌, map, drop, sym, subst, ap, ◌∙◌}
use Rattle.std.proofs.lemmas.List.{drop_more}
use Rattle.mz_check_meaning.specs.declared.meaning.Meaning.{Meaning}
use Rattle.mz_scope_order.specs.Scoped.{AreDistinct}
use Rattle.mz_check_context.proofs.Entries.{next_is_new}
use Rattle.mz_check_context.proofs.meanings.Meanings.of.Goals as goal

pub add-requires : goal.add-requires
add-requires c =
    let es = c.args.entries.now in
    let i = c.loop-e.e-index in
    let e = c.e-item.result in
    let next : drop i es ≡ e ∷ drop (i + 1) es = drop_more es i e c.loop-e-test.true ∙ ap (λ (x : ℕ × Meaning). x ∷ drop (i + 1) es) (sym c.e-item.is) in
    next_is_new c.loop-e.meanings e (drop (i + 1) es)
    (subst (λ (xs : List (ℕ × Meaning)). AreDistinct (map (λ x. x.0) xs)) (sym c.loop-e.invariant ∙ ap (λ (xs : List (ℕ × Meaning)). c.loop-e.meanings ++ xs) next) c.requires)
