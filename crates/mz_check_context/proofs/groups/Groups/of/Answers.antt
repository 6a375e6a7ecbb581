use Rattle.std.proofs.Common.{ℕ, List, ◌∷◌, ◌++◌, ◌+◌, ◌≡◌, drop, sym, ap, ◌∙◌}
use Rattle.std.proofs.lemmas.List.{drop_more}
use Rattle.std.proofs.Math.ListN.{drop_of_length-le}
use Rattle.mz_check_meaning.specs.Models.{entries_of}
use Rattle.mz_check_context.specs.Tables.{numbers_found}
use Rattle.mz_check_context.proofs.Grouping.{one_grouped, all_grouped}
use Rattle.mz_check_context.proofs.groups.Groups.of.Goals as goal

pub loop-e-preserved : goal.loop-e-preserved
loop-e-preserved c = λ n.
    let es = c.args.entries.now in
    let i = c.loop-e.e-index in
    let e = c.e-item.result in
    let old = numbers_found c.loop-e.groups n in
    let next : drop i es ≡ e ∷ drop (i + 1) es = drop_more es i e c.loop-e-test.true ∙ ap (λ (x : ℕ × ℕ). x ∷ drop (i + 1) es) (sym c.e-item.is) in
    one_grouped n e (drop (i + 1) es) old (numbers_found c.add.new.self n) (entries_of n es) (ap (λ (xs : List (ℕ × ℕ)). old ++ entries_of n xs) (sym next) ∙ c.loop-e.invariant n) (c.in_ok-add.ensures n)

pub returns : goal.returns
returns c = λ n.
    let es = c.args.entries.now in
    let old = numbers_found c.loop-e.groups n in
    all_grouped n old (entries_of n es) (ap (λ (xs : List (ℕ × ℕ)). old ++ entries_of n xs) (sym (drop_of_length-le es c.loop-e-test.false)) ∙ c.loop-e.invariant n)
