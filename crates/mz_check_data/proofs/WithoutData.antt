-- A model without data is typed with data as it is without.
use Rattle.std.proofs.Common.{◌≡◌, ◌∙◌, ℕ, List, [], Ok, Err, refl, ap}
use Rattle.mz_core.specs.Tree.{Tree, Decl}
use Rattle.mz_scope_order.specs.Scoped.{ScopedTree}
use Rattle.mz_scope_order.specs.Subjects.{Subject}
use Rattle.mz_check_meaning.specs.Tests.{Test, ◌>>=◌, ◌>>◌}
use Rattle.mz_check_meaning.specs.Models.{Model}
use Rattle.mz_check_meaning.specs.Headings.{with_types}
use Rattle.mz_check_meaning.specs.Duplicates.{duplicate_after}
use Rattle.mz_check_meaning.specs.Checks.{untyped, none_met, types_met, no_fault, signed, items_met, Sections, sections, checked_with, checked}
use Rattle.mz_check_data.specs.WithData.{given_values, with_values, checked_given, checked_with_data}
use Rattle.mz_check_data.proofs.Slots.{all_stay}

sections_stay : (all : Sections) → with_values [] all ≡ all
unfolding with_values
sections_stay all = ap (λ (ds : List Decl). record all { decls = ds }) (all_stay all.decls)

typed_stays : (t : Test Sections) → (t >>= λ all. Ok (with_values [] all)) ≡ t
typed_stays (Ok all) = ap (λ (x : Sections). Ok x) (sections_stay all)
typed_stays (Err f) = refl

none_given : (m : Model) → given_values m [] ≡ Ok []
unfolding given_values
none_given m = refl

model_stays : (s : ScopedTree) (m : Model) → s.given ≡ [] → checked_given s m ≡ checked_with s m
unfolding checked_given checked_with
model_stays s m e =
    let rest : List (ℕ × Tree) → Test Sections = λ vs. none_met (items_met s m) >> (sections s m >>= λ all. Ok (with_values vs all)) in
    let unrepeated : Test Sections → Test Sections = λ t. none_met (types_met s m) >> (no_fault (duplicate_after m.texts [] (signed s m)) >> t) in
    ap unrepeated (ap (λ gs. given_values m gs >>= rest) e ∙ (ap (λ t. t >>= rest) (none_given m) ∙ ap (λ t. none_met (items_met s m) >> t) (typed_stays (sections s m))))

pub nothing_changes : (texts : List (List ℕ)) (s : ScopedTree) (order : List Subject) → s.given ≡ [] → checked_with_data texts s order ≡ checked texts s order
unfolding checked_with_data checked
nothing_changes texts s order e = model_stays s (with_types s (untyped texts s) order) e
