-- A model that is typed with its data is typed, and so are its data.
use Rattle.std.proofs.Common.{◌≡◌, ℕ, List, [], Ok, Err, refl}
use Rattle.mz_core.specs.Tree.{Tree}
use Rattle.mz_scope_order.specs.Scoped.{ScopedTree}
use Rattle.mz_check_meaning.specs.Tests.{Test, ◌>>=◌}
use Rattle.mz_check_meaning.specs.Models.{Model}
use Rattle.mz_check_meaning.specs.Duplicates.{duplicate_after}
use Rattle.mz_check_meaning.specs.Checks.{none_met, types_met, no_fault, signed, items_met, Sections, sections}
use Rattle.mz_check_data.specs.WithData.{given_values, with_values, checked_given}
use Rattle.mz_check_data.specs.Sections.{IsTypedWith}

passed : {A B : Type 0} (t : Test A) (go : A → Test B) (y : B) → (t >>= go) ≡ Ok y → (x : A) × (t ≡ Ok x) × (go x ≡ Ok y)
passed (Ok x) go y e = (x, refl, e)
passed (Err f) go y e = absurd (cc)

same_ok : (x y : Sections) (t : Test Sections) → t ≡ Ok x → t ≡ Ok y → y ≡ x
same_ok x y t e f = cc

pub parted : (s : ScopedTree) (m : Model) (all : Sections) → checked_given s m ≡ Ok all → IsTypedWith s m all
unfolding checked_given
parted s m all e =
    let last : List (ℕ × Tree) → Test Sections = λ vs. sections s m >>= λ a. Ok (with_values vs a) in
    let tested : List (ℕ × Tree) → Test Sections = λ vs. none_met (items_met s m) >>= λ u. last vs in
    let valued : Test Sections = given_values m s.given >>= tested in
    let unrepeated : Test Sections = no_fault (duplicate_after m.texts [] (signed s m)) >>= λ u. valued in
    let a = passed (none_met (types_met s m)) (λ u. unrepeated) all e in
    let b = passed (no_fault (duplicate_after m.texts [] (signed s m))) (λ u. valued) all a.2 in
    let c = passed (given_values m s.given) tested all b.2 in
    let d = passed (none_met (items_met s m)) (λ u. last c.0) all c.2 in
    let f = passed (sections s m) (λ a. Ok (with_values c.0 a)) all d.2 in
    let filled : Test Sections = Ok (with_values c.0 f.0) in
    record { values = c.0; before = f.0; given = c.1; typed = f.1; is = same_ok (with_values c.0 f.0) all filled (refl {a = filled}) f.2 }
