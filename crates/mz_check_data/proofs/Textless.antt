-- No text literal stands in what data is typed to.
use Rattle.std.proofs.Common.{◌≡◌, ℕ, List, [], ◌∷◌, Ok, refl, subst}
use Rattle.std.specs.Prelude.{All}
use Rattle.mz_core.specs.Tree.{Tree}
use Rattle.mz_core.specs.Nodes.{nodes_in}
use Rattle.mz_tree.specs.Data.{Given}
use Rattle.mz_check_meaning.specs.Tests.{Test}
use Rattle.mz_check_meaning.specs.Models.{Model}
use Rattle.mz_check_meaning.specs.Texts.{texts_in}
use Rattle.mz_check_meaning.proofs.Giving.{AllBy, all_indexed, Gives}
use Rattle.mz_check_meaning.proofs.Rules.{Rules}
use Rattle.mz_check_data.proofs.Texted.{texts, among}
use Rattle.mz_check_data.specs.WithData.{given_values}
use Rattle.mz_check_data.proofs.Data.{IsKeptGiven, values_kept}

-- no text is allowed
abbrev textless : Rules
textless = texts (λ n. ⊥)

none_in : (ns : List ℕ) → AllBy (λ n. ⊥) ns → ns ≡ []
none_in [] h = refl
none_in (n ∷ ns) h = absurd h.0

all_none : (vs : List (ℕ × Tree)) → AllBy (IsKeptGiven textless) vs → AllBy (λ v. texts_in v.1 ≡ []) vs
all_none [] h = tt
all_none (v ∷ vs) h = (none_in (texts_in v.1) (among (λ n. ⊥) (nodes_in v.1) h.0), all_none vs h.1)

pub none_texted : (m : Model) (gs : List Given) (vs : List (ℕ × Tree)) → given_values m gs ≡ Ok vs → All (λ v. texts_in v.1 ≡ []) vs
none_texted m gs vs e =
    let all = subst (λ (t : Test (List (ℕ × Tree))). Gives t (AllBy (IsKeptGiven textless))) e (values_kept textless m gs) in
    all_indexed (λ v. texts_in v.1 ≡ []) vs (all_none vs all)
