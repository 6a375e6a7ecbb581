-- Tests that ask sets with the same names find the same.
use Rattle.std.proofs.Common.{◌≡◌, ℕ, Bool, List, [], ◌∷◌, refl, ap, ◌∙◌, not, Some}
use Rattle.std.specs.Prelude.{◌&&◌, if◌then◌else◌}
use Rattle.mz_scope_names.specs.declared.occurrence.Occurrence.{Occurrence}
use Rattle.mz_scope_names.specs.declared.occurrence.Role.{Role}
use Rattle.mz_scope_names.specs.declared.occurrence.Role.TheVariants.{Declared, Overloaded, Valued, Used, Local, Lacking, Wanting, Caseless, Listed, Misfit}
use Rattle.mz_scope_names.specs.Sets.{holds}
use Rattle.mz_scope.specs.Tests.{first, unknown_as, is_unknown, missing_as, is_missing}

pub same_first : (f g : Occurrence → Bool) → ((o : Occurrence) → f o ≡ g o) → (os : List Occurrence) → first f os ≡ first g os
unfolding first
same_first f g e [] = refl
same_first f g e (o ∷ os) = ap (λ z. if z then Some o.span else first f os) (e o) ∙ ap (λ z. if g o then Some o.span else z) (same_first f g e os)

unknown_same : (a b d e : List ℕ) → ((n : ℕ) → holds n a ≡ holds n b) → ((n : ℕ) → holds n d ≡ holds n e) → (r : Role) (known : ℕ → Bool) (n : ℕ) → unknown_as r known a d n ≡ unknown_as r known b e n
unknown_same a b d e p q Used known n = ap (λ z. not z && not (known n)) (p n)
unknown_same a b d e p q Valued known n = ap (λ z. not z) (q n)
unknown_same a b d e p q Declared known n = refl
unknown_same a b d e p q Overloaded known n = refl
unknown_same a b d e p q Local known n = refl
unknown_same a b d e p q Lacking known n = refl
unknown_same a b d e p q Wanting known n = refl
unknown_same a b d e p q Caseless known n = refl
unknown_same a b d e p q Listed known n = refl
unknown_same a b d e p q Misfit known n = refl

pub same_unknown : (known : ℕ → Bool) (a b d e : List ℕ) (os : List Occurrence) → ((n : ℕ) → holds n a ≡ holds n b) → ((n : ℕ) → holds n d ≡ holds n e) → first (is_unknown known a d) os ≡ first (is_unknown known b e) os
same_unknown known a b d e os p q = same_first (is_unknown known a d) (is_unknown known b e) (λ o. unknown_same a b d e p q o.role known o.name) os

missing_same : (a b d e : List ℕ) → ((n : ℕ) → holds n a ≡ holds n b) → ((n : ℕ) → holds n d ≡ holds n e) → (r : Role) (n : ℕ) → missing_as r a d n ≡ missing_as r b e n
missing_same a b d e p q Wanting n = ap (λ z. not z) (p n)
missing_same a b d e p q Caseless n = ap (λ z. not z) (q n)
missing_same a b d e p q Lacking n = refl
missing_same a b d e p q Used n = refl
missing_same a b d e p q Valued n = refl
missing_same a b d e p q Declared n = refl
missing_same a b d e p q Overloaded n = refl
missing_same a b d e p q Local n = refl
missing_same a b d e p q Listed n = refl
missing_same a b d e p q Misfit n = refl

pub same_missing : (a b d e : List ℕ) (os : List Occurrence) → ((n : ℕ) → holds n a ≡ holds n b) → ((n : ℕ) → holds n d ≡ holds n e) → first (is_missing a d) os ≡ first (is_missing b e) os
same_missing a b d e os p q = same_first (is_missing a d) (is_missing b e) (λ o. missing_same a b d e p q o.role o.name) os
