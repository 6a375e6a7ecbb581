-- Slots of a frame, the last first.
use Rattle.std.proofs.Common.{◌≡◌, ◌∙◌, ℕ, zero, suc, ◌+◌, ◌<◌, Bor, List, [], ◌∷◌, ◌++◌, length, map, take, get_or, set, slice_get, nat_eq, min, Bool, true, false, Option, Some, None, MatchOption, refl, sym, ap, subst, arith, if◌then◌else◌}
use Rattle.std.proofs.lemmas.Bool.{eqb-true}
use Rattle.std.proofs.lemmas.Bool.Decides.{nat_tests}
use Rattle.mz_eval_cells.specs.declared.types.Known.{Known}
use Rattle.mz_symbol.specs.Readings.{Reading}
use Rattle.mz_eval_cells.specs.Views.{cell_of, seen}
use Rattle.mz_meaning.specs.Cells.{Cell, Env, bind, bind_all, undefined}
use Rattle.mz_eval_scopes.specs.declared.types.World.{World}
use Rattle.mz_eval_scopes.specs.declared.types.Scope.{Scope}
use Rattle.mz_eval_scopes.specs.declared.types.Scope.TheViews.{Frame}
use Rattle.mz_eval_scopes.specs.Views.{env_by, known_by, known_if}

pub frame_env : (see : Known → Cell) (w : World) (slots : Bor (List ℕ)) (ks : Bor (List Known)) (rest : Bor Scope) → env_by see w (Frame slots ks rest) ≡ bind_all slots.now (map see ks.now) (env_by see w rest.now)
frame_env see w slots ks rest = refl

-- what isn't in a frame is what it is outside
pub absent_outside : (w : World) (scope : Scope) (slots : Bor (List ℕ)) (ks : Bor (List Known)) (rest : Bor Scope) (slot : ℕ) (found : Option (Bor Known)) → scope ≡ Frame slots ks rest
    → ((see : Known → Cell) (env : Env) → bind_all slots.now (map see ks.now) env slot ≡ env slot)
    → MatchOption found ((see : Known → Cell) → env_by see w rest.now slot ≡ undefined) (λ k. (see : Known → Cell) → env_by see w rest.now slot ≡ see k.now)
    → MatchOption found ((see : Known → Cell) → env_by see w scope slot ≡ undefined) (λ k. (see : Known → Cell) → env_by see w scope slot ≡ see k.now)
absent_outside w scope slots ks rest slot None e h g = λ see. rw (e) (h see (env_by see w rest.now) ∙ g see)
absent_outside w scope slots ks rest slot (Some k) e h g = λ see. rw (e) (h see (env_by see w rest.now) ∙ g see)

-- the names up to one: this one, else those before
pub up_to : (see : Known → Cell) (n : ℕ) (ss : List ℕ) (ks : List Known) (k : Known) (env : Env) (slot : ℕ) → n < length ss → n < length ks → bind_all (take (suc n) ss) (map see (take (suc n) ks)) env slot ≡ (if nat_eq slot (get_or ss n 0) then see (get_or ks n k) else bind_all (take n ss) (map see (take n ks)) env slot)
up_to see n [] ks k env slot h g = absurd (omega arith)
up_to see n (s ∷ ss) [] k env slot h g = absurd (omega arith)
up_to see zero (s ∷ ss) (c ∷ ks) k env slot h g = refl
up_to see (suc n) (s ∷ ss) (c ∷ ks) k env slot h g = up_to see n ss ks k (bind s (see c) env) slot (omega arith) (omega arith)

-- all names, up to as many as have cells
pub all_of_them : (see : Known → Cell) (m : ℕ) (ss : List ℕ) (ks : List Known) (env : Env) (slot : ℕ) → m ≡ min (length ss) (length ks) → bind_all ss (map see ks) env slot ≡ bind_all (take m ss) (map see (take m ks)) env slot
all_of_them see zero [] ks env slot h = refl
all_of_them see zero (s ∷ ss) [] env slot h = refl
all_of_them see zero (s ∷ ss) (k ∷ ks) env slot h = absurd (omega arith)
all_of_them see (suc m) [] ks env slot h = absurd (omega arith)
all_of_them see (suc m) (s ∷ ss) [] env slot h = absurd (omega arith)
all_of_them see (suc m) (s ∷ ss) (k ∷ ks) env slot h = all_of_them see m ss ks (bind s (see k) env) slot (omega arith)

-- one place more changes nothing
pushed_by : (see : Known → Cell) (ks : List Known) (u : Known) (k : ℕ) → see u ≡ undefined → known_by see (slice_get (ks ++ u ∷ []) k) ≡ known_by see (slice_get ks k)
pushed_by see [] u zero h = h
pushed_by see [] u (suc k) h = refl
pushed_by see (x ∷ ks) u zero h = refl
pushed_by see (x ∷ ks) u (suc k) h = pushed_by see ks u k h

pub pushed_undefined : (ks : List Known) (u : Known) (k : ℕ) → cell_of u ≡ undefined → known_if (slice_get (ks ++ u ∷ []) k) ≡ known_if (slice_get ks k)
pushed_undefined ks u k h = pushed_by cell_of ks u k h

pub pushed_seen : (ks : List Known) (u : Known) (r : Reading) (k : ℕ) → seen r u ≡ undefined → known_by (seen r) (slice_get (ks ++ u ∷ []) k) ≡ known_by (seen r) (slice_get ks k)
pushed_seen ks u r k h = pushed_by (seen r) ks u k h

put_same : (ks : List Known) (i : ℕ) (u : Known) → i < length ks → slice_get (set ks i u) i ≡ Some u
put_same [] i u h = absurd (omega arith)
put_same (x ∷ ks) zero u h = refl
put_same (x ∷ ks) (suc i) u h = put_same ks i u (omega arith)

put_other : (ks : List Known) (i k : ℕ) (u : Known) → (k ≡ i → ⊥) → slice_get (set ks i u) k ≡ slice_get ks k
put_other [] i k u h = refl
put_other (x ∷ ks) zero zero u h = absurd (h refl)
put_other (x ∷ ks) zero (suc k) u h = refl
put_other (x ∷ ks) (suc i) zero u h = refl
put_other (x ∷ ks) (suc i) (suc k) u h = put_other ks i k u (λ e. h (ap suc e))

-- what is put at a place is there, and all else is as it was
put_by : (see : Known → Cell) (ks : List Known) (i : ℕ) (u : Known) (k : ℕ) → i < length ks → known_by see (slice_get (set ks i u) k) ≡ (if nat_eq k i then see u else known_by see (slice_get ks k))
put_by see ks i u k h = by (nat_eq k i) refl
  where
    by : (t : Bool) → nat_eq k i ≡ t → known_by see (slice_get (set ks i u) k) ≡ (if t then see u else known_by see (slice_get ks k))
    by true p = ap (known_by see) (subst (λ j. slice_get (set ks i u) j ≡ Some u) (sym (eqb-true k i p)) (put_same ks i u h))
    by false p = ap (known_by see) (put_other ks i k u (λ e. let q : nat_eq k i ≡ true = grind (arith, nat_tests) in cc))

pub put_at : (ks : List Known) (i : ℕ) (u : Known) (k : ℕ) → i < length ks → known_if (slice_get (set ks i u) k) ≡ (if nat_eq k i then cell_of u else known_if (slice_get ks k))
put_at ks i u k h = put_by cell_of ks i u k h

pub put_seen : (ks : List Known) (i : ℕ) (u : Known) (r : Reading) (k : ℕ) → i < length ks → known_by (seen r) (slice_get (set ks i u) k) ≡ (if nat_eq k i then seen r u else known_by (seen r) (slice_get ks k))
put_seen ks i u r k h = put_by (seen r) ks i u k h
