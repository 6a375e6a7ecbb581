-- Declarations whose names differ have texts that differ, by a table in which each text stands once.
use Rattle.std.proofs.Common.{◌≡◌, ◌∙◌, ℕ, zero, suc, ◌<◌, Bool, true, false, ◌||◌, List, [], ◌∷◌, length, map, get_or, refl, sym, arith}
use Rattle.std.specs.Prelude.{All, nat_eq}
use Rattle.std.specs.List.{Contains}
use Rattle.std.proofs.lemmas.Bool.{eq-eqb}
use Rattle.mz_base.specs.Names as names
use Rattle.mz_base.specs.Names.{text_of}
use Rattle.mz_core.specs.Tree.{Decl}
use Rattle.mz_scope_names.specs.Sets.{holds}
use Rattle.mz_scope_order.specs.Scoped as scoped
use Rattle.fz_program.specs.Names.{Name}
use Rattle.fz_program.specs.Flat as flat
use Rattle.mz_analysis.specs.Analysis.{names_of}

held_at : (n : ℕ) (ns : List ℕ) (k : ℕ) → k < length ns → get_or ns k 0 ≡ n → holds n ns ≡ true
held_at n [] k below at = absurd (omega (arith, below))
held_at n (m ∷ ns) zero below at = rw (at, eq-eqb n n refl) refl
held_at n (m ∷ ns) (suc k) below at = go (nat_eq n m) (held_at n ns k (omega (arith, below)) at)
  where
    go : (b : Bool) → holds n ns ≡ true → (b || holds n ns) ≡ true
    go true h = refl
    go false h = h

text_at : (table : List Name) (ds : List Decl) (k : ℕ) (x : Name) → k < length (map (λ d. text_of table d.name) ds) → (k < length (names_of ds)) × (get_or (map (λ d. text_of table d.name) ds) k x ≡ text_of table (get_or (names_of ds) k 0))
text_at table [] k x below = absurd (omega (arith, below))
text_at table (d ∷ ds) zero x below = (omega arith, refl)
text_at table (d ∷ ds) (suc k) x below = let r = text_at table ds k x (omega (arith, below)) in (omega (arith, r.0), r.1)

pub texts_differ : (table : List Name) → names.AreDistinct table → (ds : List Decl) → All (λ n. n < length table) (names_of ds) → scoped.AreDistinct (names_of ds) → flat.AreDistinct (map (λ d. text_of table d.name) ds)
texts_differ table apart [] known once = tt
texts_differ table apart (d ∷ ds) known once = (λ h. twice h, texts_differ table apart ds (λ k n low. known (suc k) n (omega (arith, low))) once.1)
  where
    twice : Contains (map (λ d. text_of table d.name) ds) (text_of table d.name) → ⊥
    twice (k, below, at) =
        let r = text_at table ds k (text_of table d.name) below in
        let same : get_or (names_of ds) k 0 ≡ d.name = apart (get_or (names_of ds) k 0) d.name (known (suc k) 0 (omega (arith, r.0))) (known 0 0 (omega arith)) (sym r.1 ∙ at) in
        let here = held_at d.name (names_of ds) k r.0 same in
        let away = once.0 in cc
