-- Slots of a frame, which are searched from the last on.
use Rattle.std.proofs.Common.{◌≡◌, ◌∙◌, ℕ, suc, ◌+◌, ◌<◌, true, false, List, map, take, length, get_or, nat_eq, ap, arith, if◌then◌else◌}
use Rattle.std.proofs.lemmas.Bool.Decides.{nat_tests}
use Rattle.mz_eval_cells.specs.declared.types.Known.{Known}
use Rattle.mz_meaning.specs.Cells.{Cell, Env, bind_all}
use Rattle.mz_eval_scopes.proofs.Slots.{up_to}

-- another name than the one that is sought
pub next_name : (see : Known → Cell) (n m : ℕ) (ss : List ℕ) (ks : List Known) (k : Known) (env : Env) (slot : ℕ) → n ≡ m + 1 → m < length ss → m < length ks → (get_or ss m 0 ≡ slot → ⊥) → bind_all (take n ss) (map see (take n ks)) env slot ≡ bind_all (take m ss) (map see (take m ks)) env slot
next_name see n m ss ks k env slot e h g ne =
    let one_more : n ≡ suc m = omega (arith, e) in
    let other : nat_eq slot (get_or ss m 0) ≡ false = grind (arith, nat_tests) in
    ap (λ i. bind_all (take i ss) (map see (take i ks)) env slot) one_more
    ∙ up_to see m ss ks k env slot h g
    ∙ ap (λ t. if t then see (get_or ks m k) else bind_all (take m ss) (map see (take m ks)) env slot) other

-- the name that is sought
pub this_name : (see : Known → Cell) (n m : ℕ) (ss : List ℕ) (ks : List Known) (k : Known) (env : Env) (slot : ℕ) → n ≡ m + 1 → m < length ss → m < length ks → get_or ss m 0 ≡ slot → bind_all (take n ss) (map see (take n ks)) env slot ≡ see (get_or ks m k)
this_name see n m ss ks k env slot e h g is =
    let one_more : n ≡ suc m = omega (arith, e) in
    let same : nat_eq slot (get_or ss m 0) ≡ true = grind (arith, nat_tests) in
    ap (λ i. bind_all (take i ss) (map see (take i ks)) env slot) one_more
    ∙ up_to see m ss ks k env slot h g
    ∙ ap (λ t. if t then see (get_or ks m k) else bind_all (take m ss) (map see (take m ks)) env slot) same
