-- A walk that is made step by step.
use Rattle.std.proofs.Common.{◌≡◌, ℕ, zero, suc, ◌+◌, ◌-◌, ◌<◌, ◌≤◌, ℤ, List, [], ◌∷◌, ◌++◌, length, Bool, false, ◌&&◌, refl, sym, ap, ◌∙◌, arith}
use Rattle.std.specs.Prelude.{Option, Some, None}
use Rattle.std.specs.Ordering.{int_eq}
use Rattle.mz_operations.specs.Views.{◌>>=◌}
use Rattle.mz_globals.specs.Order.{all_different}
use Rattle.mz_globals.specs.Reading.{Placed}
use Rattle.mz_globals.specs.Graphs.{element_at, walk, is_round, is_circuit}

-- the indices that are left already, before those of the rest of a walk
abbrev pub after : List ℤ → Option (List ℤ × ℤ) → Option (List ℤ × ℤ)
after path None = None
after path (Some w) = Some (path ++ w.0, w.1)

append_none : {A : Type 0} (xs : List A) → (xs ++ []) ≡ xs
append_none [] = refl
append_none (x ∷ xs) = ap (λ ys. x ∷ ys) (append_none xs)

append_one : {A : Type 0} (xs : List A) (a : A) (ys : List A) → (xs ++ a ∷ ys) ≡ ((xs ++ a ∷ []) ++ ys)
append_one [] a ys = refl
append_one (x ∷ xs) a ys = ap (λ zs. x ∷ zs) (append_one xs a ys)

one_step : (path : List ℤ) (i : ℤ) (o : Option (List ℤ × ℤ)) → after path (o >>= λ w. Some (i ∷ w.0, w.1)) ≡ after (path ++ i ∷ []) o
one_step path i None = refl
one_step path i (Some w) = ap (λ ys. Some (ys, w.1)) (append_one path i w.0)

stepped : (x : Placed ℤ) (n : ℕ) (i j : ℤ) → element_at x i ≡ Some j → walk x (suc n) i ≡ (walk x n j >>= λ w. Some (i ∷ w.0, w.1))
stepped x n i j e = rw e refl

stuck : (x : Placed ℤ) (n : ℕ) (i : ℤ) → element_at x i ≡ None → walk x (suc n) i ≡ None
stuck x n i e = rw e refl

pub goes_on : (x : Placed ℤ) (path : List ℤ) (n k : ℕ) (i j : ℤ) (whole : Option (List ℤ × ℤ)) → k < n → element_at x i ≡ Some j → after path (walk x (n - k) i) ≡ whole → after (path ++ i ∷ []) (walk x (n - (k + 1)) j) ≡ whole
goes_on x path n k i j whole l e w =
    let one : n - k ≡ suc (n - (k + 1)) = omega (arith, l) in
    sym (one_step path i (walk x (n - (k + 1)) j)) ∙ sym (ap (λ m. after path (walk x m i)) one ∙ ap (after path) (stepped x (n - (k + 1)) i j e)) ∙ w

leads_outside : (x : Placed ℤ) (path : List ℤ) (n k : ℕ) (i : ℤ) (whole : Option (List ℤ × ℤ)) → k < n → element_at x i ≡ None → after path (walk x (n - k) i) ≡ whole → whole ≡ None
leads_outside x path n k i whole l e w =
    let one : n - k ≡ suc (n - (k + 1)) = omega (arith, l) in
    sym w ∙ ap (λ m. after path (walk x m i)) one ∙ ap (after path) (stuck x (n - (k + 1)) i e)

at_end : (x : Placed ℤ) (path : List ℤ) (n k : ℕ) (i : ℤ) (whole : Option (List ℤ × ℤ)) → n ≤ k → after path (walk x (n - k) i) ≡ whole → whole ≡ Some (path, i)
at_end x path n k i whole l w =
    let none : n - k ≡ 0 = omega (arith, l) in
    sym w ∙ ap (λ m. after path (walk x m i)) none ∙ ap (λ ys. Some (ys, i)) (append_none path)

-- the walk breaks off
pub no_round : (x : Placed ℤ) (path : List ℤ) (k : ℕ) (i : ℤ) → k < length x.items → element_at x i ≡ None → after path (walk x (length x.items - k) i) ≡ walk x (length x.items) x.indices.0 → false ≡ is_circuit x
no_round x path k i l e w = sym (ap (is_round x.indices.0) (leads_outside x path (length x.items) k i _ l e w))

-- the walk ends
pub whole_round : (x : Placed ℤ) (path : List ℤ) (k : ℕ) (i : ℤ) → length x.items ≤ k → after path (walk x (length x.items - k) i) ≡ walk x (length x.items) x.indices.0 → (all_different path && int_eq i x.indices.0) ≡ is_circuit x
whole_round x path k i l w = sym (ap (is_round x.indices.0) (at_end x path (length x.items) k i _ l w))
