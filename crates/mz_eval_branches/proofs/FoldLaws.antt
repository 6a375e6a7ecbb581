-- What a fold over the branches costs.
use Rattle.std.proofs.Common.{◌≡◌, ℕ, suc, ◌+◌, ◌*◌, ◌≤◌, List, ◌∷◌, length, sym, ap, subst, arith}
use Rattle.mz_symbol.specs.Runs.{Run}
use Rattle.mz_symbol.specs.Makes.{GoesOnBy}
use Rattle.mz_symbol_rows.proofs.GoingOn.{goes_both, goes_most}
use Rattle.mz_eval_cells.specs.declared.types.Known.{Known}
use Rattle.mz_eval_branches.specs.BranchLines.{branch_charge, fold_charge}
use Rattle.mz_eval_branches.proofs.LineLaws.{goes_counted}

pub goes_line : (n c : ℕ) (old mid new : Run) → c ≡ n → GoesOnBy 8 old mid → GoesOnBy (20 * c) mid new → GoesOnBy (branch_charge n) old new
goes_line n c old mid new e f g = goes_most (8 + 20 * n) (branch_charge n) old new (omega arith) (goes_both 8 (20 * n) old mid new f (goes_counted c n mid new e g))

pub goes_one : (n c : ℕ) (old mid next new : Run) → c ≡ n → GoesOnBy 8 old mid → GoesOnBy (20 * c) mid next → GoesOnBy (88 * n + 16) next new → GoesOnBy (branch_charge n) old new
goes_one n c old mid next new e f g h =
    goes_most (8 + (20 * n + (88 * n + 16))) (branch_charge n) old new (omega arith) (goes_both 8 (20 * n + (88 * n + 16)) old mid new f (goes_both (20 * n) (88 * n + 16) mid next new (goes_counted c n mid next e g) h))

pub fold_last : (n c k : ℕ) (old new : Run) → c ≡ n → GoesOnBy (20 * c) old new → GoesOnBy (fold_charge n k) old new
fold_last n c k old new e f = goes_most (20 * n) (fold_charge n k) old new (by (k * branch_charge n) (20 * n)) (goes_counted c n old new e f)
  where
    by : (w d : ℕ) → d ≤ w + d
    by w d = omega arith

next_turn : (k c : ℕ) → suc k * c ≡ k * c + c
next_turn k c = grind arith

fold_step : (k c d : ℕ) → k * c + d + c ≤ suc k * c + d
fold_step k c d = subst (λ x. k * c + d + c ≤ x + d) (sym (next_turn k c)) (by (k * c))
  where
    by : (w : ℕ) → w + d + c ≤ w + c + d
    by w = omega arith

fold_grows : (k c d : ℕ) → k * c + d ≤ suc k * c + d
fold_grows k c d = subst (λ x. k * c + d ≤ x + d) (sym (next_turn k c)) (by (k * c))
  where
    by : (w : ℕ) → w + d ≤ w + c + d
    by w = omega arith

pub fold_rest : (n : ℕ) (p : Known × Known) (ps qs : List (Known × Known)) (old new : Run) → qs ≡ p ∷ ps → GoesOnBy (fold_charge n (length ps)) old new → GoesOnBy (fold_charge n (length qs)) old new
fold_rest n p ps qs old new e f =
    subst (λ k. GoesOnBy (fold_charge n k) old new) (sym (ap length e)) (goes_most (fold_charge n (length ps)) (fold_charge n (suc (length ps))) old new (fold_grows (length ps) (branch_charge n) (20 * n)) f)

pub fold_more : (n : ℕ) (p : Known × Known) (ps qs : List (Known × Known)) (old mid new : Run) → qs ≡ p ∷ ps → GoesOnBy (fold_charge n (length ps)) old mid → GoesOnBy (branch_charge n) mid new → GoesOnBy (fold_charge n (length qs)) old new
fold_more n p ps qs old mid new e f g =
    subst (λ k. GoesOnBy (fold_charge n k) old new) (sym (ap length e)) (goes_most (fold_charge n (length ps) + branch_charge n) (fold_charge n (suc (length ps))) old new (fold_step (length ps) (branch_charge n) (20 * n)) (goes_both (fold_charge n (length ps)) (branch_charge n) old mid new f g))
