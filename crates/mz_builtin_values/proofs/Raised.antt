-- Powers of 0, 1 and -1, and products that have left the limit.
use Rattle.std.proofs.Common.{◌≡◌, ℕ, zero, suc, ◌+◌, ◌-◌, ◌/◌, ◌%◌, ◌<◌, ◌≤◌, ℤ, pos, negsuc, false, refl, sym, ap, ◌∙◌, arith}
use Rattle.mz_interval.specs.Ends.{is_number}
use Rattle.mz_operations.specs.declared.row.Fold.TheVariants.{Product}
use Rattle.mz_operations.specs.Numbers.{raised, folded}

raised_suc : (x : ℤ) (n : ℕ) → raised x (suc n) ≡ folded Product (raised x n) x
unfolding raised
raised_suc x n = refl

pub raised_none : (x : ℤ) → raised x 0 ≡ pos 1
unfolding raised
raised_none x = refl

one_by_one : folded Product (pos 1) (pos 1) ≡ pos 1
unfolding folded
one_by_one = refl

pub raised_one : (n : ℕ) → raised (pos 1) n ≡ pos 1
raised_one zero = raised_none (pos 1)
raised_one (suc n) = raised_suc (pos 1) n ∙ ap (λ a. folded Product a (pos 1)) (raised_one n) ∙ one_by_one

zero_by_zero : folded Product (pos 0) (pos 0) ≡ pos 0
unfolding folded
zero_by_zero = refl

one_by_zero : folded Product (pos 1) (pos 0) ≡ pos 0
unfolding folded
one_by_zero = refl

zeros : (n : ℕ) → raised (pos 0) (suc n) ≡ pos 0
zeros zero = raised_suc (pos 0) 0 ∙ ap (λ a. folded Product a (pos 0)) (raised_none (pos 0)) ∙ one_by_zero
zeros (suc n) = raised_suc (pos 0) (suc n) ∙ ap (λ a. folded Product a (pos 0)) (zeros n) ∙ zero_by_zero

pub none_of_zero : (n : ℕ) → n ≡ 0 → raised (pos 0) n ≡ pos 1
none_of_zero zero e = raised_none (pos 0)
none_of_zero (suc n) e = absurd (omega arith)

pub some_of_zero : (n : ℕ) → 0 < n → raised (pos 0) n ≡ pos 0
some_of_zero zero l = absurd (omega arith)
some_of_zero (suc n) l = zeros n

up : folded Product (pos 1) (negsuc 0) ≡ negsuc 0
unfolding folded
up = refl

down : folded Product (negsuc 0) (negsuc 0) ≡ pos 1
unfolding folded
down = refl

odd_after : (n : ℕ) → raised (negsuc 0) n ≡ pos 1 → raised (negsuc 0) (suc n) ≡ negsuc 0
odd_after n e = raised_suc (negsuc 0) n ∙ ap (λ a. folded Product a (negsuc 0)) e ∙ up

even_after : (n : ℕ) → raised (negsuc 0) n ≡ negsuc 0 → raised (negsuc 0) (suc n) ≡ pos 1
even_after n e = raised_suc (negsuc 0) n ∙ ap (λ a. folded Product a (negsuc 0)) e ∙ down

twice : (k : ℕ) → raised (negsuc 0) (k + k) ≡ pos 1
twice zero = raised_none (negsuc 0)
twice (suc k) =
    let same : suc k + suc k ≡ suc (suc (k + k)) = omega arith in
    ap (raised (negsuc 0)) same ∙ even_after (suc (k + k)) (odd_after (k + k) (twice k))

pub even_of_minus_one : (n : ℕ) → n % 2 ≡ 0 → raised (negsuc 0) n ≡ pos 1
even_of_minus_one n e =
    let same : n ≡ n / 2 + n / 2 = omega arith in
    ap (raised (negsuc 0)) same ∙ twice (n / 2)

pub odd_of_minus_one : (n : ℕ) → n % 2 ≡ 1 → raised (negsuc 0) n ≡ negsuc 0
odd_of_minus_one n e =
    let same : n ≡ suc (n / 2 + n / 2) = omega arith in
    ap (raised (negsuc 0)) same ∙ odd_after (n / 2 + n / 2) (twice (n / 2))

-- a product that has left the limit stays
stays : (acc x : ℤ) → is_number acc ≡ false → folded Product acc x ≡ acc
unfolding folded
stays acc x e = rw e refl

stuck_by : (x : ℤ) (n : ℕ) → is_number (raised x n) ≡ false → (k : ℕ) → raised x (k + n) ≡ raised x n
stuck_by x n e zero = let same : 0 + n ≡ n = omega arith in ap (raised x) same
stuck_by x n e (suc k) =
    let on = stuck_by x n e k in
    let same : suc k + n ≡ suc (k + n) = omega arith in
    ap (raised x) same ∙ raised_suc x (k + n) ∙ ap (λ a. folded Product a x) on ∙ stays (raised x n) x e

stuck : (x acc : ℤ) (n m : ℕ) → acc ≡ raised x n → is_number acc ≡ false → n ≤ m → acc ≡ raised x m
stuck x acc n m a e l =
    let out : is_number (raised x n) ≡ false = ap is_number (sym a) ∙ e in
    let same : m ≡ (m - n) + n = omega arith in
    a ∙ sym (ap (raised x) same ∙ stuck_by x n out (m - n))

pub one_factor_more : (x acc : ℤ) (n : ℕ) → acc ≡ raised x n → folded Product acc x ≡ raised x (n + 1)
one_factor_more x acc n a =
    let same : n + 1 ≡ suc n = omega arith in
    ap (λ b. folded Product b x) a ∙ sym (ap (raised x) same ∙ raised_suc x n)

pub stuck_at : (x y acc r : ℤ) (n m : ℕ) → acc ≡ raised y n → is_number acc ≡ false → n ≤ m → y ≡ x → r ≡ acc → r ≡ raised x m
stuck_at x y acc r n m a e l s q = q ∙ stuck y acc n m a e l ∙ ap (λ z. raised z m) s

pub factor_made : (x acc next mid : ℤ) (n : ℕ) → mid ≡ folded Product acc x → acc ≡ raised x n → next ≡ mid → next ≡ raised x (n + 1)
factor_made x acc next mid n m a s = s ∙ m ∙ one_factor_more x acc n a
