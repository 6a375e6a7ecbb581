-- A product lies between the products of the ends.
use Rattle.std.proofs.Common.{ℕ, suc, ◌+◌, ◌≤◌, ℤ, pos, negsuc, ◌*ℤ◌, ◌≤ℤ◌, arith}
use Rattle.std.proofs.Math.Nat.{mul-le-mul_right}
use Rattle.std.proofs.Math.IntN.{*ℤ_comm}
use Rattle.std.proofs.lemmas.Int.{ints}
use borrow.Author.Differences.{up, down}
use Rattle.mz_interval.specs.Ends.{Ends, Encloses, between}
use Rattle.mz_interval.specs.Rows.{product_of}
use Rattle.mz_interval.proofs.Hulls.{hull_of-left, hull_of-right, between-first, between-second, between-rising, between-falling, Encloses-between}

rising : (a b : ℤ) (n : ℕ) → a ≤ℤ b → (a *ℤ pos n) ≤ℤ (b *ℤ pos n)
rising a b n h =
    let less : up a + down b ≤ up b + down a = omega (arith, ints) in
    omega (arith, ints, mul-le-mul_right n less)

falling : (a b : ℤ) (n : ℕ) → a ≤ℤ b → (b *ℤ negsuc n) ≤ℤ (a *ℤ negsuc n)
falling a b n h =
    let less : up a + down b ≤ up b + down a = omega (arith, ints) in
    omega (arith, ints, mul-le-mul_right (suc n) less)

-- one factor varies
pub between-mul : (a b x c : ℤ) → a ≤ℤ x → x ≤ℤ b → Encloses (between (a *ℤ c) (b *ℤ c)) (x *ℤ c)
between-mul a b x (pos n) p q = between-rising _ _ _ (rising a x n p) (rising x b n q)
between-mul a b x (negsuc n) p q = between-falling _ _ _ (falling x b n q) (falling a x n p)

-- the other one does
pub between-mul_left : (c d y x : ℤ) → c ≤ℤ y → y ≤ℤ d → Encloses (between (x *ℤ c) (x *ℤ d)) (x *ℤ y)
between-mul_left c d y x p q = rw (*ℤ_comm x c, *ℤ_comm x d, *ℤ_comm x y) (between-mul c d y x p q)

pub product_of-encloses : (e f : Ends) (x y : ℤ) → Encloses e x → Encloses f y → Encloses (product_of e f) (x *ℤ y)
product_of-encloses e f x y p q =
    let low = between (e.0 *ℤ f.0) (e.0 *ℤ f.1) in
    let high = between (e.1 *ℤ f.0) (e.1 *ℤ f.1) in
    let first = Encloses-between (product_of e f) (e.0 *ℤ f.0) (e.1 *ℤ f.0) (x *ℤ f.0) (hull_of-left low high _ (between-first (e.0 *ℤ f.0) (e.0 *ℤ f.1))) (hull_of-right low high _ (between-first (e.1 *ℤ f.0) (e.1 *ℤ f.1))) (between-mul e.0 e.1 x f.0 p.from p.to) in
    let second = Encloses-between (product_of e f) (e.0 *ℤ f.1) (e.1 *ℤ f.1) (x *ℤ f.1) (hull_of-left low high _ (between-second (e.0 *ℤ f.0) (e.0 *ℤ f.1))) (hull_of-right low high _ (between-second (e.1 *ℤ f.0) (e.1 *ℤ f.1))) (between-mul e.0 e.1 x f.1 p.from p.to) in
    Encloses-between (product_of e f) (x *ℤ f.0) (x *ℤ f.1) (x *ℤ y) first second (between-mul_left f.0 f.1 y x q.from q.to)
