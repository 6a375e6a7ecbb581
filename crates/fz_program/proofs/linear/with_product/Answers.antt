use Rattle.std.proofs.Common.{◌≡◌, ℕ, ◌+◌, ◌-◌, ◌*◌, ◌≤◌, Some, None, refl, subst, arith}
use Rattle.std.specs.Prelude.{nat_le, if◌then◌else◌}
use Rattle.std.proofs.lemmas.Bool.{le-leb}
use Rattle.fz_program.specs.Flat.{most}
use Rattle.fz_program.proofs.linear.with_product.Goals as goal

-- a sum with a product more, within the limit
stays : (sum product times : ℕ) → product ≡ times → product ≤ most - sum → sum ≤ most → Some (sum + product) ≡ (if nat_le (sum + times) most then Some (sum + times) else None)
stays sum product times is below within = subst (λ t. Some (sum + product) ≡ (if nat_le (sum + t) most then Some (sum + t) else None)) is (rw (le-leb (sum + product) most (omega arith)) refl)

pub returns-then-product-sum : goal.returns-then-product-sum
returns-then-product-sum c = stays c.args.sum c.in_ok-product.product (c.args.m * c.args.n) c.in_ok-product.ensures.1 c.if-product-sum.true c.requires
