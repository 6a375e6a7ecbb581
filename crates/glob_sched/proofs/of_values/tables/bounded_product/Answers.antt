use Rattle.std.proofs.Common.{◌≡◌, ◌^◌, pos, neg_ℤ, ◌*ℤ◌, ◌≤ℤ◌, sym, ap, subst, ◌∙◌, arith, rules, w64}
use Rattle.std.proofs.lemmas.Int.{ints, to_z-of_z}
use Rattle.std.specs.Int.{w128}
use mir.Val.{to_z, of_z}
use Rattle.glob_sched.proofs.Products.{product_low, product_high}
use Rattle.glob_sched.proofs.of_values.tables.bounded_product.Goals as goal

pub returns-clause-low : goal.returns-clause-low
returns-clause-low c =
    let value = c.product.ensures ∙ ap (λ n. n *ℤ to_z w64 (of_z w64 c.args.y)) (to_z-of_z w64 c.args.x (search rules)) ∙ ap (λ n. c.args.x *ℤ n) (to_z-of_z w64 c.args.y (search rules)) in
    subst (λ n. neg_ℤ (pos (2 ^ 126)) ≤ℤ n) (sym (to_z-of_z w128 c.product.result (search rules) ∙ value)) (product_low c.args.x c.args.y (omega (arith, ints)) (omega (arith, ints)) (omega (arith, ints)) (omega (arith, ints)))

pub returns-clause-high : goal.returns-clause-high
returns-clause-high c =
    let value = c.product.ensures ∙ ap (λ n. n *ℤ to_z w64 (of_z w64 c.args.y)) (to_z-of_z w64 c.args.x (search rules)) ∙ ap (λ n. c.args.x *ℤ n) (to_z-of_z w64 c.args.y (search rules)) in
    subst (λ n. n ≤ℤ pos (2 ^ 126)) (sym (to_z-of_z w128 c.product.result (search rules) ∙ value)) (product_high c.args.x c.args.y (omega (arith, ints)) (omega (arith, ints)) (omega (arith, ints)) (omega (arith, ints)))
