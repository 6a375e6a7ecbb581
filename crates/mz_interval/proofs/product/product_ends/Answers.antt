use Rattle.std.proofs.Common.{◌≡◌, ◌*ℤ◌, rules, w64, ◌∙◌}
use Rattle.std.specs.Int.{w128}
use Rattle.std.proofs.lemmas.Int.{to_z-of_z}
use Rattle.mz_interval.specs.Ends.{between, hull_of}
use Rattle.mz_interval.proofs.BitsRead.{read_back, product_read}
use Rattle.mz_interval.proofs.product.product_ends.Goals as goal

pub returns : goal.returns
returns c =
    let e = c.args.e.now in
    let f = c.args.f.now in
    let a : read_back w128 c.times.result ≡ e.0 *ℤ f.0 = to_z-of_z w128 c.times.result (search rules) ∙ product_read w64 e.0 f.0 c.times.result (search rules) (search rules) c.times.ensures in
    let b : read_back w128 c.times-2.result ≡ e.0 *ℤ f.1 = to_z-of_z w128 c.times-2.result (search rules) ∙ product_read w64 e.0 f.1 c.times-2.result (search rules) (search rules) c.times-2.ensures in
    let d : read_back w128 c.times-3.result ≡ e.1 *ℤ f.0 = to_z-of_z w128 c.times-3.result (search rules) ∙ product_read w64 e.1 f.0 c.times-3.result (search rules) (search rules) c.times-3.ensures in
    let g : read_back w128 c.times-4.result ≡ e.1 *ℤ f.1 = to_z-of_z w128 c.times-4.result (search rules) ∙ product_read w64 e.1 f.1 c.times-4.result (search rules) (search rules) c.times-4.ensures in
    let low : c.between-by_low.result ≡ between (e.0 *ℤ f.0) (e.0 *ℤ f.1) = c.between-by_low.ensures ∙ (λ t. between (a t) (b t)) in
    let high : c.between-by_high.result ≡ between (e.1 *ℤ f.0) (e.1 *ℤ f.1) = c.between-by_high.ensures ∙ (λ t. between (d t) (g t)) in
    c.hull.ensures ∙ (λ t. hull_of (low t) (high t))
