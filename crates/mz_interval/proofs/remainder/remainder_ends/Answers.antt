use Rattle.std.proofs.Common.{rules, w64, ◌∙◌}
use Rattle.std.specs.Int.{w128}
use Rattle.std.specs.Prelude.{pos, ◌-◌}
use Rattle.std.proofs.lemmas.Int.{to_z-of_z}
use Rattle.mz_interval.specs.Rows.{remainder_from, remainder_to}
use Rattle.mz_interval.proofs.Remainders.{remainder_is}
use Rattle.mz_interval.proofs.remainder.remainder_ends.Goals as goal

pub returns : goal.returns
returns c =
    let lo = to_z-of_z w64 c.args.e.now.0 (search rules) in
    let hi = to_z-of_z w64 c.args.e.now.1 (search rules) in
    let m = c.magnitude-m.result in
    remainder_is c.args.e.now c.args.f.now m _ _ c.magnitude-m.ensures.value c.if-m-eq0.false
    (to_z-of_z w128 c.remainder_from.result (search rules) ∙ c.remainder_from.ensures ∙ (λ t. remainder_from (lo t) (pos (m - 1))))
    (to_z-of_z w128 c.remainder_to.result (search rules) ∙ c.remainder_to.ensures ∙ (λ t. remainder_to (hi t) (pos (m - 1))))
