use Rattle.std.proofs.Common.{◌≡◌, rules, arith, get_or}
use Rattle.std.specs.Prelude.{pos, ◌≤ℤ◌, ◌<ℤ◌}
use Rattle.std.proofs.lemmas.Int.{ints}
use mir.Val.{SFits, to_z, of_z}
use mir.Syntax.{w64}
use Rattle.mz_value.proofs.Search.{cut_parts, front_canonical, behind_canonical, front_found, behind_found, here_found}
use Rattle.mz_value.proofs.walks.+has.Goals as goal

pub has-requires : goal.has-requires
has-requires t c =
    let whole = cut_parts c.args.ranges.now _ _ _ c.split_at.ensures.front c.split_at.ensures.back in
    (search rules, front_canonical c.args.ranges.now _ _ whole c.requires)

pub has-requires-then-r-x : goal.has-requires-then-r-x
has-requires-then-r-x t c =
    let whole = cut_parts c.args.ranges.now _ _ _ c.split_at.ensures.front c.split_at.ensures.back in
    (search rules, behind_canonical c.args.ranges.now _ c.split_at.result.1.now whole c.requires)

pub returns-then-x-r : goal.returns-then-x-r
returns-then-x-r t c =
    let whole = cut_parts c.args.ranges.now _ _ _ c.split_at.ensures.front c.split_at.ensures.back in
    let f : SFits w64 (get_or c.split_at.result.1.now 0 (pos 0, pos 0)).0 = search rules in
    let l : c.args.x <ℤ (get_or c.split_at.result.1.now 0 (pos 0, pos 0)).0 = omega (arith, ints) in
    let same : to_z w64 (of_z w64 c.args.x) ≡ c.args.x = omega (arith, ints) in
    let found = front_found c.args.ranges.now c.split_at.result.0.now c.split_at.result.1.now (pos 0, pos 0) c.args.x whole c.requires c.in-len1-up.len_at_least l in
    let rest = rw same at c.has.ensures in
    (λ t. found.0 (rest.0 t), λ h. rest.1 (found.1 h))

pub returns-then-r-x : goal.returns-then-r-x
returns-then-r-x t c =
    let whole = cut_parts c.args.ranges.now _ _ _ c.split_at.ensures.front c.split_at.ensures.back in
    let f : SFits w64 (get_or c.split_at.result.1.now 0 (pos 0, pos 0)).1 = search rules in
    let l : (get_or c.split_at.result.1.now 0 (pos 0, pos 0)).1 <ℤ c.args.x = omega (arith, ints) in
    let same : to_z w64 (of_z w64 c.args.x) ≡ c.args.x = omega (arith, ints) in
    let found = behind_found c.args.ranges.now c.split_at.result.0.now c.split_at.result.1.now (pos 0, pos 0) c.args.x whole c.requires c.in-len1-up.len_at_least l in
    let rest = rw same at c.has-then-r-x.ensures in
    (λ t. found.0 (rest.0 t), λ h. rest.1 (found.1 h))

pub returns-else-r-x : goal.returns-else-r-x
returns-else-r-x t c =
    let whole = cut_parts c.args.ranges.now _ _ _ c.split_at.ensures.front c.split_at.ensures.back in
    let f : SFits w64 (get_or c.split_at.result.1.now 0 (pos 0, pos 0)).0 = search rules in
    let g : SFits w64 (get_or c.split_at.result.1.now 0 (pos 0, pos 0)).1 = search rules in
    let low : (get_or c.split_at.result.1.now 0 (pos 0, pos 0)).0 ≤ℤ c.args.x = omega (arith, ints) in
    let high : c.args.x ≤ℤ (get_or c.split_at.result.1.now 0 (pos 0, pos 0)).1 = omega (arith, ints) in
    let found = here_found c.args.ranges.now c.split_at.result.0.now c.split_at.result.1.now (pos 0, pos 0) c.args.x whole c.in-len1-up.len_at_least low high in
    (λ _. found, search rules)
