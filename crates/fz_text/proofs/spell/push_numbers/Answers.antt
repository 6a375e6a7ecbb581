use Rattle.std.proofs.Common.{rules, ◌≡◌, ◌++◌, ◌∷◌, ◌∙◌, ap, [], ◌+ℤ◌, ◌≤ℤ◌, ◌<ℤ◌, to_z, of_z, w64, pos, SFits, arith}
use Rattle.std.proofs.lemmas.Int.{ints, to_z-of_z}
use Rattle.std.specs.Fmt.{signed_decimal}
use Rattle.fz_text.proofs.Appends.{joined}
use Rattle.fz_text.proofs.Commas.{number_more, numbers_all}
use Rattle.fz_text.proofs.spell.push_numbers.Goals as goal

pub loop-n-preserved : goal.loop-n-preserved
loop-n-preserved c =
    let n = to_z w64 c.loop-n.n-bits in
    let m = to_z w64 (of_z w64 (n +ℤ pos 1)) in
    let hi = c.args.range.1 in
    let fits : SFits w64 hi = search rules in
    let below : n <ℤ hi = grind (arith, ints) in
    let next : m ≡ n +ℤ pos 1 = omega (arith, ints) in
    let both = joined c.loop-n.out.items (44 ∷ []) (signed_decimal m) c.in-Ok-push_text.ensures c.in-Ok-push_number.ensures in
    record {
      below = omega (arith, ints);
      rest = number_more n m hi c.loop-n.out.items c.push_number-in-loop-n.new.out.items _ below next both c.loop-n.invariant.rest;
    }

pub returns : goal.returns
returns c =
    let n = to_z w64 c.loop-n.n-bits in
    let range = c.args.range in
    let fits_lo : SFits w64 range.0 = search rules in
    let fits_hi : SFits w64 range.1 = search rules in
    let high : range.1 ≤ℤ n = grind (arith, ints) in
    let first = c.in-Ok.ensures ∙ ap (λ z. c.args.out.now.items ++ signed_decimal z) (to_z-of_z w64 range.0 fits_lo) in
    numbers_all n range c.args.out.now.items c.push_number.new.out.items c.loop-n.out.items c.loop-n.invariant.below high first c.loop-n.invariant.rest
