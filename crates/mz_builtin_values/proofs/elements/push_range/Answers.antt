use Rattle.std.proofs.Common.{◌≡◌, arith}
use Rattle.std.specs.Prelude.{ℤ, pos, ◌+ℤ◌, ◌<ℤ◌}
use Rattle.std.proofs.lemmas.Int.{ints}
use mir.Val.{to_z, of_z}
use mir.Syntax.{w64}
use Rattle.mz_operations.specs.Arrays.{element_of}
use Rattle.mz_builtin_values.proofs.Numbered.{first_one, one_more, all_made}
use Rattle.mz_builtin_values.proofs.elements.push_range.Goals as goal

pub loop-n-init : goal.loop-n-init
loop-n-init c =
    let same : to_z w64 (of_z w64 c.args.r.0) ≡ c.args.r.0 = omega (arith, ints) in
    (omega (arith, ints), rw same (first_one (element_of c.args.of) c.args.r _ _ (rw same at c.in_ok-push_element.ensures)))

pub loop-n-preserved : goal.loop-n-preserved
loop-n-preserved c =
    let n : ℤ = to_z w64 c.loop-n.n-bits in
    let m : ℤ = to_z w64 (of_z w64 (n +ℤ pos 1)) in
    let next : m ≡ n +ℤ pos 1 = omega (arith, ints) in
    let below : n <ℤ c.args.r.1 = omega (arith, ints) in
    (omega (arith, ints), one_more (element_of c.args.of) n m c.args.r.1 _ _ _ below next c.in_ok-push_element-2.ensures c.loop-n.invariant.1)

pub returns : goal.returns
returns c = all_made (element_of c.args.of) (to_z w64 c.loop-n.n-bits) c.args.r.1 _ _ c.loop-n.invariant.0 (omega (arith, ints)) c.loop-n.invariant.1
