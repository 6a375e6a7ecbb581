use Rattle.std.proofs.Common.{◌≡◌, suc, ◌-◌, drop, length, ap, sym, ◌∙◌, arith}
use Rattle.flat_root.specs.Parts.{turned}
use Rattle.flat_root.proofs.Parting.{turned_next, turned_end}
use Rattle.flat_root.proofs.parts.turned.Goals as goal

pub back-init : goal.back-init
back-init c = (c.new-stack.ensures.items ∙ sym (turned_end c.args.ids.now (length c.args.ids.now) (omega arith)), omega arith)

pub back-preserved : goal.back-preserved
back-preserved c =
    let here : c.back.k ≡ suc (c.back.k - 1) = omega (arith, c.back-test.true) in
    (turned_next c.args.ids.now (c.back.k - 1) c.back.stack.items c.push_part.new.parts.items (omega (arith, c.back-test.true, c.back.invariant.1)) (c.back.invariant.0 ∙ ap (λ m. turned (drop m c.args.ids.now)) here) c.in-Ok.ensures, omega (arith, c.back.invariant.1))

pub returns : goal.returns
returns c =
    let none : c.back.k ≡ 0 = omega (arith, c.back-test.false) in
    c.back.invariant.0 ∙ ap (λ m. turned (drop m c.args.ids.now)) none
