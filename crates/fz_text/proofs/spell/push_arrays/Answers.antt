use Rattle.std.proofs.Common.{map}
use Rattle.fz_program.specs.Flat.{array_item, variable}
use Rattle.fz_text.specs.Spelling.{array_line}
use Rattle.fz_text.proofs.Appends.{loop_joined, pieces_all}
use Rattle.fz_text.proofs.spell.push_arrays.Goals as goal

pub loop-a-preserved : goal.loop-a-preserved
loop-a-preserved c =
    let vs = map variable c.args.vars.now in
    loop_joined (λ r. array_line vs (array_item r)) c.args.arrays.now c.loop-a.a-index c.a-item.result c.args.out.now.items c.loop-a-test.true c.a-item.is c.loop-a.invariant c.in-Ok.ensures

pub returns : goal.returns
returns c =
    let vs = map variable c.args.vars.now in
    pieces_all array_item (array_line vs) c.args.arrays.now c.loop-a.a-index c.args.out.now.items c.loop-a.out.items c.loop-a-test.false c.loop-a.invariant
