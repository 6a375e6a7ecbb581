use Rattle.std.proofs.Common.{map}
use Rattle.fz_program.specs.Flat.{labels_of, row, variable}
use Rattle.fz_text.specs.Spelling.{row_line}
use Rattle.fz_text.proofs.Appends.{loop_joined, pieces_all}
use Rattle.fz_text.proofs.spell.push_rows.Goals as goal

pub loop-r-preserved : goal.loop-r-preserved
loop-r-preserved c =
    let names = labels_of (map variable c.args.vars.now) in
    loop_joined (λ r. row_line names (row r)) c.args.rows.now c.loop-r.r-index c.r-item.result c.args.out.now.items c.loop-r-test.true c.r-item.is c.loop-r.invariant c.in-Ok.ensures

pub returns : goal.returns
returns c =
    let names = labels_of (map variable c.args.vars.now) in
    pieces_all row (row_line names) c.args.rows.now c.loop-r.r-index c.args.out.now.items c.loop-r.out.items c.loop-r-test.false c.loop-r.invariant
