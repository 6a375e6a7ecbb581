use Rattle.std.proofs.Common.{◌∷◌, map}
use Rattle.fz_program.specs.Flat.{labels_of, variable}
use Rattle.fz_program.specs.Arguments.{plain}
use Rattle.fz_text.specs.Spelling.{plain_text}
use Rattle.fz_text.proofs.Appends.{comma_joined, loop_joined, pieces_end}
use Rattle.fz_text.proofs.spell.push_more_plains.Goals as goal

pub loop-a-preserved : goal.loop-a-preserved
loop-a-preserved c =
    let names = labels_of (map variable c.args.vars.now) in
    let piece = comma_joined c.loop-a.out.items (plain_text names (plain c.a-item.result)) c.in-Ok.ensures c.in-Ok-push_plain.ensures in
    loop_joined (λ x. 44 ∷ plain_text names (plain x)) c.args.items.now c.loop-a.a-index c.a-item.result c.args.out.now.items c.loop-a-test.true c.a-item.is c.loop-a.invariant piece

pub returns : goal.returns
returns c =
    let names = labels_of (map variable c.args.vars.now) in
    pieces_end (λ x. 44 ∷ plain_text names (plain x)) c.args.items.now c.loop-a.a-index c.args.out.now.items c.loop-a.out.items c.loop-a-test.false c.loop-a.invariant
