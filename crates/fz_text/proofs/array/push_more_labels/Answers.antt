use Rattle.std.proofs.Common.{◌∷◌, map, get_or}
use Rattle.fz_program.specs.Flat.{labels_of, variable}
use Rattle.fz_text.specs.Spelling.{label_at}
use Rattle.fz_text.proofs.Appends.{comma_joined, loop_joined_at, pieces_end}
use Rattle.fz_text.proofs.array.push_more_labels.Goals as goal

pub loop-k-preserved : goal.loop-k-preserved
loop-k-preserved c =
    let names = labels_of (map variable c.args.vars.now) in
    let piece = comma_joined c.loop-k.out.items (label_at names (get_or c.args.items.now c.loop-k.k-index 0)) c.in-Ok.ensures c.in-Ok-push_label.ensures in
    loop_joined_at (λ x. 44 ∷ label_at names x) c.args.items.now c.loop-k.k-index 0 c.args.out.now.items c.loop-k-test.true c.loop-k.invariant piece

pub returns : goal.returns
returns c =
    let names = labels_of (map variable c.args.vars.now) in
    pieces_end (λ x. 44 ∷ label_at names x) c.args.items.now c.loop-k.k-index c.args.out.now.items c.loop-k.out.items c.loop-k-test.false c.loop-k.invariant
