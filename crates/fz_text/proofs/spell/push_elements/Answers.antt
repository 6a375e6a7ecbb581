use Rattle.std.proofs.Common.{◌∷◌, ◌++◌, ◌∙◌, [], ap, sym, subst, flat_map, take, get_or, pos}
use Rattle.std.proofs.lemmas.List.{drop_more}
use Rattle.mz_value.specs.Ranges.{AreCanonical}
use Rattle.fz_text.specs.Spelling.{numbers, elements}
use Rattle.fz_text.proofs.Appends.{joined}
use Rattle.fz_text.proofs.Commas.{numbers_more}
use Rattle.fz_text.proofs.spell.push_elements.Goals as goal

pub push_numbers-requires-in-loop-r : goal.push_numbers-requires-in-loop-r
push_numbers-requires-in-loop-r c =
    (subst AreCanonical (drop_more c.args.rest.now c.loop-r.r-index (pos 0, pos 0) c.loop-r-test.true) c.loop-r.invariant.1).0

pub loop-r-preserved : goal.loop-r-preserved
loop-r-preserved c =
    let old = c.args.out.now.items in
    let rest = c.args.rest.now in
    let i = c.loop-r.r-index in
    let r = get_or rest i (pos 0, pos 0) in
    let before = numbers (flat_map elements (c.args.first ∷ take i rest)) in
    let piece = joined c.loop-r.out.items (44 ∷ []) (numbers (elements r)) c.in-Ok-push_text.ensures c.in-Ok-push_numbers.ensures in
    let whole = joined old before (44 ∷ numbers (elements r)) c.loop-r.invariant.0 piece in
    let more = numbers_more c.args.first rest i (pos 0, pos 0) c.loop-r-test.true in
    (whole ∙ ap (λ t. old ++ t) (sym more), (subst AreCanonical (drop_more rest i (pos 0, pos 0) c.loop-r-test.true) c.loop-r.invariant.1).2)
