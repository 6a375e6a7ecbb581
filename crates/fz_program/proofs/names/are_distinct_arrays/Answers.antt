use Rattle.std.proofs.Common.{◌<◌, sym, subst, map, length, arith}
use Rattle.std.proofs.lemmas.List.{nil_from_length}
use Rattle.fz_program.specs.Flat.{AreDistinct, array_labels, array_item}
use Rattle.fz_program.proofs.TestAnswers.{says_true}
use Rattle.fz_program.proofs.names.are_distinct_arrays.Goals as goal

pub returns : goal.returns
returns c =
    let rest = c.loop-rest.rest.now in
    let below : length rest < 1 = c.in_default.len_below in
    let none = nil_from_length rest (omega arith) in
    says_true (c.loop-rest.invariant.to (subst (λ vs. AreDistinct (array_labels (map array_item vs))) (sym none) tt))
