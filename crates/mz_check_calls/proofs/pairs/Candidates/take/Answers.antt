use Rattle.std.proofs.Common.{◌<◌, List, Some, length, arith, sym, ap, ◌∙◌}
use Rattle.std.specs.Prelude.{slice_get}
use Rattle.std.proofs.lemmas.List.{get_or_read}
use Rattle.std.proofs.lemmas.Option.{slice_get-get_or}
use Rattle.mz_check_meaning.specs.Calls.{Candidate}
use Rattle.mz_check_calls.proofs.Pairing.{paired_at}
use Rattle.mz_check_calls.proofs.pairs.Candidates.take.Goals as goal

pub returns-then-place-len : goal.returns-then-place-len
returns-then-place-len c =
    let cs = c.self.inside.callees.items in
    let ss = c.self.inside.signatures.items in
    let k = c.args.place in
    let callee = c.index-callee.result.now in
    let signature = c.swap_remove-signature.result in
    let below : k < length cs = omega (arith, c.if-place-len.true, c.len.ensures, c.self.inside.callees.ok.0) in
    let also : k < length ss = omega (arith, below, c.self.invariant) in
    sym (
    ap (λ (all : List Candidate). slice_get all k) (sym c.self.view_is)
    ∙ paired_at cs ss k callee signature
    (slice_get-get_or cs k callee below ∙ ap Some (sym (get_or_read cs k callee below c.index-callee.ensures callee)))
    (slice_get-get_or ss k signature also ∙ ap Some (sym c.swap_remove-signature.ensures.value))
    )
