use Rattle.std.proofs.Common.{◌∙◌, rules, sym, w64}
use Rattle.std.proofs.lemmas.Int.{to_z-of_z}
use Rattle.glob_nodes.proofs.KnownLaws.{integers_known, told_read}
use Rattle.glob_nodes.proofs.known.integers_compared.Goals as goal

pub returns : goal.returns
returns c r h =
    let m = c.in-Some.m in
    let n = c.in-Some-integer_at.n in
    integers_known r c.args.op c.args.a c.args.b m n (c.in-Some.ensures r.term h) (c.in-Some-integer_at.ensures r.term h)
    ∙ told_read c.args.op m n _ _ (to_z-of_z w64 m (search rules)) (to_z-of_z w64 n (search rules))
    ∙ sym c.told_by.ensures
