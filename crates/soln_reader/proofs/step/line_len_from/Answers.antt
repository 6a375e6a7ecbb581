use Rattle.std.proofs.Common.{◌+◌, ◌∙◌, ap, ℕ, List, length, arith}
use Rattle.std.proofs.lemmas.List.{length-drop}
use Rattle.fz_items.specs.Bytes.{is_no_newline}
use Rattle.soln_reader.specs.Stream.{line_len}
use Rattle.soln_reader.proofs.LineLemmas.{prefix_from, rest_slice}
use Rattle.soln_reader.proofs.step.line_len_from.Goals as goal

pub returns-clause-value : goal.returns-clause-value
returns-clause-value c =
    ap (λ (n : ℕ). c.args.seen + n) (c.line_len.ensures.value ∙ ap line_len (rest_slice c.args.bytes.now c.args.seen)) ∙ prefix_from is_no_newline c.args.bytes.now c.args.seen c.requires.seen

pub returns-clause-within : goal.returns-clause-within
returns-clause-within c =
    let cut = ap (λ (bs : List ℕ). length bs) (rest_slice c.args.bytes.now c.args.seen) in
    omega (arith, c.requires.room, c.line_len.ensures.within, cut, length-drop c.args.seen c.args.bytes.now)
