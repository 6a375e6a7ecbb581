use Rattle.std.proofs.Common.{◌≡◌, ◌<◌, ◌≤◌, ◌∙◌, ap, sym, ℕ, length, take, subst, arith}
use Rattle.fz_items.specs.Forms.{forms}
use Rattle.soln_reader.specs.Views.{block_of}
use Rattle.soln_reader.specs.Stream.{Outcome, line_len, line_limit, line_outcome, outcome, chopped}
use Rattle.soln_reader.specs.StepsLines.{SaysThere}
use Rattle.soln_reader.proofs.LineLemmas.{steps_from, over, long_line, long_outcome, ended_line, ended_outcome}
use Rattle.soln_reader.proofs.step.whole_line.Goals as goal

pub returns-then-n-gt-LINE_LIMIT : goal.returns-then-n-gt-LINE_LIMIT
returns-then-n-gt-LINE_LIMIT c = λ ended.
    let bytes = c.args.bytes.now in
    let long : line_limit < line_len bytes = omega (arith, c.requires.line, c.if-n-gt-LINE_LIMIT.true) in
    (long_line ended bytes long, long_outcome (forms c.args.shapes.now) (block_of c.args.block.now) bytes long, over bytes _ (omega (arith, c.requires.line, c.requires.newline)) (omega (arith, c.requires.line)))

pub returns : goal.returns
returns c = λ ended.
    let bytes = c.args.bytes.now in
    let fs = forms c.args.shapes.now in
    let old = block_of c.args.block.now in
    let new = block_of c.says-said.new.block in
    let below : line_len bytes < length bytes = omega (arith, c.requires.line, c.requires.newline) in
    let short : line_len bytes ≤ line_limit = omega (arith, c.requires.line, c.if-n-gt-LINE_LIMIT.false) in
    let same : outcome fs old c.chopped.result.now ≡ line_outcome fs old bytes =
    ap (outcome fs old) (c.chopped.ensures ∙ ap (λ (n : ℕ). chopped (take n bytes)) c.requires.line) ∙ sym (ended_outcome fs old bytes short below) in
    let P : Outcome → Type 0 = λ o. SaysThere old new c.says-said.result o in
    steps_from fs ended old new bytes _ c.step_of.result (ended_line ended bytes below) (over bytes _ below (omega (arith, c.requires.line)))
    (c.step_of.ensures old new (line_outcome fs old bytes) (subst P same c.says-said.ensures))
