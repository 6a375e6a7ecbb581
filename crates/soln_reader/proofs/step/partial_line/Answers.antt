use Rattle.std.proofs.Common.{◌≡◌, ◌<◌, ◌≤◌, ◌∙◌, sym, subst, arith, refl}
use Rattle.fz_items.specs.Forms.{forms}
use Rattle.soln_reader.specs.Views.{block_of}
use Rattle.soln_reader.specs.Stream.{Outcome, line_len, line_limit, line_outcome, outcome}
use Rattle.soln_reader.specs.StepsLines.{SaysThere}
use Rattle.soln_reader.proofs.LineLemmas.{steps_from, over_all, long_line, long_outcome, last_when, last_outcome, no_line, some_bytes}
use Rattle.soln_reader.proofs.step.partial_line.Goals as goal

pub returns-then-n-gt-LINE_LIMIT : goal.returns-then-n-gt-LINE_LIMIT
returns-then-n-gt-LINE_LIMIT c =
    let bytes = c.args.bytes.now in
    let long : line_limit < line_len bytes = omega (arith, c.requires.line, c.if-n-gt-LINE_LIMIT.true) in
    (long_line c.args.ended bytes long, long_outcome (forms c.args.shapes.now) (block_of c.args.block.now) bytes long, over_all bytes _ (omega (arith, c.requires.line)) (omega (arith, long)) c.requires.line)

pub returns-then-is_last : goal.returns-then-is_last
returns-then-is_last c =
    let bytes = c.args.bytes.now in
    let fs = forms c.args.shapes.now in
    let old = block_of c.args.block.now in
    let new = block_of c.says-said.new.block in
    let short : line_len bytes ≤ line_limit = omega (arith, c.requires.line, c.if-n-gt-LINE_LIMIT.false) in
    let same : outcome fs old bytes ≡ line_outcome fs old bytes = sym (last_outcome fs old bytes short (omega (arith, c.requires.line))) in
    let P : Outcome → Type 0 = λ o. SaysThere old new c.says-said.result o in
    let last = sym c.is_last.ensures ∙ c.if-is_last.true in
    steps_from fs c.args.ended old new bytes _ c.step_of.result (last_when c.args.ended bytes last) (over_all bytes _ (omega (arith, c.requires.line)) (some_bytes c.args.ended bytes last) c.requires.line)
    (c.step_of.ensures old new (line_outcome fs old bytes) (subst P same c.says-said.ensures))

pub returns : goal.returns
returns c =
    let bytes = c.args.bytes.now in
    let short : line_len bytes ≤ line_limit = omega (arith, c.requires.line, c.if-n-gt-LINE_LIMIT.false) in
    (no_line c.args.ended bytes short (omega (arith, c.requires.line)) (sym c.is_last.ensures ∙ c.if-is_last.false), refl)
