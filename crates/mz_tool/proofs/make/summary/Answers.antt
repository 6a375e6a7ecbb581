use Rattle.std.proofs.Common.{◌∙◌, ◌++◌, length, ap, codes, sym}
use Rattle.std.proofs.lemmas.List.{length-map}
use Rattle.fz_program.specs.Flat.{program, variable, row}
use Rattle.mz_tool.specs.Making.{summary_line}
use Rattle.mz_tool.proofs.Summaries.{four_joined}
use Rattle.mz_tool.proofs.make.summary.Goals as goal

pub returns : goal.returns
returns c =
    let vars = c.len.ensures ∙ c.args.flat.now.vars.ok.0 ∙ sym (length-map c.args.flat.now.vars.items variable) in
    let rows = c.len-2.ensures ∙ c.args.flat.now.rows.ok.0 ∙ sym (length-map c.args.flat.now.rows.items row) in
    four_joined (summary_line (codes "model ") c.args.model) (summary_line (codes "flatzinc ") c.args.written)
    (summary_line (codes "variables ") (length (program c.args.flat.now).vars)) (summary_line (codes "rows ") (length (program c.args.flat.now).rows))
    c.push_line.new.text.items c.push_line-2.new.text.items c.push_line-3.new.text.items c.push_line-4.new.text.items
    (c.in_ok-push_line.ensures ∙ ap (λ t. t ++ summary_line (codes "model ") c.args.model) c.new-text.ensures.items) c.in_ok-push_line-2.ensures
    (c.in_ok-push_line-3.ensures ∙ ap (λ n. c.push_line-2.new.text.items ++ summary_line (codes "variables ") n) vars)
    (c.in_ok-push_line-4.ensures ∙ ap (λ n. c.push_line-3.new.text.items ++ summary_line (codes "rows ") n) rows)
