use Rattle.std.proofs.Common.{◌∙◌, sym}
use Rattle.mz_value.specs.Contents.{case_names, content}
use Rattle.mz_eval_row_cells.proofs.Shown.{may_show}
use Rattle.mz_eval_row_cells.proofs.showing.text_of.Goals as goal

pub shown_text-requires : goal.shown_text-requires
shown_text-requires c = may_show (case_names c.args.cases.now) (content c.args.v.now) (sym c.is_showable.ensures ∙ c.if-is_showable.true)
