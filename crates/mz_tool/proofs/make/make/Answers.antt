use Rattle.std.proofs.Common.{◌∙◌, length, ap}
use Rattle.mz_tool.proofs.Summaries.{files_made}
use Rattle.mz_tool.proofs.make.make.Goals as goal

pub returns-clause-ended : goal.returns-clause-ended
returns-clause-ended g c = λ texts.
    c.make_of.ensures.ended c.args.number texts (files_made c.args.number c.in-Ok.text.items c.in-Ok-files_of.files c.in-Ok.ensures c.in-Ok-files_of.ensures)
    (c.len-model.ensures ∙ c.in-Ok.text.ok.0 ∙ ap length c.in-Ok.ensures)
