use Rattle.mz_tool.proofs.Summaries.{file_made}
use Rattle.mz_tool.proofs.make.files_of.Goals as goal

pub returns : goal.returns
returns c = rw (c.new.ensures, c.in_ok-push.ensures.items, c.new-texts.ensures.items) (file_made _ _ _ c.in_ok-name.ensures.ok c.in_ok-bytes.ensures)
