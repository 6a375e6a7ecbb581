use Rattle.std.proofs.lemmas.Result.{on_ok_weaker}
use Rattle.std.specs.Prelude.{pos}
use Rattle.mz_value.specs.Spelling.{spell}
use Rattle.mz_value.proofs.Showable.{elements_written}
use Rattle.mz_value.proofs.shown.push_elements.Goals as goal

pub returns-in_ok-push_range-in-len1-up : goal.returns-in_ok-push_range-in-len1-up
returns-in_ok-push_range-in-len1-up c =
    on_ok_weaker c.push_more_ranges.result (elements_written (spell c.args.s) c.args.ranges.now (pos 0, pos 0) _ _ _ c.in-len1-up.len_at_least c.in_ok-push_range-in-len1-up.ensures) c.push_more_ranges.ensures
