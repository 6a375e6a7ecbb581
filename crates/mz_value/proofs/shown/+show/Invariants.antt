use Rattle.std.proofs.Common.{◌≡◌, ◌++◌, ◌+◌, ◌*◌, map, take}
use Rattle.std.specs.String.{string_bytes}
use Rattle.mz_value.specs.Contents.{content, contents, case_names}
use Rattle.mz_value.specs.Shown.{shown_all}
use Rattle.mz_value.proofs.Listed.{after_commas}
use Rattle.mz_value.proofs.shown.+show.Given as goal

abbrev pub invariant-push_more_items-loop-x : goal.invariant-push_more_items-loop-x
invariant-push_more_items-loop-x l = string_bytes l.out ≡ string_bytes l.fn.out ++ after_commas (shown_all (case_names l.cases) (contents (map content (take l.x-index l.items))))

abbrev pub decreases-push_value : goal.decreases-push_value
decreases-push_value l = 3 * goal.size-push_value l

abbrev pub decreases-push_items : goal.decreases-push_items
decreases-push_items l = 3 * goal.size-push_items l + 2

abbrev pub decreases-push_more_items : goal.decreases-push_more_items
decreases-push_more_items l = 3 * goal.size-push_more_items l + 1
