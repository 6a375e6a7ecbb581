use Rattle.std.proofs.Common.{◌≡◌, List, sym, subst, ◌∙◌}
use Rattle.std.specs.Prelude.{pos, IfOk}
use Rattle.mz_value.specs.Ranges.{Range}
use Rattle.mz_value.proofs.Steps.{joined_none, joined_some}
use Rattle.mz_value.proofs.walks.joined.Goals as goal

pub returns-in-empty : goal.returns-in-empty
returns-in-empty c = c.new.ensures.items ∙ sym (joined_none c.args.ranges.now c.in-empty.len_below)

pub returns-in-len1-up : goal.returns-in-len1-up
returns-in-len1-up c =
    let P : List Range → Type 0 = λ t. IfOk c.joined_from.result (λ v. v.items ≡ t) in
    subst P (joined_some c.args.ranges.now (pos 0, pos 0) c.in-len1-up.len_at_least) c.joined_from.ensures
