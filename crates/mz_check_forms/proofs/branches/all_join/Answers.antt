use Rattle.std.proofs.Common.{subst}
use Rattle.std.specs.Option.{option_map}
use Rattle.mz_core.specs.Types.{plain_type}
use Rattle.mz_core.specs.TreeViews.{tree}
use Rattle.mz_check_meaning.specs.Branches.{else_list}
use Rattle.mz_check_meaning.specs.Passes.{Passes}
use Rattle.mz_check_forms.proofs.BranchLaws.{join_is}
use Rattle.mz_check_forms.proofs.branches.all_join.Goals as goal

pub returns-in-len1-up : goal.returns-in-len1-up
returns-in-len1-up c =
    subst (Passes plain_type c.join_above.result)
    (join_is c.first-item.result c.args.thens.now (else_list (option_map tree c.args.other.now)) (plain_type c.type_of.result.now) c.in-len1-up.len_at_least c.first-item.is c.type_of.ensures)
    c.join_above.ensures
