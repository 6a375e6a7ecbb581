use Rattle.std.proofs.Common.{ap, map, subst}
use Rattle.std.specs.Option.{option_map}
use Rattle.mz_core.specs.Types.{plain_type}
use Rattle.mz_core.specs.TreeViews.{tree}
use Rattle.mz_check_meaning.specs.Passes.{Passes}
use Rattle.mz_check_forms.proofs.BranchLaws.{whole_is}
use Rattle.mz_check_forms.proofs.branches.whole_type.Goals as goal

pub returns-in-None : goal.returns-in-None
returns-in-None c =
    subst (Passes plain_type c.bool_whole.result)
    (whole_is c.var_of.result (map tree c.args.thens.now) (option_map tree c.args.other.now) (plain_type c.args.t) c.var_of.ensures (ap (option_map tree) c.in-None.is))
    c.bool_whole.ensures
