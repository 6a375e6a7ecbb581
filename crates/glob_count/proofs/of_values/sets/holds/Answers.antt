use Rattle.std.proofs.Common.{sym, ap, ◌∙◌, rules}
use Rattle.std.proofs.lemmas.Int.{to_z-of_z}
use Rattle.std.specs.Int.{w128}
use Rattle.mz_interval.specs.Ends.{is_number}
use Rattle.glob_count.proofs.Members.{none_outside}
use Rattle.glob_count.proofs.of_values.sets.holds.Goals as goal

pub returns-else-is_number : goal.returns-else-is_number
returns-else-is_number c =
    let same = to_z-of_z w128 c.args.x (search rules) in
    sym (none_outside c.args.s.now c.args.x c.ranges-ranges.ensures.limits (ap is_number (sym same) ∙ sym c.is_number.ensures ∙ c.if-is_number.false))
