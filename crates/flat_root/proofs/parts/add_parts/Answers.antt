use Rattle.std.proofs.Common.{◌++◌, ap, ◌∙◌}
use Rattle.flat_root.proofs.Marking.{on_ok_on}
use Rattle.flat_root.proofs.parts.add_parts.Goals as goal

pub returns-clause-added : goal.returns-clause-added
returns-clause-added c = on_ok_on c.add_all.result _ _ (λ h. record { more = c.in-Ok.x.items; split = c.in-Ok.ensures.split; items = h ∙ ap (λ is. c.args.parts.now.items ++ is) c.as_slice.ensures.value }) c.add_all.ensures

pub returns-clause-marks : goal.returns-clause-marks
returns-clause-marks c = on_ok_on c.add_all.result _ _ (λ _. c.in-Ok.ensures.marks) c.add_all.ensures
