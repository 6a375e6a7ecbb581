use Rattle.std.proofs.Common.{[], refl, ap, ◌∙◌}
use Rattle.mz_scope_names.specs.Sets.{holds}
use Rattle.mz_scope_names.proofs.Lists.{all_read}
use Rattle.mz_scope.specs.Spaces.{name_in}
use Rattle.mz_scope.specs.StepsSpaces.{asked_by}
use Rattle.mz_scope.proofs.spaces.names_asked.Goals as goal

pub returns : goal.returns
returns c = λ n. c.in_ok-set.ensures n ∙ ap (λ z. holds n z) (c.as_slice.ensures.value ∙ all_read (name_in (asked_by c.args.asked.now)) c.args.os.now c.loop-o.o-index [] c.loop-o.names.items _ c.loop-o.invariant c.loop-o-test.false refl)
