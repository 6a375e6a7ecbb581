use Rattle.std.proofs.Common.{inl, inr}
use Rattle.fz_program.proofs.TestAnswers.{denied}
use Rattle.fz_program.proofs.Labels.{contains_both, contains_one}
use Rattle.fz_program.proofs.names.is_name.Goals as goal

pub returns-else-has_label : goal.returns-else-has_label
returns-else-has_label c = (
  λ t. contains_both _ _ _ (inr (c.has_array.ensures.0 t)),
  λ h. elim (contains_one _ _ _ h) [ inl l ↦ absurd (denied c.has_label.result c.has_label.ensures.1 c.if-has_label.false l) | inr r ↦ c.has_array.ensures.1 r ],
)
