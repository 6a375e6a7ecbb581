use Rattle.std.proofs.Common.{Some, ap, ◌∙◌}
use Rattle.flat_root.proofs.posts.is_true_at.Goals as goal

pub returns : goal.returns
returns c = λ h. c.in-Ok.ensures ∙ ap Some (c.is_true.ensures h)
