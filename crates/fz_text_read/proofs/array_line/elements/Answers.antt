use Rattle.std.proofs.Common.{map, map-id}
use Rattle.fz_text_read.proofs.SameItems.{seen_so}
use Rattle.fz_text_read.proofs.array_line.elements.Goals as goal

pub returns : goal.returns
returns c = seen_so c.closed.result _ (λ v. map (λ k. k) v.items) (λ v. v.items) (λ v. map-id v.items) c.closed.ensures
