use Rattle.std.proofs.Common.{map, map-id}
use Rattle.fz_text_read.proofs.SameItems.{seen_so}
use Rattle.fz_text_read.proofs.list.index.Goals as goal

pub returns : goal.returns
returns c = seen_so c.filled.result _ (λ v. map (λ r. r) v.items) (λ v. v.items) (λ v. map-id v.items) c.filled.ensures
