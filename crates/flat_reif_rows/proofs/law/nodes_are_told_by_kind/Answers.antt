use Rattle.flat_reif_rows.proofs.ToldByKind.{by_kind}
use Rattle.flat_reif_rows.proofs.law.nodes_are_told_by_kind.Goals as goal

pub returns : goal.returns
returns c e k own = by_kind e k own
