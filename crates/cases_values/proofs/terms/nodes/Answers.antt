use Rattle.std.specs.Prelude.{refl}
use Rattle.cases_values.proofs.terms.nodes.Goals as goal

pub intern-requires : goal.intern-requires
intern-requires c = record { below = record {}; bounded = refl; other = refl; free = λ h. absurd (cc) }
