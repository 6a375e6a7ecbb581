use Rattle.std.proofs.Common.{◌∙◌, sym, rules}
use Rattle.std.proofs.lemmas.Bool.{false≢true}
use Rattle.fz_program.proofs.well_formedness.well_formed.Goals as goal

pub returns-then-are_distinct : goal.returns-then-are_distinct
returns-then-are_distinct c =
    let distinct = c.are_distinct.ensures.0 c.if-are_distinct.true in
    (λ t. record { distinct = search rules; parts = c.are_parts.ensures.0 t }, λ h. c.are_parts.ensures.1 h.parts)

pub returns-else-are_distinct : goal.returns-else-are_distinct
returns-else-are_distinct c = (
  λ t. absurd (false≢true (sym c.if-are_distinct.false ∙ t)),
  λ h. let distinct = h.distinct in c.are_distinct.ensures.1 (search rules),
)
