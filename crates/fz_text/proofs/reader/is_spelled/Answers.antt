use Rattle.fz_program.proofs.TestAnswers.{says_false, denied}
use Rattle.fz_text.proofs.reader.is_spelled.Goals as goal

pub returns-then-not-are_parts : goal.returns-then-not-are_parts
returns-then-not-are_parts c = says_false (λ h. denied c.are_parts.result c.are_parts.ensures.1 c.if-not-are_parts.true h.0)
