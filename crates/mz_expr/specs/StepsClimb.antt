-- Mirror of src/parser/expression.rt; private clauses only. How an expression goes on after its first operand: level by level,
-- from the tightest to the loosest that it may have.
use Rattle.std.specs.Prelude.{ℕ, zero, suc, List, [], ◌∷◌, Ok, if◌then◌else◌, nat_le, slice_index_or}
use Rattle.mz_grammar.specs.RulesReading.{Reader, ◌>>=◌}
use Rattle.mz_grammar.specs.declared.level.Level.{Level}
use Rattle.mz_grammar.specs.declared.level.Level.TheVariants as level
use Rattle.mz_grammar.specs.Parts as parts
use Rattle.mz_grammar.specs.Parts.{Operand, chained}
use Rattle.mz_grammar.specs.Reading.{reads}

-- the level with this number, from 1
abbrev pub numbered : ℕ → Level
numbered zero = level.Concat
numbered (suc n) = slice_index_or (level.Iff ∷ level.Imp ∷ level.Or ∷ level.And ∷ level.Compare ∷ level.Member ∷ level.Union ∷ level.Range ∷ level.Sum ∷ level.Product ∷ level.Power ∷ []) n level.Concat

-- the levels with numbers below done, tightest first, down to the one numbered last
unfoldable pub levels : ℕ → ℕ → List Level
levels zero last = []
levels (suc n) last = if nat_le last n then numbered n ∷ levels n last else []

-- an operand x with the operators of this level after it
abbrev pub with_operators : Level → Operand → ℕ → Reader Operand
with_operators l x room ts = reads (parts.operators l) room ts >>= λ ls. Ok (chained x ls.0, ls.1)

-- x with the operators of these levels after it, one level after the other
unfoldable pub climbing : List Level → Operand → ℕ → Reader Operand
climbing [] x room ts = Ok (x, ts)
climbing (l ∷ ls) x room ts = with_operators l x room ts >>= λ y. climbing ls y.0 room y.1
