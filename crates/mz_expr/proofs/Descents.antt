-- Calls that go down.
use Rattle.std.proofs.Common.{◌≡◌, ℕ, ◌<◌, ◌≤◌, arith, refl, List, Option, ◌∙◌}
use Rattle.std.specs.Prelude.{Some, None}
use Rattle.mz_lexer.specs.declared.token.Token.{Token}
use Rattle.mz_grammar.specs.RulesReading.{on}
use Rattle.mz_grammar.specs.declared.level.Level.{Level}
use Rattle.mz_grammar.specs.declared.level.Level.TheVariants as level_is
use Rattle.mz_grammar.specs.Parts as parts
use Rattle.mz_grammar.specs.Reading.{reads, operand_rank}
use Rattle.mz_grammar.proofs.Equations.{operand_reads}
use Rattle.mz_expr.specs.declared.parser.descent.Entry.{Entry}
use Rattle.mz_expr.specs.declared.parser.descent.Entry.TheVariants as entry_is
use Rattle.mz_expr.specs.Descent.{height, extent, entry_at, tighter}

rank_bound : (l : Level) → operand_rank l < 32
unfolding operand_rank
rank_bound level_is.Iff = omega arith
rank_bound level_is.Imp = omega arith
rank_bound level_is.Or = omega arith
rank_bound level_is.And = omega arith
rank_bound level_is.Compare = omega arith
rank_bound level_is.Member = omega arith
rank_bound level_is.Union = omega arith
rank_bound level_is.Range = omega arith
rank_bound level_is.Sum = omega arith
rank_bound level_is.Product = omega arith
rank_bound level_is.Power = omega arith
rank_bound level_is.Concat = omega arith

-- no entry counts as much as a token that is opened
height_bound : (e : Entry) → height e < 32
height_bound (entry_is.Level l) = rank_bound l
height_bound entry_is.Unit = omega arith
height_bound entry_is.Head = omega arith

-- a token that was opened goes below every entry
pub below_room : (room most : ℕ) (e entry : Entry) → room < most → extent room e < extent most entry
below_room room most e entry h = let b = height_bound e in omega (arith, b)

-- a room at which something may be read
pub room_bound : (room most : ℕ) (e entry : Entry) → extent room e ≤ extent most entry → room ≤ most
room_bound room most e entry h = let b = height_bound entry in omega (arith, b, h)

-- heads go below units
pub below_unit : (room most : ℕ) (entry : Entry) → extent room entry_is.Unit ≤ extent most entry → extent room entry_is.Head < extent most entry
below_unit room most entry h = omega (arith, h)

-- the operands of a level go below it
tighter_height : (l : Level) → height (tighter l) < operand_rank l
unfolding operand_rank
tighter_height level_is.Iff = omega arith
tighter_height level_is.Imp = omega arith
tighter_height level_is.Or = omega arith
tighter_height level_is.And = omega arith
tighter_height level_is.Compare = omega arith
tighter_height level_is.Member = omega arith
tighter_height level_is.Union = omega arith
tighter_height level_is.Range = omega arith
tighter_height level_is.Sum = omega arith
tighter_height level_is.Product = omega arith
tighter_height level_is.Power = omega arith
tighter_height level_is.Concat = omega arith

pub below_level : (room most : ℕ) (l : Level) (entry : Entry) → extent room (entry_is.Level l) ≤ extent most entry → extent room (tighter l) < extent most entry
below_level room most l entry h = let t = tighter_height l in omega (arith, t, h)

entry_on : (o : Option Level) (room : ℕ) (ts : List Token) → entry_at (on o entry_is.Unit entry_is.Level) room ts ≡ on o (reads parts.unit room ts) (λ k. reads (parts.level k) room ts)
entry_on None room ts = refl
entry_on (Some k) room ts = refl

-- an operand is what is read from its entry on
pub operand_entry : (l : Level) (room : ℕ) (ts : List Token) → reads (parts.operand l) room ts ≡ entry_at (tighter l) room ts
operand_entry l room ts = operand_reads l room ts ∙ rw entry_on refl
