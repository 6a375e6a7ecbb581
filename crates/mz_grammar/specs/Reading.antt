-- What the grammar of models reads at the beginning of a list of tokens.
use Rattle.std.specs.Prelude.{ℕ, ◌+◌}
use Rattle.mz_grammar.specs.RulesReading.{Reader, read}
use Rattle.mz_grammar.specs.declared.level.Level.{Level}
use Rattle.mz_grammar.specs.declared.level.Level.TheVariants as level_is
use Rattle.mz_grammar.specs.Parts
use Rattle.mz_grammar.specs.Parts.{Place, Value}
use Rattle.mz_grammar.specs.Model.{rule}

-- The rank of a part is above the ranks of those with which it may begin.
unfoldable pub operand_rank : Level → ℕ
operand_rank level_is.Iff = 25
operand_rank level_is.Imp = 23
operand_rank level_is.Or = 21
operand_rank level_is.And = 19
operand_rank level_is.Compare = 17
operand_rank level_is.Member = 15
operand_rank level_is.Union = 13
operand_rank level_is.Range = 11
operand_rank level_is.Sum = 9
operand_rank level_is.Product = 7
operand_rank level_is.Power = 5
operand_rank level_is.Concat = 3

unfoldable pub rank : Place → ℕ
rank (Parts.atom) = 1
rank (Parts.unit) = 2
rank (Parts.operand l) = operand_rank l
rank (Parts.level l) = operand_rank l + 1
rank Parts.expr = 27
rank Parts.base = 27
rank (Parts.index_types n) = 28
rank Parts.indices = 28
rank (Parts.elements c) = 28
rank (Parts.arguments t) = 28
rank Parts.array_body = 28
rank Parts.set_body = 28
rank Parts.row = 28
rank Parts.branch = 28
rank Parts.text_rest = 28
rank Parts.unmarked = 28
rank Parts.more_indices = 29
rank Parts.rows_body = 29
rank Parts.element = 29
rank Parts.type = 30
rank Parts.param = 31
rank Parts.declaration = 31
rank Parts.param_list = 32
rank Parts.let_item = 32
rank Parts.item = 32
rank Parts.let_items = 33
rank Parts.file = 33
rank (Parts.generators c) = 1
rank (Parts.more_operators l done) = 1
rank _ = 0

abbrev pub width : ℕ
width = 34

abbrev pub reads : (n : Place) → ℕ → Reader (Value n)
reads = read rule rank width
