-- Mirror of src/step.rt, src/value.rt and src/file.rt; private clauses only. The steps in which a data file is read.
use Rattle.std.specs.Prelude.{ℕ, Bool, true, false, List, Ok, if◌then◌else◌}
use Rattle.mz_lexer.specs.declared.token.Symbol.{Symbol}
use Rattle.mz_lexer.specs.declared.token.Symbol.TheVariants.{SLBrack, SComma, SSemi}
use Rattle.mz_tree.specs.Data as pure
use Rattle.mz_tree.specs.Data.{values, lines}
use Rattle.mz_grammar.specs.Tokens.{tok_at, behind, place}
use Rattle.mz_grammar.specs.Look.{is_sym}
use Rattle.mz_grammar.specs.Rules.{syntax}
use Rattle.mz_grammar.specs.RulesReading.{Reader, stuck, open_at, mapped}
use Rattle.mz_grammar.specs.Tests.{is_end, ends_row}
use Rattle.mz_grammar.specs.Data.{Placed, reads, plains, rows, ones}

-- after an element of a list: whether another may follow, or the list is closed
unfoldable pub goes_on_at : Symbol → Symbol → Reader Bool
goes_on_at separator closing ts = if is_sym separator (tok_at ts)
    then Ok (true, behind ts)
    else (if is_sym closing (tok_at ts) then Ok (false, behind ts) else stuck syntax ts)

-- after a cell of a row, whose closing token stays
unfoldable pub row_goes_on_at : Reader Bool
row_goes_on_at ts = if is_sym SComma (tok_at ts)
    then (if ends_row (tok_at (behind ts)) then Ok (false, behind ts) else Ok (true, behind ts))
    else Ok (false, ts)

-- after an item of the file
unfoldable pub file_goes_on_at : Reader Bool
file_goes_on_at ts = if is_end (tok_at ts)
    then Ok (false, ts)
    else (if is_sym SSemi (tok_at ts) then Ok (true, behind ts) else stuck syntax ts)

-- a set in braces, before its "{"
abbrev pub braces_at : ℕ → Reader pure.Value
braces_at room ts = open_at room ts (λ r. mapped (λ vs. pure.set (values vs)) (reads ones r (behind ts)))

-- the elements of an array with index sets, in their brackets
abbrev pub brackets_at : ℕ → Reader (List pure.Value)
brackets_at room ts = if is_sym SLBrack (tok_at ts) then open_at room ts (λ r. reads plains r (behind ts)) else stuck syntax ts

-- an array in brackets, before its "[", and a table of rows, before its "[|"
abbrev pub array_at : ℕ → Reader Placed
array_at room ts = open_at room ts (λ r. mapped (λ vs. (place ts, pure.array (values vs))) (reads plains r (behind ts)))

abbrev pub table_at : ℕ → Reader Placed
table_at room ts = open_at room ts (λ r. mapped (λ ls. (place ts, pure.rows (lines ls))) (reads rows r (behind ts)))
