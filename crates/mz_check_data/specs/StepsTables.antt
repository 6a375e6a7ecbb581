-- Names with their texts. Mirror of src/table.rt; private clauses only.
use Rattle.std.specs.Prelude.{ℕ, List}
use Rattle.mz_value.specs.declared.value.TextValue.{TextValue}
use Rattle.mz_value.specs.Contents.{text_bytes}

abbrev pub entry : ℕ × TextValue → ℕ × List ℕ
entry e = (e.0, text_bytes e.1)
