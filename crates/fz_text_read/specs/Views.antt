-- What the code's part after the variables shows.
use Rattle.std.specs.Prelude.{map}
use Rattle.fz_program.specs.Flat.{array_item, row}
use Rattle.fz_text_read.specs.declared.reader.Body.{Body as BodyOfCode}
use Rattle.fz_text_read.specs.Lines.{Body}

abbrev pub body_of : BodyOfCode → Body
body_of r = record { arrays = map array_item r.arrays.items; rows = map row r.rows.items; goal = r.goal }
