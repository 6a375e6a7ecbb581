-- What the reader's values stand for, without where they lie in memory.
use Rattle.std.specs.Prelude.{List, map, Option, Vec}
use Rattle.std.specs.Option.{option_map}
use Rattle.std.specs.declared.alloc.Global.{Global}
use Rattle.fz_items.specs.Forms.{forms}
use Rattle.fz_items.specs.Views.{elements}
use Rattle.soln_reader.specs.Blocks as blocks
use Rattle.soln_reader.specs.Holding.{Holding}
use Rattle.soln_reader.specs.Reader.{State}
use Rattle.soln_reader.specs.declared.block.Given.{Given}

abbrev pub given : Given → blocks.Given
given g = record { occurs = option_map elements g.occurs; value = option_map elements g.value }

abbrev pub givens : List Given → List blocks.Given
givens gs = map given gs

abbrev pub block_of : Option (Vec Given Global) → blocks.Block
block_of b = option_map (λ v. givens v.items) b

-- the state of a reader that holds this
abbrev pub state : Holding → State
state h = record { forms = forms h.shapes; bytes = h.bytes; lines = h.lines; block = block_of h.given; bad = h.bad }
