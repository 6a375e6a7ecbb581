-- What a reader holds, by the code's types.
use Rattle.std.specs.Prelude.{ℕ, List, [], Option, None, Vec}
use Rattle.std.specs.declared.alloc.Global.{Global}
use Rattle.mz_value.specs.declared.value.Shape.{Shape}
use Rattle.soln_reader.specs.declared.block.Given.{Given}

pub record Holding : Type 0 where
  pub shapes : List Shape
  -- what was fed and not yet answered
  pub bytes : List ℕ
  -- how many lines stand before these bytes
  pub lines : ℕ
  -- what the items of the open block gave
  pub given : Option (Vec Given Global)
  -- the line of the Bad that was answered
  pub bad : Option ℕ

-- a reader of shapes to which nothing was fed
abbrev pub nothing_held : List Shape → Holding
nothing_held shapes = record { shapes = shapes; bytes = []; lines = 0; given = None; bad = None }
