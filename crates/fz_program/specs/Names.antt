-- Names.
use Rattle.std.specs.Prelude.{ℕ, List, Bool, codes, take}
use Rattle.std.specs.Str.{bytes_eq}

-- a name is its bytes
abbrev pub Name : Type 0
Name = List ℕ

-- begins with `X_`, as the names do that the compiler makes
abbrev pub is_reserved : Name → Bool
is_reserved w = bytes_eq (take 2 w) (codes "X_")
