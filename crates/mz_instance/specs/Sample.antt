-- A WORKED EXAMPLE: the instance of a small model with an option, a set, an array and a choice.
-- var opt 1..2: o; var set of 1..2: s; array[1..2] of var bool: b; constraint let { var 1..2: y } in y = 2;
use Rattle.std.specs.Prelude.{ℕ, ℤ, pos, true, false, List, [], ◌∷◌, Some, None}
use Rattle.mz_value.specs.Ranges.{Range}
use Rattle.mz_value.specs.declared.value.ShapeBase.TheVariants as shape
use Rattle.mz_arena.specs.declared.instance.InstanceGoal.TheVariants.{Satisfy}
use Rattle.mz_arena.specs.declared.node.NodeKind.{NodeKind}
use Rattle.mz_arena.specs.declared.node.NodeKind.TheVariants.{Int, Var, Local, Eq, SetConst, SetVar}
use Rattle.mz_arena.specs.Entries.{Entry, entry}
use Rattle.mz_arena.specs.Instances.{ModelVar, Instance}
use Rattle.mz_instance.specs.Parts.{Whole, Part, truths}

abbrev pub one_or_two : List Range
one_or_two = (pos 1, pos 2) ∷ []

abbrev node : NodeKind → ℕ → ℕ → ℕ → ℤ → Entry
node k a b c n = entry (record { kind = k; a = a; b = b; c = c; number = n })

abbrev const : ℤ → List Range → Entry
const n u = record { node = record { kind = SetConst; a = 0; b = 0; c = 0; number = n }; set = u }

-- the parts are o's occurrence and value, s, and the places of b, with the ids 1, 3, 4, 5 and 6; the choice has the id 7, and the root the id 9
abbrev pub arena : List Entry
arena =
    const (pos 0) truths ∷ node Var 0 0 1 (pos 1)
    ∷ const (pos 1) one_or_two ∷ node Var 2 1 0 (pos 3)
    ∷ node SetVar 2 2 0 (pos 4)
    ∷ node Var 0 3 1 (pos 5) ∷ node Var 0 4 1 (pos 6)
    ∷ node Local 2 0 0 (pos 7) ∷ node Int 0 0 0 (pos 2) ∷ node Eq 7 8 0 (pos 0) ∷ []

abbrev pub o : ModelVar
o = record { name = 0; index = None; opt = true; base = shape.Int; cells = record { occurs = Some 1; term = 3; domain = one_or_two } ∷ [] }

abbrev pub s : ModelVar
s = record { name = 1; index = None; opt = false; base = shape.SetInt; cells = record { occurs = None; term = 4; domain = one_or_two } ∷ [] }

abbrev pub b : ModelVar
b = record { name = 2; index = Some one_or_two; opt = false; base = shape.Bool; cells = record { occurs = None; term = 5; domain = truths } ∷ record { occurs = None; term = 6; domain = truths } ∷ [] }

abbrev pub sample : Instance
sample = record { arena = arena; vars = o ∷ s ∷ b ∷ []; roots = 9 ∷ []; goal = Satisfy; pars = [] }

-- the part of the choice
abbrev pub choice : Part
choice = record { sort = Whole; set = one_or_two }
