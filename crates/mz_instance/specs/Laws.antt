-- How values by number and values by ids go together.
use Rattle.std.specs.Prelude.{◌≡◌, ℕ, suc, List, [], ◌∷◌, Bool, true, false}
use Rattle.mz_arena.specs.Entries.{Entry}
use Rattle.mz_arena.specs.Instances.{Instance}
use Rattle.mz_arena.specs.FreeNodes.{AgreeOnFree}
use Rattle.mz_arena.specs.Numbering.{by_id, local_ids}
use Rattle.mz_arena.specs.Values.{Values}
use Rattle.mz_instance.specs.Parts.{Part, AreNodes, AllFitAt, ids, parts}
use Rattle.mz_instance.specs.Instance.{IsInstance}
use Rattle.mz_instance.specs.Solved.{FitsArena}

-- from the number k on, `x` has by numbers what `v` has by these ids
abbrev pub AreSame : Values → Values → ℕ → List ℕ → Type 0
AreSame x v k [] = Unit {0}
AreSame x v k (i ∷ is) = (x.number k ≡ v.number i) × (x.set k ≡ v.set i) × AreSame x v (suc k) is

abbrev pub chosen_or_not : Bool → Values → Values → Values
chosen_or_not true x y = y
chosen_or_not false x y = x

-- values by number are the nodes' values by ids
abbrev pub NodesHaveTheirNumbers : Type 0
NodesHaveTheirNumbers = (es : List Entry) (choice : Bool) (x y : Values) (k : ℕ) (is : List ℕ) (ps : List Part) → AreNodes es choice k is ps → AreSame (chosen_or_not choice x y) (by_id es x y) k is

-- values that fit the parts of the variables and of the choices fit the arena
abbrev pub PartsMakeTheArena : Type 0
PartsMakeTheArena = (inst : Instance) (chosen : List Part) (v : Values) → IsInstance inst → AreNodes inst.arena true 0 (local_ids inst.arena) chosen → AllFitAt (parts inst.vars) (ids inst.vars) v → AllFitAt chosen (local_ids inst.arena) v → FitsArena inst.arena v

-- values by ids are told by those that the numbers of the parts have
abbrev pub NumbersTellTheArena : Type 0
NumbersTellTheArena = (inst : Instance) (x y v : Values) → IsInstance inst → AreSame x v 0 (ids inst.vars) → AreSame y v 0 (local_ids inst.arena) → AgreeOnFree inst.arena v (by_id inst.arena x y)
