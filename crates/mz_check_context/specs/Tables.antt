-- What the code's tables of names hold.
use Rattle.std.specs.Prelude.{◌≡◌, ℕ, List, [], Option, Some, None, Vec, nat_eq}
use Rattle.std.specs.declared.alloc.Global.{Global}
use Rattle.indexmap.specs.IndexMap.{get}
use Rattle.mz_check_meaning.specs.Models.{entries_of}
use Rattle.mz_check_context.specs.declared.groups.Groups.{Groups}

abbrev pub numbers_in : Option (Vec ℕ Global) → List ℕ
numbers_in None = []
numbers_in (Some ns) = ns.items

abbrev pub numbers_found : Groups → ℕ → List ℕ
numbers_found g n = numbers_in (get nat_eq g.numbers n)

-- the numbers of each name are those of its entries
abbrev pub AreGrouped : Groups → List (ℕ × ℕ) → Type 0
AreGrouped g entries = (n : ℕ) → numbers_found g n ≡ entries_of n entries
