-- Mirror of src/outputs.rt; private clauses only.
use Rattle.std.specs.Prelude.{◌≡◌, ℕ, List, Option, Some, None, String}
use Rattle.std.specs.HashMap.{HashMap, get_by_text}
use Rattle.std.specs.declared.hash.FoldHasher.{FoldHasher}
use Rattle.std.specs.declared.hash.BuildHasherDefault.{BuildHasherDefault}
use Rattle.std.specs.declared.alloc.Global.{Global}
use Rattle.fz_items.specs.declared.outputs.Slot.{Slot}
use Rattle.fz_items.specs.Forms.{Output, output_named}

abbrev pub Table : Type 0
Table = HashMap (String Global) Slot (BuildHasherDefault FoldHasher)

-- a table finds each name as in a list of outputs
abbrev pub Finds : Table → List Output → Type 0
Finds table os = (q : List ℕ) → get_by_text table q ≡ output_named q os

abbrev pub or_else : {A : Type 0} → Option A → Option A → Option A
or_else (Some x) b = Some x
or_else None b = b

-- a later table finds what the older one finds, and else as in a list of outputs
abbrev pub FindsAlso : Table → Table → List Output → Type 0
FindsAlso old new os = (q : List ℕ) → get_by_text new q ≡ or_else (get_by_text old q) (output_named q os)
