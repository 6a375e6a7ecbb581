-- Shapes without where they lie in memory, and the names under which a solver writes them.
use Rattle.std.specs.Prelude.{ℕ, suc, List, [], ◌∷◌, ◌++◌, map, Bool, Option, Some, None, codes, if◌then◌else◌}
use Rattle.std.specs.Option.{option_map}
use Rattle.std.specs.Str.{bytes_eq}
use Rattle.mz_value.specs.Ranges.{Range}
use Rattle.mz_value.specs.Contents.{text_bytes}
use Rattle.mz_value.specs.declared.value.Shape.{Shape}
use Rattle.mz_value.specs.declared.value.ShapeBase.{ShapeBase}
use Rattle.fz_items.specs.declared.outputs.Part.{Part}
use Rattle.fz_items.specs.declared.outputs.Part.TheVariants.{Occurs, Value}
use Rattle.fz_items.specs.declared.outputs.Slot.{Slot}

-- what values a declared name may have
pub record Form : Type 0 where
  pub label : List ℕ
  -- whether the elements are options
  pub opt : Bool
  pub base : ShapeBase
  -- the least and the greatest index of each dimension of an array
  pub index : Option (List Range)
  -- the domain of each element, in the items' order
  pub domains : List (List Range)

abbrev pub form : Shape → Form
form s = record { label = text_bytes s.label; opt = s.opt; base = s.base; index = option_map (λ v. v.items) s.index; domains = s.domains.items }

abbrev pub forms : List Shape → List Form
forms ss = map form ss

-- an output name, with the place of its shape and what is written under it
abbrev pub Output : Type 0
Output = List ℕ × Slot

abbrev pub slot : ℕ → Part → Slot
slot k part = record { shape = k; part = part }

-- the output names of a shape: an option has one for its occurrence and one for its value
abbrev pub outputs_of : ℕ → Form → List Output
outputs_of k f =
    if f.opt then (codes "X_OCC_" ++ f.label, slot k Occurs) ∷ (codes "X_VAL_" ++ f.label, slot k Value) ∷ []
    else (f.label, slot k Value) ∷ []

-- the output names of shapes, of which the first has this place
unfoldable pub outputs_from : ℕ → List Form → List Output
outputs_from k [] = []
outputs_from k (f ∷ fs) = outputs_of k f ++ outputs_from (suc k) fs

-- the first output with a name
unfoldable pub output_named : List ℕ → List Output → Option Slot
output_named name [] = None
output_named name (o ∷ os) = if bytes_eq name o.0 then Some o.1 else output_named name os

-- what is written under a name, if it is an output name
abbrev pub slot_of : List Form → List ℕ → Option Slot
slot_of fs name = output_named name (outputs_from 0 fs)
