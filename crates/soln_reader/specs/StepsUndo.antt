-- Mirror of src/undo.rt; private clauses only.
use Rattle.std.specs.Prelude.{◌≡◌, List, [], ◌∷◌, Option, Some, None, slice_get, slice_set}
use Rattle.fz_items.specs.declared.outputs.Part.{Part}
use Rattle.fz_items.specs.declared.outputs.Part.TheVariants.{Occurs, Value}
use Rattle.fz_items.specs.declared.outputs.Slot.{Slot}
use Rattle.fz_items.specs.Items.{choose}
use Rattle.soln_reader.specs.Blocks.{Given, Block}

-- nothing stands under a name any more
unfoldable pub cleared_in : Part → Given → Given
cleared_in Occurs g = record { occurs = None; value = g.value }
cleared_in Value g = record { occurs = g.occurs; value = None }

unfoldable pub cleared : Slot → List Given → List Given
cleared s gs = choose (slice_get gs s.shape) (λ g. slice_set gs s.shape (cleared_in s.part g)) gs

-- the same for each slot, the last one first
unfoldable pub undone : List Slot → List Given → List Given
undone [] gs = gs
undone (s ∷ ss) gs = cleared s (undone ss gs)

-- the block before a line, which filled a slot or none, is the block after it with that slot cleared
abbrev pub Undo : Option Slot → Block → Block → Type 0
Undo None old new = new ≡ old
Undo (Some s) None new = Unit {0}
Undo (Some s) (Some gs) None = ⊥
Undo (Some s) (Some gs) (Some hs) = cleared s hs ≡ gs

-- the same over lines that filled these slots; where no block was open, none is needed
abbrev pub Restores : List Slot → Block → Block → Type 0
Restores ss None new = Unit {0}
Restores ss (Some gs) None = ⊥
Restores ss (Some gs) (Some hs) = undone ss hs ≡ gs

abbrev pub cleared_block : Slot → Block → Block
cleared_block s None = None
cleared_block s (Some gs) = Some (cleared s gs)
