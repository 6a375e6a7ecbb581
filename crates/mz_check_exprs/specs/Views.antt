-- What the code's lists of typed parts stand for, with the scope after them.
use Rattle.std.specs.Prelude.{ℕ, List, map}
use Rattle.mz_core.specs.declared.tree.Core.{Core}
use Rattle.mz_core.specs.TreeViews.{tree}
use Rattle.mz_check_meaning.specs.Models.{Env}
use Rattle.mz_check_meaning.specs.Comprehensions.{Bound}
use Rattle.mz_check_meaning.specs.Forms.{Branched, Generated, Declared}
use Rattle.mz_check_context.specs.declared.generator.TypedGen.{TypedGen}
use Rattle.mz_check_context.specs.declared.local.TypedItem.{TypedItem}
use Rattle.mz_check_context.specs.Views.{typed_gen, typed_item}

abbrev pub bound : List ℕ → Env → Bound
bound slots env = record { slots = slots; env = env }

abbrev pub generated : List TypedGen → Env → Generated
generated gs env = record { gens = map typed_gen gs; env = env }

abbrev pub declared_in : List TypedItem → Env → Declared
declared_in is env = record { items = map typed_item is; env = env }

abbrev pub branched : List Core → List Core → Branched
branched cs es = record { conds = map tree cs; thens = map tree es }
