-- What the code's typed parts stand for.
use Rattle.std.specs.Option.{option_map}
use Rattle.mz_core.specs.Tree.{Tree, Gen, Item, declares, constrains}
use Rattle.mz_core.specs.TreeViews.{tree, decl}
use Rattle.mz_check_meaning.specs.WrittenTypes.{Based, of_bool, of_int, of_set, Index, Values}
use Rattle.mz_check_context.specs.declared.generator.TypedGen.{TypedGen}
use Rattle.mz_check_context.specs.declared.written.TypedBase.{TypedBase}
use Rattle.mz_check_context.specs.declared.written.TypedBase.TheVariants as typed
use Rattle.mz_check_context.specs.declared.written.TypedIndex.{TypedIndex}
use Rattle.mz_check_context.specs.declared.written.TypedValues.{TypedValues}
use Rattle.mz_check_context.specs.declared.local.TypedItem.{TypedItem}
use Rattle.mz_check_context.specs.declared.local.TypedItem.TheVariants as typed_item_of

abbrev pub typed_gen : TypedGen → Gen
typed_gen g = record { slots = g.slots.items; set = tree g.set; cond = option_map tree g.cond }

abbrev pub typed_base : TypedBase → Based Tree
typed_base typed.Bool = of_bool
typed_base typed.Int = of_int
typed_base (typed.Set e) = of_set (tree e)

abbrev pub typed_index : TypedIndex → Index
typed_index i = record { ty = i.ty; set = option_map tree i.set }

abbrev pub typed_values : TypedValues → Values
typed_values v = record { base = v.base; set = option_map tree v.set }

abbrev pub typed_item : TypedItem → Item
typed_item (typed_item_of.Decl d) = declares (decl d)
typed_item (typed_item_of.Constraint e) = constrains (tree e)
