use Rattle.std.proofs.Common.{◌≡◌, map, fold, take, All}
use Rattle.std.specs.List.{flat_map}
use Rattle.mz_base.specs.Names.{Grows, text_of}
use Rattle.mz_tree.specs.Items.{item as tree_of}
use Rattle.mz_include.specs.Naming.{with_mention, included_by}
use Rattle.mz_include.specs.Views.{mention, IsKnown}
use Rattle.mz_include.proofs.included.note_included.Given as goal

abbrev pub invariant-loop-item : goal.invariant-loop-item
invariant-loop-item l = record {
  noted : map (mention l.names) l.queue ≡ fold with_mention (map (mention l.initial.names) l.initial.queue) (flat_map (included_by l.initial.names (text_of l.initial.names l.owner)) (map tree_of (take l.item-index l.items)));
  known : All (IsKnown l.names) l.queue;
  grows : Grows l.initial.names l.names;
}
