use Rattle.std.proofs.Common.{◌≡◌, length, map, take}
use Rattle.mz_base.specs.Names.{Grows}
use Rattle.mz_tree.specs.Data.{given}
use Rattle.mz_include.specs.WithData.{words_of}
use Rattle.mz_include.proofs.Reading.{SoFar}
use Rattle.mz_include.proofs.with_data.data_files.read_data_files.Given as goal

abbrev pub invariant-loop-word : goal.invariant-loop-word
invariant-loop-word g l = record {
  so_far : SoFar l.names (g.F.Files.texts l.fn.files) (length l.sources.files.items) (words_of (take l.word-index l.data_files)) l.read.names.items (map given l.read.items.items);
  grows : Grows l.fn.names l.names;
  texts : g.F.Files.texts l.files ≡ g.F.Files.texts l.fn.files;
  counts : g.F.Files.counts l.files ≡ g.F.Files.counts l.fn.files;
}
