use Rattle.std.proofs.Common.{◌≡◌, ◌-◌, ◌^◌, vec_len}
use Rattle.mz_base.specs.Names.{Grows}
use Rattle.mz_include.proofs.ReadFiles.{Gathered}
use Rattle.mz_include.proofs.gathering.gather.Given as goal

abbrev pub invariant-loop-named : goal.invariant-loop-named
invariant-loop-named g l = record {
  so_far : Gathered l.names (g.F.Files.texts l.fn.files) l.first l.queue l.read.items;
  grows : Grows l.fn.names l.names;
  texts : g.F.Files.texts l.files ≡ g.F.Files.texts l.fn.files;
  counts : g.F.Files.counts l.files ≡ g.F.Files.counts l.fn.files;
}

abbrev pub decreases-loop-named : goal.decreases-loop-named
decreases-loop-named g l = 2 ^ 64 - vec_len l.read
