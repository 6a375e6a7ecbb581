use Rattle.std.proofs.Common.{[], ◌∙◌, take, get_or, Bor, List, ℕ, inl, inr, refl}
use Rattle.std.proofs.lemmas.List.{take_all}
use Rattle.std.specs.List.{flat_map}
use Rattle.mz_tool.specs.Status.{now}
use Rattle.fz_text.proofs.Appends.{pieces_more}
use Rattle.mz_tool.proofs.Sinks.{adds_nothing, adds_more, pieces_whole, cut_short, cut_before, all_out}
use Rattle.mz_tool.proofs.note.put_pieces.Goals as goal

-- what a read past the end would give
abbrev blank : Bor (List ℕ)
blank = record { ref_ptr = (0, 0); now = [] }

pub loop-piece-init : goal.loop-piece-init
loop-piece-init g c = record { adds = adds_nothing _; counts = refl }

pub loop-piece-preserved : goal.loop-piece-preserved
loop-piece-preserved g c = record {
  adds = rw (pieces_more now c.args.pieces.now c.loop-piece.piece-index blank c.loop-piece-test.true) (adds_more _ _ _ _ _ c.loop-piece.invariant.adds c.in-All.ensures.told);
  counts = c.in-All.ensures.counted ∙ c.loop-piece.invariant.counts;
}

pub returns-in-Failed : goal.returns-in-Failed
returns-in-Failed g c =
    cut_short _ _ _ _ _ _ _ _ _ (pieces_whole now c.args.pieces.now c.loop-piece.piece-index blank c.loop-piece-test.true) c.loop-piece.invariant.adds c.in-Failed.ensures.told
    (inl (rw c.loop-piece.invariant.counts at c.in-Failed.ensures.counted.0))

pub returns-in-Memory : goal.returns-in-Memory
returns-in-Memory g c =
    cut_before _ _ _ _ _ (flat_map now (take c.loop-piece.piece-index c.args.pieces.now)) (get_or c.args.pieces.now c.loop-piece.piece-index blank).now _ _ (pieces_whole now c.args.pieces.now c.loop-piece.piece-index blank c.loop-piece-test.true) c.loop-piece.invariant.adds c.in-Memory.ensures.told
    (inr (rw c.loop-piece.invariant.counts at c.in-Memory.ensures.counted.0))

pub returns : goal.returns
returns g c = all_out _ _ _ _ _ (rw (take_all c.loop-piece.piece-index c.args.pieces.now c.loop-piece-test.false) at c.loop-piece.invariant.adds)
