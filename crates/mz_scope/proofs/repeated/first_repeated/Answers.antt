use Rattle.std.proofs.Common.{refl, sym, ◌∙◌}
use Rattle.mz_scope.proofs.Tracking.{tracks_none, not_repeated, repeated_here, none_repeated}
use Rattle.mz_scope.proofs.repeated.first_repeated.Goals as goal

pub loop-o-init : goal.loop-o-init
loop-o-init c = record { tracks = tracks_none c.new-declared.result c.new-valued.result c.args.os.now c.new-declared.ensures c.new-valued.ensures; first = refl }

pub loop-o-preserved : goal.loop-o-preserved
loop-o-preserved c = not_repeated c.args.os.now c.loop-o.o-index c.o-item.result c.loop-o.declared c.loop-o.valued c.is_repeated.new.declared c.is_repeated.new.valued _ c.loop-o-test.true c.o-item.is c.loop-o.invariant.tracks (sym c.in_ok-is_repeated.ensures.repeated ∙ (cc)) c.in_ok-is_repeated.ensures.declared c.in_ok-is_repeated.ensures.valued c.loop-o.invariant.first

pub returns : goal.returns
returns c = none_repeated c.args.os.now c.loop-o.o-index _ c.loop-o-test.false c.loop-o.invariant.first

pub returns-then-branch : goal.returns-then-branch
returns-then-branch c = repeated_here c.args.os.now c.loop-o.o-index c.o-item.result c.loop-o.declared c.loop-o.valued _ c.loop-o-test.true c.o-item.is c.loop-o.invariant.tracks (sym c.in_ok-is_repeated.ensures.repeated ∙ (cc)) c.loop-o.invariant.first
