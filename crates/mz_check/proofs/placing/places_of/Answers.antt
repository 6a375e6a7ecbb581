use Rattle.std.proofs.Common.{map, arith}
use Rattle.std.proofs.lemmas.List.{length-map}
use Rattle.mz_core.specs.TreeViews.{decl}
use Rattle.mz_check.proofs.Placed.{none_placed, next_placed, all_placed}
use Rattle.mz_check.proofs.placing.places_of.Goals as goal

pub loop-k-init : goal.loop-k-init
loop-k-init c = none_placed (map decl c.args.decls.now) c.in_ok-places.places.items (let seen = length-map c.args.decls.now decl in omega (arith, seen, c.in_ok-places.ensures.len, c.in_ok-places.places.ok.0))

pub loop-k-preserved : goal.loop-k-preserved
loop-k-preserved c = next_placed decl c.args.decls.now c.loop-k.k c.index-decls-k.result c.loop-k.places.items c.set_place.new.places.items c.slot_of.result c.loop-k.invariant c.loop-k-test.true c.index-decls-k.is c.slot_of.ensures c.set_place.ensures

pub returns : goal.returns
returns c = all_placed (map decl c.args.decls.now) c.loop-k.k c.loop-k.places.items c.loop-k.invariant (let seen = length-map c.args.decls.now decl in omega (arith, seen))
