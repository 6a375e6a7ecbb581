use Rattle.std.proofs.Common.{◌≡◌, ◌∷◌, map, ap, rules}
use Rattle.std.specs.Vec.Iter.{into_iter_items}
use Rattle.mz_model_names.specs.Named.{held_name}
use Rattle.mz_model_names.proofs.NameLaws.{one_taken}
use Rattle.mz_model_names.proofs.close.names.taken.Goals as goal

pub loop-h-preserved : goal.loop-h-preserved
loop-h-preserved c =
    let same : into_iter_items c.loop-h.h-iterator ≡ c.in-Some.h ∷ into_iter_items c.next.new.self = search rules in
    one_taken (map held_name c.args.names.items) (map held_name (into_iter_items c.loop-h.h-iterator)) (map held_name (into_iter_items c.next.new.self)) (held_name c.in-Some.h) c.loop-h.all c.in_ok-all.all (ap (map held_name) same) c.loop-h.invariant c.in_ok-all.ensures
