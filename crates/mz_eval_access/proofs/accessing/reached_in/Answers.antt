use Rattle.std.proofs.Common.{◌∙◌, ◌++◌, map, sym, ap}
use Rattle.mz_eval_cells.specs.Views.{known_bound}
use Rattle.mz_eval_access.specs.Places.{places_of}
use Rattle.mz_eval_access.specs.StepsPlaces.{reach}
use Rattle.mz_eval_access.proofs.Reached.{reached_is}
use Rattle.mz_eval_access.proofs.accessing.reached_in.Goals as goal

pub returns : goal.returns
returns c =
    let all = reach c.args.ranges.now c.args.ends.now (places_of c.args.p) in
    c.in_ok-all.ensures ∙ ap (λ xs. map known_bound xs ++ all) c.new.ensures.items ∙ sym (reached_is c.args.ranges.now c.args.ends.now (places_of c.args.p))
