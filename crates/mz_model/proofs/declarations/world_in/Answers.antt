use Rattle.std.proofs.Common.{rules, w64}
use Rattle.std.proofs.lemmas.Int.{to_z-of_z}
use mir.Val.{SFits}
use Rattle.mz_model.proofs.Steps.{world_is}
use Rattle.mz_model.proofs.declarations.world_in.Goals as goal

pub returns : goal.returns
returns c r =
    let t = c.args.task.now in
    let fits : SFits w64 t.int_range = search rules in
    world_is t c.args.names.now _ r (to_z-of_z w64 t.int_range fits) c.requires
