use Rattle.std.proofs.Common.{refl, true}
use Rattle.mz_eval_cells.specs.Views.{seen}
use Rattle.mz_eval.specs.Levels.{scope_of, world_in}
use Rattle.mz_eval.proofs.NameLaws.{named}
use Rattle.mz_eval.proofs.forms.slot_cell.Goals as goal

pub returns-then-stays : goal.returns-then-stays
returns-then-stays c r ctx x =
    let l = c.args.level.now in
    named (world_in r l) l.left ctx c.args.e.now c.args.slot (scope_of r l c.args.scope.now) (seen r c.in-Some.k.now) x c.if-level-eq0.false c.requires (c.in-Some.ensures (seen r)) (c.if-stays.ensures.seen refl r true)
