use Rattle.mz_arena.specs.Instances.{model_var}
use Rattle.mz_print_model.specs.Shapes.{IsVarNamed}
use Rattle.mz_print_model.proofs.Reading.{all_seen_at}
use Rattle.mz_print_model.proofs.making.shapes.Goals as goal

pub shape-requires : goal.shape-requires
shape-requires c = all_seen_at model_var (IsVarNamed c.args.names.now) c.args.vars.now c.loop-var.var-index c.var-item.result c.requires c.loop-var-test.true c.var-item.is
