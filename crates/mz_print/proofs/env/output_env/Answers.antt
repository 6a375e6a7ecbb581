use Rattle.std.proofs.Common.{map, refl}
use Rattle.mz_value.specs.Contents.{content}
use Rattle.mz_eval_scopes.specs.Views.{env_cells}
use Rattle.mz_print.specs.Output.{variable_slots}
use Rattle.mz_print.specs.Names.{top_names}
use Rattle.mz_print.proofs.Environments.{env_begins, env_goes_on, env_ends}
use Rattle.mz_print.proofs.env.output_env.Goals as goal

pub loop-turn-init : goal.loop-turn-init
loop-turn-init c = env_begins (variable_slots (top_names c.args.names.now)) (map content c.args.values.now) c.args.names.now (env_cells c.new-env.result) c.new-env.ensures

pub loop-turn-preserved : goal.loop-turn-preserved
loop-turn-preserved c =
    env_goes_on (variable_slots (top_names c.args.names.now)) (map content c.args.values.now) c.args.names.now c.args.places.now (env_cells c.loop-turn.env) (env_cells c.set_name.new.env) c.loop-turn.turn _ c.index-names-k.result _ c.loop-turn-test.true refl c.index-names-k.is c.requires.placed c.in_ok-set_name.ensures c.loop-turn.invariant

pub returns : goal.returns
returns c = env_ends (variable_slots (top_names c.args.names.now)) (map content c.args.values.now) c.args.names.now (env_cells c.loop-turn.env) c.loop-turn.turn c.loop-turn-test.false c.loop-turn.invariant
