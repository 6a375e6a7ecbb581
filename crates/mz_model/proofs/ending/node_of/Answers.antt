use Rattle.std.proofs.Common.{sym, subst}
use Rattle.mz_symbol.specs.Readings.{state_of}
use Rattle.mz_model_names.specs.Named.{view_if}
use Rattle.mz_model.specs.Ending.{IsAimOf}
use Rattle.mz_model.proofs.Steps.{nothing, out_state}
use Rattle.mz_model.proofs.ending.node_of.Goals as goal

pub returns-clause-same : goal.returns-clause-same
returns-clause-same c = λ r h. out_state nothing nothing (state_of r c.args.run.now) (state_of r c.aim.new.run) (c.in-Ok.ensures.stays r h)

pub returns-clause-aims : goal.returns-clause-aims
returns-clause-aims c = subst (λ k. IsAimOf c.aim.new.run (view_if k) c.in-Ok.id) (sym c.in-Some.is) c.in-Ok.ensures.aims
