use Rattle.mz_model_names.specs.Named.{held_name}
use Rattle.mz_model.proofs.declarations.add_name.Goals as goal

pub returns-clause-added : goal.returns-clause-added
returns-clause-added c = record { name = held_name c.in_ok-h.h; is = c.in_ok-with_name.ensures.names; made = c.in_ok-h.ensures.name; slot = c.in_ok-h.ensures.slot }
