use Rattle.mz_symbol_access.proofs.LiftLaws.{replaces_themselves}
use Rattle.mz_symbol_access.proofs.lifting.alike_items.Goals as goal

pub returns-then-not-have_option-clause-replaces : goal.returns-then-not-have_option-clause-replaces
returns-then-not-have_option-clause-replaces c r h = replaces_themselves r c.args.run.now c.args.items.items
