use Rattle.mz_symbol.proofs.ReadingLaws.{kept_nodes, kept_choice}
use Rattle.mz_symbol.proofs.law.runs_are_kept.Goals as goal

pub returns-clause-nodes : goal.returns-clause-nodes
returns-clause-nodes c = kept_nodes

pub returns-clause-choice : goal.returns-clause-choice
returns-clause-choice c = kept_choice
