use Rattle.mz_scope_order.proofs.Building as building
use Rattle.mz_scope_order.proofs.law.graphs_are_faithful.Goals as goal

pub returns-clause-calls : goal.returns-clause-calls
returns-clause-calls c = λ decls functions calls mentions decl_calls decl_mentions types d k. building.faithful decls functions calls mentions decl_calls decl_mentions types d k

pub returns-clause-types : goal.returns-clause-types
returns-clause-types c = λ decls functions calls mentions decl_calls decl_mentions types d k. building.faithful_types decls functions calls mentions decl_calls decl_mentions types d k
