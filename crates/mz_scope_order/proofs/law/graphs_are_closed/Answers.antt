use Rattle.mz_scope_order.proofs.Closing as closing
use Rattle.mz_scope_order.proofs.law.graphs_are_closed.Goals as goal

pub returns-clause-uses : goal.returns-clause-uses
returns-clause-uses c = λ decls functions calls mentions decl_calls decl_mentions types d k. closing.uses decls functions calls mentions decl_calls decl_mentions types d k

pub returns-clause-types : goal.returns-clause-types
returns-clause-types c = λ decls functions calls mentions decl_calls decl_mentions types d k. closing.types_closed decls functions calls mentions decl_calls decl_mentions types d k
