use Rattle.mz_scope_order.proofs.Answering as answering
use Rattle.mz_scope_order.proofs.law.answers_by_uses.Goals as goal

pub returns-clause-sequence : goal.returns-clause-sequence
returns-clause-sequence c = λ decls functions calls mentions decl_calls decl_mentions types order d k w none parts. answering.in_sequence decls functions calls mentions decl_calls decl_mentions types d k order w none parts

pub returns-clause-stuck : goal.returns-clause-stuck
returns-clause-stuck c = λ decls functions calls mentions decl_calls decl_mentions types e d k s. answering.stuck decls functions calls mentions decl_calls decl_mentions types d k e s

pub returns-clause-back : goal.returns-clause-back
returns-clause-back c = λ decls functions calls mentions decl_calls decl_mentions types order f d k w b. answering.back decls functions calls mentions decl_calls decl_mentions types d k order f w b
