use Rattle.std.proofs.Common.{◌≡◌, ◌∙◌, [], map, sym, ap}
use Rattle.std.proofs.lemmas.List.{nil_from_length}
use Rattle.mz_eval_scopes.specs.Seen.{ctx_of}
use Rattle.mz_eval_chains.specs.Innermosts.{operator_of}
use Rattle.mz_eval_nodes.proofs.ContextLaws.{popped_none, popped_some}
use Rattle.mz_eval_nodes.proofs.contexts.node_within.Goals as goal

pub returns-in-None-clause-node : goal.returns-in-None-clause-node
returns-in-None-clause-node c =
    let none : c.args.stack.now.items ≡ [] = nil_from_length c.args.stack.now.items (sym c.args.stack.now.ok.0 ∙ c.in-None.ensures.cases.0) in
    (popped_none (ctx_of c.args.ctx) (operator_of c.args.o.now) (map operator_of c.args.rest.now) (sym (ap (map ctx_of) none) ∙ c.requires)).node

pub returns-in-None-clause-stack : goal.returns-in-None-clause-stack
returns-in-None-clause-stack c =
    let none : c.args.stack.now.items ≡ [] = nil_from_length c.args.stack.now.items (sym c.args.stack.now.ok.0 ∙ c.in-None.ensures.cases.0) in
    let left : c.pop.new.self.items ≡ [] = nil_from_length c.pop.new.self.items (sym c.pop.new.self.ok.0 ∙ c.in-None.ensures.cases.1) in
    ap (map ctx_of) left ∙ (popped_none (ctx_of c.args.ctx) (operator_of c.args.o.now) (map operator_of c.args.rest.now) (sym (ap (map ctx_of) none) ∙ c.requires)).left

pub returns-in-Some-clause-node : goal.returns-in-Some-clause-node
returns-in-Some-clause-node c = (popped_some (ctx_of c.args.ctx) (operator_of c.args.o.now) (map operator_of c.args.rest.now) c.pop.new.self.items c.in-Some.c (sym (ap (map ctx_of) c.in-Some.ensures.items) ∙ c.requires)).node

pub returns-in-Some-clause-stack : goal.returns-in-Some-clause-stack
returns-in-Some-clause-stack c = (popped_some (ctx_of c.args.ctx) (operator_of c.args.o.now) (map operator_of c.args.rest.now) c.pop.new.self.items c.in-Some.c (sym (ap (map ctx_of) c.in-Some.ensures.items) ∙ c.requires)).left
