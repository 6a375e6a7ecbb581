use Rattle.std.proofs.Common.{inl}
use Rattle.mz_arena.specs.Entries.{entry}
use Rattle.mz_arena.proofs.Put.{at_most_grew, at_most_extends, at_most_charges, last_of, last_made, last_at_most}
use Rattle.mz_arena.proofs.arena.Arena.intern.Goals as goal

pub returns-in-Ok-Some-clause-grew : goal.returns-in-Ok-Some-clause-grew
returns-in-Ok-Some-clause-grew c = at_most_grew c.args.self.now c.put.new.self (entry c.args.n) (last_at_most c.args.self.now c.put.new.self c.args.n c.in-Ok-Some.id (last_of c.args.self.now c.put.new.self c.args.n c.put.result c.in-Ok-Some.field-0 c.in-Ok-Some.id c.in-Ok-Some.is c.in-Ok-Some.field-0-is c.put.ensures))

pub returns-in-Ok-Some-clause-made : goal.returns-in-Ok-Some-clause-made
returns-in-Ok-Some-clause-made c = last_made c.args.self.now c.put.new.self c.args.n c.in-Ok-Some.id (last_of c.args.self.now c.put.new.self c.args.n c.put.result c.in-Ok-Some.field-0 c.in-Ok-Some.id c.in-Ok-Some.is c.in-Ok-Some.field-0-is c.put.ensures)

pub returns-in-Ok-Some-clause-frees : goal.returns-in-Ok-Some-clause-frees
returns-in-Ok-Some-clause-frees c = at_most_extends c.args.self.now c.put.new.self (entry c.args.n) (last_at_most c.args.self.now c.put.new.self c.args.n c.in-Ok-Some.id (last_of c.args.self.now c.put.new.self c.args.n c.put.result c.in-Ok-Some.field-0 c.in-Ok-Some.id c.in-Ok-Some.is c.in-Ok-Some.field-0-is c.put.ensures))

pub returns-in-Ok-Some-clause-charged : goal.returns-in-Ok-Some-clause-charged
returns-in-Ok-Some-clause-charged c = at_most_charges c.args.self.now c.put.new.self (entry c.args.n) (last_at_most c.args.self.now c.put.new.self c.args.n c.in-Ok-Some.id (last_of c.args.self.now c.put.new.self c.args.n c.put.result c.in-Ok-Some.field-0 c.in-Ok-Some.id c.in-Ok-Some.is c.in-Ok-Some.field-0-is c.put.ensures))

pub returns-in-Err-clause-frees : goal.returns-in-Err-clause-frees
returns-in-Err-clause-frees c = at_most_extends c.args.self.now c.put.new.self (entry c.args.n) (inl c.in-Err.ensures)
