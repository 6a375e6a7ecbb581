use Rattle.std.proofs.Common.{map, string_bytes}
use Rattle.mz_arena.specs.Instances.{model_var}
use Rattle.cases_instances.proofs.Named.{named_given}
use Rattle.cases_instances.proofs.names.are_named.Goals as goal

pub returns-then-have_names : goal.returns-then-have_names
returns-then-have_names c = λ t. named_given c.args.names.now (map model_var c.args.vars.now) (map string_bytes c.args.texts.now) (c.have_names.ensures.names c.if-have_names.true) (c.have_names.ensures.texts c.if-have_names.true) (c.are_distinct.ensures t)
