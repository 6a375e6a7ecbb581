use Rattle.std.proofs.Common.{map, subst}
use Rattle.mz_arena.specs.Instances.{model_var}
use Rattle.flat_meaning.specs.Front.{AreNamed}
use Rattle.cases_flatten.proofs.answer.print_flattened.Goals as goal

pub flatten-requires-clause-instance : goal.flatten-requires-clause-instance
flatten-requires-clause-instance c = c.in-Ok.ensures c.if-not-sound.false

pub flatten-requires-clause-named : goal.flatten-requires-clause-named
flatten-requires-clause-named c = subst (λ xs. AreNamed c.args.names.now (map model_var xs)) c.as_slice-vars.ensures.value (c.are_named.ensures c.if-not-are_named.false)
