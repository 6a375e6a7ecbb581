use Rattle.std.proofs.Common.{◌≡◌, string_bytes}
use Rattle.fz_program.proofs.Each.{each_all}
use Rattle.cases_instances.proofs.Named.{lacks_text}
use Rattle.cases_instances.proofs.names.is_among.Goals as goal

pub returns : goal.returns
returns c = λ f. lacks_text c.args.texts.now c.args.x.now (each_all (λ y. string_bytes y ≡ c.args.x.now → ⊥) c.args.texts.now c.texts.y-index c.texts-test.false c.texts.invariant)
