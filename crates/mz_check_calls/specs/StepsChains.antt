-- A chain that groups to the right, from its last operator on. Mirror of src/chains.rt; private clauses only.
use Rattle.std.specs.Prelude.{List, [], ◌∷◌, Ok}
use Rattle.mz_base.specs.declared.fault.Span.{Span}
use Rattle.mz_core.specs.Types.{PlainType}
use Rattle.mz_core.specs.Tree.{type_of}
use Rattle.mz_check_meaning.specs.Tests.{Test, ◌>>=◌}
use Rattle.mz_check_meaning.specs.Chains.{Operand, Chained, operated}

-- an operator before those that are typed
abbrev pub preceded : Span → PlainType → Operand → Chained → Test Chained
preceded at t o after = operated at o.operator t after.ty o.tree >>= λ s. Ok (record { ty = s.ty; done = s ∷ after.done })

-- these operators before those that are typed, where the operand before them has this place and this type
unfoldable pub all_preceded : Span → PlainType → List Operand → Chained → Test Chained
all_preceded at t [] after = Ok after
all_preceded at t (o ∷ os) after = all_preceded o.operator.start (type_of o.tree) os after >>= preceded at t o
