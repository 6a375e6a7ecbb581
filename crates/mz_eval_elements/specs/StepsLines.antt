-- Mirror of src/nodes.rt and src/values.rt; private clauses only.
use Rattle.std.specs.Prelude.{◌≡◌, ℕ, ℤ, Bool, true, false, List, map, Some}
use Rattle.mz_value.specs.declared.value.Value.{Value}
use Rattle.mz_value.specs.Contents.{content}
use Rattle.mz_arena.specs.declared.node.Node.{Node}
use Rattle.mz_arena.specs.declared.node.NodeKind.{NodeKind}
use Rattle.mz_arena.specs.declared.node.NodeKind.TheVariants.{Int, Bool as BoolNode}
use Rattle.mz_arena.specs.Values.{Term}
use Rattle.mz_symbol.specs.declared.types.Symbol.{Symbol}
use Rattle.mz_symbol.specs.Symbols.{symbol_value}

-- an integer, or a truth value
abbrev pub is_literal : NodeKind → Bool
is_literal Int = true
is_literal BoolNode = true
is_literal k = false

pub record IsLiteral (n : Node) (m : ℤ) : Type 0 where
  pub kind : is_literal n.kind ≡ true
  pub number : n.number ≡ m

-- symbols are these values, one by one
abbrev pub Show : (ℕ → Term) → List Symbol → List Value → Type 0
Show t ss vs = map (symbol_value t) ss ≡ map (λ v. Some (content v)) vs
