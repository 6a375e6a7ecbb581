-- The contexts of a chain's operands, of which each depends on all later operators.
use Rattle.std.specs.Prelude.{◌≡◌, Bool, true, false, List, [], ◌∷◌, ◌++◌, Vec, map}
use Rattle.std.specs.Global.{Global}
use Rattle.mz_meaning.specs.Contexts as contexts
use Rattle.mz_meaning.specs.Contexts.{Untested, Positive, Other}
use Rattle.mz_meaning.specs.Chains.{Operator, before, before_all}
use Rattle.mz_eval_scopes.specs.declared.types.Context.{Context}
use Rattle.mz_eval_scopes.specs.Seen.{ctx_of}

-- of a chain in a positive place: the contexts of the nodes of these operators, the last one's first
abbrev pub later_all : List Operator → List contexts.Context
later_all [] = []
later_all (o ∷ os) = later_all os ++ before_all os ∷ []

-- none where all operands have the chain's context
abbrev pub later : contexts.Context → List Operator → List contexts.Context
later Untested os = []
later Positive os = later_all os
later Other os = []

-- the context before these operators, and those of their nodes
pub record IsLater (ctx : contexts.Context) (os : List Operator) (p : Context × Vec Context Global) : Type 0 where
  pub first : ctx_of p.0 ≡ before ctx os
  pub nodes : map ctx_of p.1.items ≡ later ctx os

-- all parts have the same context
abbrev pub settled : contexts.Context → Bool
settled Untested = true
settled Positive = false
settled Other = true
