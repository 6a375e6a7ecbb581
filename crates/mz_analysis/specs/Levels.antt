-- That the library's operators have the levels of the grammar.
use Rattle.std.specs.Prelude.{◌≡◌, ℕ, Bool, true, false, List, [], ◌∷◌, filter, map, nat_eq, nat_lt, IfSome}
use Rattle.std.specs.List.{list_all}
use Rattle.mz_lexer.specs.declared.token.Tok.{Tok}
use Rattle.mz_grammar.specs.Operators.{operator_in, level_number}
use Rattle.mz_operations.specs.Lines.{lines, has_name}
use Rattle.mz_check_meaning.specs.Chains.{operator_name}

-- the levels of the lines with this name that are binary operators
unfoldable pub levels_of : List ℕ → List ℕ
levels_of name = filter (nat_lt 0) (map (λ l. l.level) (filter (has_name name) lines))

-- one line at least, and each of this level
abbrev pub are_all : ℕ → List ℕ → Bool
are_all level [] = false
are_all level (l ∷ ls) = list_all (nat_eq level) (l ∷ ls)

-- the lines of each operator that the grammar reads have the level at which it reads it
abbrev pub AreTheGrammars : Type 0
AreTheGrammars = (t : Tok) → IfSome (operator_in t) (λ o. are_all (level_number o.0) (levels_of (operator_name o.1)) ≡ true)
