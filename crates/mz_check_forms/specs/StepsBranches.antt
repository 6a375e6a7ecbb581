-- Mirror of src/branches.rt; private clauses only.
use Rattle.std.specs.Prelude.{Bool, List, [], ◌∷◌, Ok}
use Rattle.mz_core.specs.Types.{PlainType}
use Rattle.mz_core.specs.Tree.{Tree}
use Rattle.mz_check_meaning.specs.Tests.{Test, ◌>>=◌, loop}
use Rattle.mz_check_meaning.specs.Coerced.{condition, bool_type, made_var}
use Rattle.mz_check_meaning.specs.Arrays.{join_next}

-- a test whose value isn't wanted
abbrev pub passed : {A : Type 0} → Test A → Test (Unit {0})
passed test = test >>= λ _. Ok tt

-- the tests of all, in order
abbrev pub all_pass : {A B : Type 0} → (A → Test B) → List A → Test (Unit {0})
all_pass go [] = Ok tt
all_pass go (x ∷ xs) = passed (go x) >>= λ _. all_pass go xs

-- the join with more branches, and then with further ones
abbrev pub join_both : PlainType → List Tree → List Tree → Test PlainType
join_both t es fs = loop join_next t es >>= λ u. loop join_next u fs

-- the type of an `if` without `else`
abbrev pub bool_whole : Bool → List Tree → Test PlainType
bool_whole v es = all_pass condition es >>= λ _. Ok (made_var v bool_type)
