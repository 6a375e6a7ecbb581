-- Functions with parameters have names of the table and numbers of the model.
use Rattle.std.proofs.Common.{◌≡◌, ℕ, suc, ◌+◌, ◌<◌, ◌≤◌, Bool, true, false, List, [], ◌∷◌, ◌++◌, length, get_or, sym, subst, arith}
use Rattle.std.specs.Prelude.{All}
use Rattle.std.specs.List.{flat_map, enumerate_from}
use Rattle.std.proofs.lemmas.List.Elements.{All-nil, All-cons}
use Rattle.mz_tree.specs.Items.{FunctionTree}
use Rattle.mz_scope_names.specs.Sketches.{has_parameters}
use Rattle.mz_scope_order.specs.Scoped.{ScopedTree}
use Rattle.mz_check_meaning.specs.Checks.{numbered, applied_name, with_parameters}
use Rattle.mz_check_exprs.specs.NamedModels.{IsNamedFunction, AreNamed}

pub record IsCounted (k n : ℕ) (f : ℕ × ℕ) : Type 0 where
  pub name : f.0 < k
  pub number : f.1 < n

one_or_none : (k n : ℕ) (b : Bool) (i name : ℕ) (rest : List (ℕ × ℕ)) → name < k → i < n → All (IsCounted k n) rest → All (IsCounted k n) (applied_name b i name ++ rest)
one_or_none k n true i name rest named counted more = All-cons (IsCounted k n) (name, i) rest (record { name = named; number = counted }) more
one_or_none k n false i name rest named counted more = more

all_from : (k n i : ℕ) (fs : List FunctionTree) → All (IsNamedFunction k) fs → i + length fs ≤ n → All (IsCounted k n) (flat_map with_parameters (enumerate_from i fs))
all_from k n i [] named fits = All-nil (IsCounted k n)
all_from k n i (f ∷ fs) named fits =
    one_or_none k n (has_parameters f.params) i f.name (flat_map with_parameters (enumerate_from (i + 1) fs))
    (named 0 f (omega arith)).name (omega (arith, fits))
    (all_from k n (i + 1) fs (λ j d low. named (suc j) d (omega (arith, low))) (omega (arith, fits)))

pub all_counted : (k : ℕ) (s : ScopedTree) → AreNamed k s → All (IsCounted k (length s.functions)) (flat_map with_parameters (numbered s.functions))
all_counted k s named = all_from k (length s.functions) 0 s.functions named.functions (omega arith)

-- one of the code's list of them
pub counted_item : (k : ℕ) (s : ScopedTree) (fs : List (ℕ × ℕ)) (i : ℕ) (f : ℕ × ℕ) → AreNamed k s → fs ≡ flat_map with_parameters (numbered s.functions) → i < length fs → f ≡ get_or fs i f → IsCounted k (length s.functions) f
counted_item k s fs i f named is low at =
    let all : All (IsCounted k (length s.functions)) fs = subst (λ (gs : List (ℕ × ℕ)). All (IsCounted k (length s.functions)) gs) (sym is) (all_counted k s named) in
    subst (λ (g : ℕ × ℕ). IsCounted k (length s.functions) g) (sym at) (all i f low)
