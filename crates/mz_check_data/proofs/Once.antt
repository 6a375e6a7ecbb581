-- Names that are kept once each are those that are there.
use Rattle.std.proofs.Common.{ℕ, suc, ◌+◌, Bool, true, false, cond, List, [], ◌∷◌, ◌++◌, arith}
use Rattle.std.specs.Prelude.{All}
use Rattle.std.proofs.lemmas.List.Elements.{All-nil, All-cons, All-append}
use Rattle.mz_scope_names.specs.Sets.{holds, with_name}
use Rattle.mz_check_meaning.specs.Texts.{once}

one_kept : (P : ℕ → Type 0) (b : Bool) (n : ℕ) (ns : List ℕ) → P n → All P ns → All P (cond b ns (ns ++ n ∷ []))
one_kept P true n ns one all = all
one_kept P false n ns one all = All-append P ns (n ∷ []) all (All-cons P n [] one (All-nil P))

pub once_all : (P : ℕ → Type 0) (all ns : List ℕ) → All P all → All P ns → All P (once all ns)
unfolding once
once_all P all [] done rest = done
once_all P all (n ∷ ns) done rest = once_all P (with_name all n) ns (one_kept P (holds n all) n all (rest 0 n (omega arith)) done) (λ k d low. rest (suc k) d (omega (arith, low)))
