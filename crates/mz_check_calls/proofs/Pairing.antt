-- Candidates from two lists of one length.
use Rattle.std.proofs.Common.{◌≡◌, ℕ, zero, suc, ◌≤◌, List, [], ◌∷◌, ◌++◌, Option, Some, None, refl, ap, map, length, arith}
use Rattle.std.specs.Prelude.{slice_get}
use Rattle.mz_core.specs.declared.types.Signature.{Signature}
use Rattle.mz_core.specs.Types.{PlainSignature, plain_signature}
use Rattle.mz_check_meaning.specs.declared.callee.Callee.{Callee}
use Rattle.mz_check_meaning.specs.Calls.{Candidate}
use Rattle.mz_check_calls.specs.Pairs.{paired}

-- one more at the end of both
pub paired_more : (cs : List Callee) (ss : List Signature) (c : Callee) (s : Signature) → length cs ≡ length ss
    → paired (cs ++ c ∷ []) (ss ++ s ∷ []) ≡ paired cs ss ++ record { callee = c; signature = plain_signature s } ∷ []
unfolding paired
paired_more [] [] c s same = refl
paired_more [] (t ∷ ss) c s same = absurd (omega (arith, same))
paired_more (d ∷ cs) [] c s same = absurd (omega (arith, same))
paired_more (d ∷ cs) (t ∷ ss) c s same =
    let rest : length cs ≡ length ss = omega (arith, same) in
    ap (λ (l : List Candidate). record { callee = d; signature = plain_signature t } ∷ l) (paired_more cs ss c s rest)

pub paired_none : (ss : List Signature) → paired [] ss ≡ []
unfolding paired
paired_none ss = refl

pub paired_signatures : (cs : List Callee) (ss : List Signature) → length cs ≡ length ss → map (λ c. c.signature) (paired cs ss) ≡ map plain_signature ss
unfolding paired
paired_signatures [] [] same = refl
paired_signatures [] (t ∷ ss) same = absurd (omega (arith, same))
paired_signatures (d ∷ cs) [] same = absurd (omega (arith, same))
paired_signatures (d ∷ cs) (t ∷ ss) same =
    let rest : length cs ≡ length ss = omega (arith, same) in
    ap (λ (l : List PlainSignature). plain_signature t ∷ l) (paired_signatures cs ss rest)

abbrev value_or : {A : Type 0} → A → Option A → A
value_or d None = d
value_or d (Some x) = x

-- what stands at a place of both
pub paired_at : (cs : List Callee) (ss : List Signature) (k : ℕ) (c : Callee) (s : Signature) → slice_get cs k ≡ Some c → slice_get ss k ≡ Some s
    → slice_get (paired cs ss) k ≡ Some (record { callee = c; signature = plain_signature s })
unfolding paired
paired_at [] ss k c s at also = absurd (cc)
paired_at (d ∷ cs) [] k c s at also = absurd (cc)
paired_at (d ∷ cs) (t ∷ ss) zero c s at also =
    let one : d ≡ c = ap (value_or c) at in
    let two : t ≡ s = ap (value_or s) also in
    (λ j. Some (record { callee = one j; signature = plain_signature (two j) }))
paired_at (d ∷ cs) (t ∷ ss) (suc k) c s at also = paired_at cs ss k c s at also

pub paired_past : (cs : List Callee) (ss : List Signature) (k : ℕ) → length cs ≤ k → slice_get (paired cs ss) k ≡ None
unfolding paired
paired_past [] ss k past = refl
paired_past (d ∷ cs) [] k past = refl
paired_past (d ∷ cs) (t ∷ ss) zero past = absurd (omega (arith, past))
paired_past (d ∷ cs) (t ∷ ss) (suc k) past = paired_past cs ss k (omega (arith, past))
