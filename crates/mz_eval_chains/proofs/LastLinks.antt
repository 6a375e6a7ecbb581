-- The base of an operator's right operand: that of its last coercion.
use Rattle.std.proofs.lemmas.List.{append-nil}
use Rattle.std.proofs.Common.{◌≡◌, ◌∙◌, ℕ, zero, suc, ◌-◌, Bor, Option, Some, None, List, [], ◌∷◌, ◌++◌, length, slice_get, sym, ap, arith}
use Rattle.std.specs.Option.{option_copied}
use Rattle.mz_core.specs.declared.types.Coercion.{Coercion}
use Rattle.mz_core.specs.declared.types.TypeInst.{TypeInst}
use Rattle.mz_core.specs.Types.{PlainType, plain_type}
use Rattle.mz_core.specs.Coercions.{PathLink}
use Rattle.mz_core.specs.Paths.{path_links}
use Rattle.mz_meaning.specs.Coerced.{coerced_type}

type_at_end : (t : PlainType) (xs : List (Coercion × TypeInst)) (n : ℕ) (x : Coercion × TypeInst) → suc n ≡ length xs → slice_get xs n ≡ Some x → coerced_type t (path_links xs) ≡ plain_type x.1
type_at_end t [] n x h e = absurd (omega arith)
type_at_end t (y ∷ []) zero x h e =
    let same : y ≡ x = cc in
    ap (λ z. plain_type z.1) same
type_at_end t (y ∷ []) (suc n) x h e = absurd (omega arith)
type_at_end t (y ∷ z ∷ xs) zero x h e = absurd (omega arith)
type_at_end t (y ∷ z ∷ xs) (suc n) x h e = type_at_end (plain_type y.1) (z ∷ xs) n x (omega arith) e

type_after_all : (t : PlainType) (ls : List PathLink) (xs : List (Coercion × TypeInst)) (n : ℕ) (x : Coercion × TypeInst) → suc n ≡ length xs → slice_get xs n ≡ Some x → coerced_type t (ls ++ path_links xs) ≡ plain_type x.1
type_after_all t [] xs n x h e = type_at_end t xs n x h e
type_after_all t (l ∷ ls) xs n x h e = type_after_all l.1 ls xs n x h e

-- a list whose last element is there, or isn't
at_end : (xs : List (Coercion × TypeInst)) (x : Coercion × TypeInst) → slice_get xs (length xs - 1) ≡ Some x → suc (length xs - 1) ≡ length xs
at_end [] x e = absurd (cc)
at_end (y ∷ xs) x e = omega arith

is_there : (n : ℕ) (zs : List (Coercion × TypeInst)) → suc n ≡ length zs → slice_get zs n ≡ None → ⊥
is_there n [] h e = absurd (omega arith)
is_there zero (z ∷ zs) h e = absurd (cc)
is_there (suc n) (z ∷ zs) h e = is_there n zs (omega arith) e

type_after_none : (t : PlainType) (ls : List PathLink) (xs : List (Coercion × TypeInst)) → slice_get xs (length xs - 1) ≡ None → coerced_type t (ls ++ path_links xs) ≡ coerced_type t ls
type_after_none t ls [] e = ap (coerced_type t) (append-nil ls)
type_after_none t ls (y ∷ xs) e = absurd (is_there (length (y ∷ xs) - 1) (y ∷ xs) (omega arith) e)

pub base_at_end : (t : PlainType) (ls : List PathLink) (xs slice : List (Coercion × TypeInst)) (o : Option (Bor (Coercion × TypeInst))) (l : Bor (Coercion × TypeInst)) → slice ≡ xs → option_copied o ≡ slice_get slice (length slice - 1) → o ≡ Some l → l.now.1.base ≡ (coerced_type t (ls ++ path_links xs)).base
unfolding plain_type
base_at_end t ls xs slice o l s h e =
    let read : slice_get slice (length slice - 1) ≡ Some l.now = sym h ∙ ap option_copied e in
    sym (ap (λ zs. (coerced_type t (ls ++ path_links zs)).base) (sym s)
    ∙ ap (λ (z : PlainType). z.base) (type_after_all t ls slice (length slice - 1) l.now (at_end slice l.now read) read))

pub base_before_end : (t : PlainType) (ls : List PathLink) (xs slice : List (Coercion × TypeInst)) (o : Option (Bor (Coercion × TypeInst))) → slice ≡ xs → option_copied o ≡ slice_get slice (length slice - 1) → o ≡ None → (coerced_type t ls).base ≡ (coerced_type t (ls ++ path_links xs)).base
base_before_end t ls xs slice o s h e =
    let read : slice_get slice (length slice - 1) ≡ None = sym h ∙ ap option_copied e in
    sym (ap (λ zs. (coerced_type t (ls ++ path_links zs)).base) (sym s)
    ∙ ap (λ (z : PlainType). z.base) (type_after_none t ls slice read))
