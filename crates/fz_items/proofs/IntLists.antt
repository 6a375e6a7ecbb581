-- A loop that reads integers.
use Rattle.std.proofs.Common.{◌≡◌, ℕ, zero, suc, ◌<◌, ◌≤◌, List, [], ◌∷◌, ◌++◌, ℤ, length, refl, sym, ap, ◌∙◌, arith, Option, Some, None, append_assoc}
use Rattle.std.specs.Prelude.{codes}
use Rattle.fz_items.specs.Gives.{Fails}
use Rattle.fz_items.specs.declared.miss.Miss.{Miss}
use Rattle.fz_items.specs.declared.miss.Miss.TheVariants.{Unfit, Memory}
use Rattle.fz_items.specs.Items.{Read, int_at, ints_at, after, with_first, ◌>>=◌}

abbrev pub with_all : List ℤ → Read (List ℤ) → Read (List ℤ)
with_all prefix None = None
with_all prefix (Some r) = Some (prefix ++ r.0, r.1)

-- the integers so far, with what the rest is read to, are what all is read to
pub record HasRead (start : List ℕ) (prefix : List ℤ) (rest : List ℕ) : Type 0 where
  pub most : ℕ
  pub enough : length rest ≤ most
  pub reads : with_all prefix (ints_at most rest) ≡ ints_at (length start) start

with_none : (r : Read (List ℤ)) → with_all [] r ≡ r
with_none None = refl
with_none (Some r) = refl

pub begins : (start : List ℕ) → HasRead start [] start
begins start = record { most = length start; enough = omega arith; reads = with_none (ints_at (length start) start) }

none_at : (most : ℕ) (bs : List ℕ) → int_at bs ≡ None → ints_at most bs ≡ None
unfolding ints_at
none_at zero bs e = refl
none_at (suc most) bs e = rw e refl

pub fails : (start : List ℕ) (prefix : List ℤ) (rest : List ℕ) → HasRead start prefix rest → int_at rest ≡ None → ints_at (length start) start ≡ None
fails start prefix rest h e = sym h.reads ∙ ap (with_all prefix) (none_at h.most rest e)

last_at : (most : ℕ) (bs behind : List ℕ) (x : ℤ) → 0 < most → int_at bs ≡ Some (x, behind) → after (codes ",") behind ≡ None → ints_at most bs ≡ Some (x ∷ [], behind)
unfolding ints_at
last_at zero bs behind x some e n = absurd (omega arith)
last_at (suc most) bs behind x some e n = rw e (rw n refl)

pub ends : (start : List ℕ) (prefix : List ℤ) (rest behind : List ℕ) (x : ℤ) → HasRead start prefix rest → length behind < length rest → int_at rest ≡ Some (x, behind) → after (codes ",") behind ≡ None → ints_at (length start) start ≡ Some (prefix ++ x ∷ [], behind)
ends start prefix rest behind x h shorter e n =
    sym h.reads ∙ ap (with_all prefix) (last_at h.most rest behind x (omega (arith, h.enough)) e n)

joined_all : (prefix : List ℤ) (x : ℤ) (r : Read (List ℤ)) → with_all (prefix ++ x ∷ []) r ≡ with_all prefix (r >>= λ xs. Some (with_first x xs))
joined_all prefix x None = refl
joined_all prefix x (Some r) = rw append_assoc refl

more_at : (most : ℕ) (bs behind next : List ℕ) (x : ℤ) → int_at bs ≡ Some (x, behind) → after (codes ",") behind ≡ Some next → ints_at (suc most) bs ≡ (ints_at most next >>= λ xs. Some (with_first x xs))
unfolding ints_at
more_at most bs behind next x e n = rw e (rw n refl)

goes_from : (most : ℕ) (start : List ℕ) (prefix : List ℤ) (rest behind next : List ℕ) (x : ℤ) → length rest ≤ most → with_all prefix (ints_at most rest) ≡ ints_at (length start) start → length next < length rest → int_at rest ≡ Some (x, behind) → after (codes ",") behind ≡ Some next → HasRead start (prefix ++ x ∷ []) next
goes_from zero start prefix rest behind next x enough reads shorter e n = absurd (omega arith)
goes_from (suc most) start prefix rest behind next x enough reads shorter e n = record {
  most = most;
  enough = omega arith;
  reads = joined_all prefix x (ints_at most next) ∙ ap (with_all prefix) (sym (more_at most rest behind next x e n)) ∙ reads;
}

pub goes_on : (start : List ℕ) (prefix : List ℤ) (rest behind next : List ℕ) (x : ℤ) → HasRead start prefix rest → length next < length rest → int_at rest ≡ Some (x, behind) → after (codes ",") behind ≡ Some next → HasRead start (prefix ++ x ∷ []) next
goes_on start prefix rest behind next x h shorter e n = goes_from h.most start prefix rest behind next x h.enough h.reads shorter e n

-- what fails where another reading fails
pub fails_along : {X Y : Type 0} (miss : Miss) (a : Option X) (b : Option Y) → Fails miss a → (a ≡ None → b ≡ None) → Fails miss b
fails_along Unfit a b h f = f h
fails_along Memory a b h f = tt
