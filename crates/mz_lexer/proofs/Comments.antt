-- Where a comment ends, a byte at a time.
use Rattle.std.proofs.Common.{◌≡◌, ℕ, suc, ◌+◌, ◌<◌, ◌≤◌, List, [], ◌∷◌, length, drop, true, false, cond, refl, sym, ap, ◌∙◌, arith}
use Rattle.std.specs.Prelude.{Option, Some, None}
use Rattle.std.specs.Option.{option_map}
use Rattle.std.proofs.lemmas.List.{drop_all}
use Rattle.mz_lexer.specs.Steps.{comment_len, ends_comment}
use Rattle.mz_lexer.proofs.Contents.{at_place}

-- this many bytes more
abbrev pub farther : ℕ → Option ℕ → Option ℕ
farther k None = None
farther k (Some n) = Some (k + n)

pub no_farther : (o : Option ℕ) → farther 0 o ≡ o
no_farther None = refl
no_farther (Some n) = ap Some (omega arith)

one_farther : (k : ℕ) (o : Option ℕ) → farther (k + 1) o ≡ farther k (option_map suc o)
one_farther k None = refl
one_farther k (Some n) = ap Some (omega arith)

comment_cons : (b : ℕ) (bs : List ℕ) → comment_len (b ∷ bs) ≡ cond (ends_comment (b ∷ bs)) (Some 2) (option_map suc (comment_len bs))
unfolding comment_len
comment_cons b bs = refl

comment_at : (bs : List ℕ) (i : ℕ) → i < length bs → comment_len (drop i bs) ≡ cond (ends_comment (drop i bs)) (Some 2) (option_map suc (comment_len (drop (i + 1) bs)))
comment_at bs i below = rw (at_place bs i below) (comment_cons _ _)

pub ends_at : (bs : List ℕ) (i : ℕ) → i < length bs → ends_comment (drop i bs) ≡ true → farther i (comment_len (drop i bs)) ≡ Some (i + 2)
ends_at bs i below is = ap (farther i) (comment_at bs i below ∙ ap (λ t. cond t (Some 2) (option_map suc (comment_len (drop (i + 1) bs)))) is)

pub goes_on_at : (bs : List ℕ) (i : ℕ) → i < length bs → ends_comment (drop i bs) ≡ false → farther (i + 1) (comment_len (drop (i + 1) bs)) ≡ farther i (comment_len (drop i bs))
goes_on_at bs i below isnt =
    one_farther i (comment_len (drop (i + 1) bs)) ∙ ap (farther i) (sym (comment_at bs i below ∙ ap (λ t. cond t (Some 2) (option_map suc (comment_len (drop (i + 1) bs)))) isnt))

comment_none : comment_len [] ≡ None
unfolding comment_len
comment_none = refl

pub no_end : (bs : List ℕ) (i : ℕ) → length bs ≤ i → farther i (comment_len (drop i bs)) ≡ None
no_end bs i le = rw (drop_all i bs le, comment_none) refl
