-- A source, piece by piece.
use Rattle.std.proofs.Common.{◌≡◌, ◌∙◌, ℕ, ◌<◌, ◌≤◌, ◌+◌, List, [], ◌++◌, length, take, drop, Some, None, refl, sym, ap, arith, subst, append_assoc}
use Rattle.std.proofs.lemmas.List.{append-nil, length-append, length-take-le}
use Rattle.std.proofs.Math.Seq.{take-append_seam}
use Rattle.mz_io.specs.Source.{Left, Gives}
use Rattle.mz_io.specs.declared.source.Took.TheVariants as took
use Rattle.mz_io.specs.AllBytes.{HasAll, HasMore, Took}

took_none : (source : Left) → Took source source []
took_none None = refl
took_none (Some left) = (left, refl, refl)

pub took_first : (source : Left) (taken : List ℕ) → taken ≡ [] → Took source source taken
took_first source taken none = subst (λ cs. Took source source cs) (sym none) (took_none source)

pub took_more : (source left new : Left) (taken buf more all : List ℕ) (n : ℕ) → Took source left taken → Gives left new buf (took.Some n) → more ≡ take n buf → all ≡ taken ++ more → Took source new all
took_more None left new taken buf more all n g h is joined = subst (λ l. Gives l new buf (took.Some n)) g h
took_more (Some whole) left new taken buf more all n g h is joined =
    let k : Gives (Some g.0) new buf (took.Some n) = subst (λ l. Gives l new buf (took.Some n)) g.2 h in
    let same : taken ++ take n buf ≡ all = ap (λ cs. taken ++ cs) (sym is) ∙ sym joined in
    (k.0, g.1 ∙ (ap (λ cs. taken ++ cs) k.1 ∙ (sym (append_assoc taken (take n buf) k.0) ∙ ap (λ cs. cs ++ k.0) same)), k.2)

pub took_all : (source left new : Left) (taken buf : List ℕ) → Took source left taken → Gives left new buf took.End → HasAll source new taken
took_all None left new taken buf g h = subst (λ l. Gives l new buf took.End) g h
took_all (Some all) left new taken buf g h =
    let k : Gives (Some g.0) new buf took.End = subst (λ l. Gives l new buf took.End) g.2 h in
    (g.1 ∙ (ap (λ cs. taken ++ cs) k.0 ∙ append-nil taken), k.1)

-- more is taken than there may be
pub has_more : (source left new : Left) (taken buf : List ℕ) (n room limit : ℕ) → Took source left taken → Gives left new buf (took.Some n) → n ≤ length buf → length taken + room ≡ limit → room < n → HasMore source limit
has_more None left new taken buf n room limit g h fits counted more = tt
has_more (Some all) left new taken buf n room limit g h fits counted more =
    let k : Gives (Some g.0) new buf (took.Some n) = subst (λ l. Gives l new buf (took.Some n)) g.2 h in
    let l : length all ≡ length taken + (n + length k.0) =
    ap length (g.1 ∙ ap (λ cs. taken ++ cs) k.1)
    ∙ (length-append taken (take n buf ++ k.0)
    ∙ ap (λ m. length taken + m) (length-append (take n buf) k.0 ∙ ap (λ m. m + length k.0) (length-take-le n buf fits))) in
    omega (arith, l, counted, more)

-- the buffer after bytes were taken into it, and what is appended of it
buffer_is : (n : ℕ) (new old : List ℕ) → n ≡ length new → take n (new ++ drop (length new) old) ≡ new
buffer_is n new old size = ap (λ k. take k (new ++ drop (length new) old)) size ∙ take-append_seam new (drop (length new) old)

pub buffer_length : (n : ℕ) (new old : List ℕ) → n ≡ length new → length (take n (new ++ drop (length new) old)) ≡ length new
buffer_length n new old size = ap length (buffer_is n new old size)

pub taken_slice : (w n : ℕ) (new old all : List ℕ) → all ≡ take n (new ++ drop (length new) old) → n ≡ length new → take w all ≡ take w new
taken_slice w n new old all is size = ap (λ cs. take w cs) (is ∙ buffer_is n new old size)

pub appended_length : (taken more all buf : List ℕ) (n : ℕ) → more ≡ take n buf → n ≤ length buf → all ≡ taken ++ more → length all ≡ length taken + n
appended_length taken more all buf n is fits joined = ap length joined ∙ (length-append taken more ∙ ap (λ m. length taken + m) (ap length is ∙ length-take-le n buf fits))
