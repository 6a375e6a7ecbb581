-- What a source gave, and what it may still have.
use Rattle.std.proofs.Common.{◌≡◌, ℕ, zero, suc, ◌≤◌, ◌+◌, List, [], ◌∷◌, ◌++◌, length, take, min, Bool, true, false, leb, refl, sym, ap, ◌∙◌, arith, rules, tests, subst, Some, None, append_assoc}
use Rattle.std.proofs.lemmas.List.{append-nil, take_all, take-take, length-take}
use Rattle.std.proofs.Math.Seq.{take-append-add}
use Rattle.mz_io.specs.Source.{Left, Gives}
use Rattle.mz_io.specs.declared.source.Took.TheVariants as took
use Rattle.mz_print_stream.specs.Driving.{Agrees}
use Rattle.mz_print_stream.specs.Promises.{Has, Gave}

pub gave_none : (source : Left) → Gave source source []
gave_none None = refl
gave_none (Some left) = (left, refl, refl)

pub gave_more : (source left new : Left) (taken buf : List ℕ) (n : ℕ) → Gave source left taken → Gives left new buf (took.Some n) → Gave source new (taken ++ take n buf)
gave_more None left new taken buf n g h = subst (λ l. Gives l new buf (took.Some n)) g h
gave_more (Some all) left new taken buf n g h =
    let k : Gives (Some g.0) new buf (took.Some n) = subst (λ l. Gives l new buf (took.Some n)) g.2 h in
    (k.0, g.1 ∙ (ap (λ cs. taken ++ cs) k.1 ∙ sym (append_assoc taken (take n buf) k.0)), k.2)

pub gave_end : (source left new : Left) (taken buf : List ℕ) → Gave source left taken → Gives left new buf took.End → Gave source new taken × Has new []
gave_end None left new taken buf g h =
    let k : new ≡ None = subst (λ l. Gives l new buf took.End) g h in
    (k, subst (λ l. Has l []) (sym k) tt)
gave_end (Some all) left new taken buf g h =
    let k : Gives (Some g.0) new buf took.End = subst (λ l. Gives l new buf took.End) g.2 h in
    (([], g.1 ∙ ap (λ cs. taken ++ cs) k.0, k.1), subst (λ l. Has l []) (sym k.1) refl)

pub gave_failed : (source left new : Left) (taken buf : List ℕ) → Gave source left taken → Gives left new buf took.Failed → Gave source new taken
gave_failed None left new taken buf g h = subst (λ l. Gives l new buf took.Failed) g h
gave_failed (Some all) left new taken buf g h = (g.0, g.1, subst (λ l. Gives l new buf took.Failed) g.2 h)

-- all bytes that a source had
pub rest_of : (source left : Left) (taken : List ℕ) → Gave source left taken → (rest : List ℕ) × Has source (taken ++ rest) × (Has left [] → rest ≡ [])
rest_of None left taken g = ([], tt, λ h. refl)
rest_of (Some all) left taken g = (g.0, g.1, λ h. subst (λ l. Has l []) g.2 h)

-- the first bytes of a list begin with those of its front
pub take_front : (n : ℕ) (xs ys : List ℕ) → (more : List ℕ) × (take n (xs ++ ys) ≡ take n xs ++ more)
take_front zero xs ys = ([], refl)
take_front (suc n) [] ys = (take (suc n) ys, refl)
take_front (suc n) (x ∷ xs) ys =
    let r = take_front n xs ys in
    (r.0, ap (λ zs. x ∷ zs) r.1)

-- a stream that these bytes begin, within a limit
pub record Whole (ended : Bool) (limit : ℕ) (source : Left) (taken : List ℕ) : Type 0 where
  pub stream : List ℕ
  pub told : Has source stream
  pub more : List ℕ
  pub is : take limit stream ≡ take limit taken ++ more
  pub agrees : Agrees ended (leb (length stream) limit) more

is_within : (m n : ℕ) → m ≤ n → leb m n ≡ true
is_within m n h = search (rules, tests)

pub whole_of : (ended : Bool) (limit : ℕ) (source left : Left) (taken : List ℕ) → Gave source left taken → (ended ≡ true → Has left [] × (length taken ≤ limit)) → Whole ended limit source taken
whole_of false limit source left taken g over =
    let r = rest_of source left taken g in
    let t = take_front limit taken r.0 in
    record { stream = taken ++ r.0; told = r.1; more = t.0; is = t.1; agrees = tt }
whole_of true limit source left taken g over =
    let r = rest_of source left taken g in
    let o = over refl in
    record {
      stream = taken;
      told = subst (λ cs. Has source cs) (append-nil taken) (subst (λ cs. Has source (taken ++ cs)) (r.2 o.0) r.1);
      more = [];
      is = sym (append-nil (take limit taken));
      agrees = (is_within (length taken) limit o.1, refl);
    }

-- what is fed of a piece

pub take_less : (n room : ℕ) (buf : List ℕ) → take room (take n buf) ≡ take (min n room) buf
take_less n room buf = go (leb n room) refl
  where
    go : (t : Bool) → leb n room ≡ t → take room (take n buf) ≡ take (min n room) buf
    go true h =
        let low : n ≤ room = search (rules, tests) in
        take_all room (take n buf) (omega (arith, length-take n buf)) ∙ ap (λ k. take k buf) (omega (arith, low))
    go false h =
        let low : room ≤ n = search (rules, tests) in
        take-take room n buf low ∙ ap (λ k. take k buf) (omega (arith, low))

pub fed_is : (limit n room : ℕ) (taken buf : List ℕ) → length taken + room ≡ limit → taken ++ take (min n room) buf ≡ take limit (taken ++ take n buf)
fed_is limit n room taken buf is =
    ap (λ cs. taken ++ cs) (sym (take_less n room buf))
    ∙ (sym (take-append-add taken (take n buf) room)
    ∙ ap (λ k. take k (taken ++ take n buf)) is)

pub all_fed : (limit : ℕ) (taken : List ℕ) → length taken ≤ limit → taken ≡ take limit (taken ++ [])
all_fed limit taken low = sym (take_all limit taken low) ∙ ap (λ cs. take limit cs) (sym (append-nil taken))
