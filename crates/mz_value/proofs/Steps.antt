-- One step of each loop: what is made so far, and what the walk makes of the rest.
use Rattle.std.proofs.Common.{◌≡◌, ℕ, ◌+◌, ◌-◌, ◌<◌, ◌≤◌, List, [], ◌∷◌, ◌++◌, length, get_or, take, drop, refl, sym, ap, ◌∙◌, inl, inr, append_assoc, add-one, drop-cons, arith}
use Rattle.std.proofs.lemmas.List.{append-nil, drop_all, take_all, length-drop}
use Rattle.std.specs.Prelude.{ℤ, pos, ◌+ℤ◌, ◌-ℤ◌, ◌≤ℤ◌, ◌<ℤ◌, ◌⊎◌}
use Rattle.std.specs.Int.{int_max}
use Rattle.mz_value.specs.Ranges.{Range, range_of, greatest}
use Rattle.mz_value.specs.StepsWalks.{merged, joined, joined_from, common, gaps}
use Rattle.mz_value.proofs.Walking.{merged_left, merged_right, merged_none_left, merged_none_right, joined_on, joined_apart, joined_end, common_left, common_right, common_none_left, common_none_right, overlap}
use Rattle.mz_value.proofs.Gaps.{gaps_more}

-- a piece goes from the rest to what is made
pub moved : {X : Type 0} (old piece rest before new whole : List X) → old ++ before ≡ whole → before ≡ piece ++ rest → new ≡ old ++ piece → new ++ rest ≡ whole
moved old piece rest before new whole kept cut step = ap (λ t. t ++ rest) step ∙ append_assoc old piece rest ∙ ap (λ t. old ++ t) (sym cut) ∙ kept

pub merge_left : (rs ss old new whole : List Range) (i j : ℕ) (d : Range) → i < length rs → j < length ss → (get_or rs i d).0 ≤ℤ (get_or ss j d).0 → old ++ merged (drop i rs) (drop j ss) ≡ whole → new ≡ old ++ get_or rs i d ∷ [] → new ++ merged (drop (i + 1) rs) (drop j ss) ≡ whole
merge_left rs ss old new whole i j d l k le kept step =
    let cut : merged (drop i rs) (drop j ss) ≡ get_or rs i d ∷ merged (drop (i + 1) rs) (drop j ss) = rw (add-one, drop-cons rs i d, drop-cons ss j d) (merged_left (get_or rs i d) (get_or ss j d) _ _ le) in
    moved old (get_or rs i d ∷ []) _ _ new whole kept cut step

pub merge_right : (rs ss old new whole : List Range) (i j : ℕ) (d : Range) → i < length rs → j < length ss → (get_or ss j d).0 <ℤ (get_or rs i d).0 → old ++ merged (drop i rs) (drop j ss) ≡ whole → new ≡ old ++ get_or ss j d ∷ [] → new ++ merged (drop i rs) (drop (j + 1) ss) ≡ whole
merge_right rs ss old new whole i j d l k lt kept step =
    let cut : merged (drop i rs) (drop j ss) ≡ get_or ss j d ∷ merged (drop i rs) (drop (j + 1) ss) = rw (add-one, drop-cons rs i d, drop-cons ss j d) (merged_right (get_or rs i d) (get_or ss j d) _ _ lt) in
    moved old (get_or ss j d ∷ []) _ _ new whole kept cut step

pub common_step_left : (rs ss old new whole : List Range) (i j : ℕ) (d : Range) → i < length rs → j < length ss → (get_or rs i d).1 <ℤ (get_or ss j d).1 → old ++ common (drop i rs) (drop j ss) ≡ whole → new ≡ old ++ overlap (get_or rs i d) (get_or ss j d) → new ++ common (drop (i + 1) rs) (drop j ss) ≡ whole
common_step_left rs ss old new whole i j d l k lt kept step =
    let cut : common (drop i rs) (drop j ss) ≡ overlap (get_or rs i d) (get_or ss j d) ++ common (drop (i + 1) rs) (drop j ss) = rw (add-one, drop-cons rs i d, drop-cons ss j d) (common_left (get_or rs i d) (get_or ss j d) _ _ lt) in
    moved old (overlap (get_or rs i d) (get_or ss j d)) _ _ new whole kept cut step

pub common_step_right : (rs ss old new whole : List Range) (i j : ℕ) (d : Range) → i < length rs → j < length ss → (get_or ss j d).1 ≤ℤ (get_or rs i d).1 → old ++ common (drop i rs) (drop j ss) ≡ whole → new ≡ old ++ overlap (get_or rs i d) (get_or ss j d) → new ++ common (drop i rs) (drop (j + 1) ss) ≡ whole
common_step_right rs ss old new whole i j d l k le kept step =
    let cut : common (drop i rs) (drop j ss) ≡ overlap (get_or rs i d) (get_or ss j d) ++ common (drop i rs) (drop (j + 1) ss) = rw (add-one, drop-cons rs i d, drop-cons ss j d) (common_right (get_or rs i d) (get_or ss j d) _ _ le) in
    moved old (overlap (get_or rs i d) (get_or ss j d)) _ _ new whole kept cut step

pub gaps_step : (rs old new whole : List Range) (i : ℕ) (d : Range) (lo : ℤ) → i < length rs → old ++ gaps lo (drop i rs) ≡ whole → new ≡ old ++ range_of lo ((get_or rs i d).0 -ℤ pos 1) → new ++ gaps ((get_or rs i d).1 +ℤ pos 1) (drop (i + 1) rs) ≡ whole
gaps_step rs old new whole i d lo l kept step =
    let cut : gaps lo (drop i rs) ≡ range_of lo ((get_or rs i d).0 -ℤ pos 1) ++ gaps ((get_or rs i d).1 +ℤ pos 1) (drop (i + 1) rs) = rw (add-one, drop-cons rs i d) (gaps_more lo (get_or rs i d) _) in
    moved old (range_of lo ((get_or rs i d).0 -ℤ pos 1)) _ _ new whole kept cut step

pub join_on : (rs made whole : List Range) (i : ℕ) (d last : Range) → i < length rs → (get_or rs i d).0 ≤ℤ (last.1 +ℤ pos 1) → made ++ joined_from last (drop i rs) ≡ whole → made ++ joined_from (last.0, int_max last.1 (get_or rs i d).1) (drop (i + 1) rs) ≡ whole
join_on rs made whole i d last l touch kept =
    let cut : joined_from last (drop i rs) ≡ joined_from (last.0, int_max last.1 (get_or rs i d).1) (drop (i + 1) rs) = rw (add-one, drop-cons rs i d) (joined_on last (get_or rs i d) _ touch) in
    ap (λ t. made ++ t) (sym cut) ∙ kept

pub join_apart : (rs old new whole : List Range) (i : ℕ) (d last : Range) → i < length rs → (last.1 +ℤ pos 1) <ℤ (get_or rs i d).0 → old ++ joined_from last (drop i rs) ≡ whole → new ≡ old ++ last ∷ [] → new ++ joined_from (get_or rs i d) (drop (i + 1) rs) ≡ whole
join_apart rs old new whole i d last l apart kept step =
    let cut : joined_from last (drop i rs) ≡ last ∷ joined_from (get_or rs i d) (drop (i + 1) rs) = rw (add-one, drop-cons rs i d) (joined_apart last (get_or rs i d) _ apart) in
    moved old (last ∷ []) _ _ new whole kept cut step

-- where one list has ended
merge_end : (rs ss : List Range) (i j : ℕ) → (length rs ≤ i) ⊎ (length ss ≤ j) → merged (drop i rs) (drop j ss) ≡ drop i rs ++ drop j ss
merge_end rs ss i j (inl e) = let none = drop_all i rs e in rw none (merged_none_left (drop j ss))
merge_end rs ss i j (inr e) = let none = drop_all j ss e in rw none (merged_none_right (drop i rs) ∙ sym (append-nil (drop i rs)))

pub take_rest : (xs : List Range) (i : ℕ) → take (length xs - i) (drop i xs) ≡ drop i xs
take_rest xs i = take_all (length xs - i) (drop i xs) (omega (arith, length-drop i xs))

pub merge_rests : (rs ss made one two whole : List Range) (i j : ℕ) → (length rs ≤ i) ⊎ (length ss ≤ j) → made ++ merged (drop i rs) (drop j ss) ≡ whole → one ≡ made ++ take (length rs - i) (drop i rs) → two ≡ one ++ take (length ss - j) (drop j ss) → two ≡ whole
merge_rests rs ss made one two whole i j ended kept first second =
    second ∙ ap (λ t. one ++ t) (take_rest ss j) ∙ ap (λ t. t ++ drop j ss) (first ∙ ap (λ t. made ++ t) (take_rest rs i)) ∙ append_assoc made (drop i rs) (drop j ss) ∙ ap (λ t. made ++ t) (sym (merge_end rs ss i j ended)) ∙ kept

pub common_end : (rs ss made whole : List Range) (i j : ℕ) → (length rs ≤ i) ⊎ (length ss ≤ j) → made ++ common (drop i rs) (drop j ss) ≡ whole → made ≡ whole
common_end rs ss made whole i j (inl e) kept =
    let none : common (drop i rs) (drop j ss) ≡ [] = let gone = drop_all i rs e in rw gone (common_none_left (drop j ss)) in
    sym (append-nil made) ∙ ap (λ t. made ++ t) (sym none) ∙ kept
common_end rs ss made whole i j (inr e) kept =
    let none : common (drop i rs) (drop j ss) ≡ [] = let gone = drop_all j ss e in rw gone (common_none_right (drop i rs)) in
    sym (append-nil made) ∙ ap (λ t. made ++ t) (sym none) ∙ kept

pub gaps_last : (rs old new whole : List Range) (i : ℕ) (lo : ℤ) → length rs ≤ i → old ++ gaps lo (drop i rs) ≡ whole → new ≡ old ++ range_of lo greatest → new ≡ whole
unfolding gaps
gaps_last rs old new whole i lo ended kept step =
    let gone = drop_all i rs ended in
    let rest : gaps lo (drop i rs) ≡ range_of lo greatest = rw gone refl in
    step ∙ ap (λ t. old ++ t) (sym rest) ∙ kept

pub join_last : (rs old new whole : List Range) (i : ℕ) (last : Range) → length rs ≤ i → old ++ joined_from last (drop i rs) ≡ whole → new ≡ old ++ last ∷ [] → new ≡ whole
join_last rs old new whole i last ended kept step =
    let gone = drop_all i rs ended in
    let rest : joined_from last (drop i rs) ≡ last ∷ [] = rw gone (joined_end last) in
    step ∙ ap (λ t. old ++ t) (sym rest) ∙ kept

pub joined_none : (rs : List Range) → length rs < 1 → joined rs ≡ []
unfolding joined
joined_none [] none = refl
joined_none (r ∷ rs) none = absurd (omega arith)

pub joined_some : (rs : List Range) (d : Range) → 1 ≤ length rs → joined_from (get_or rs 0 d) (take (length rs - 1) (drop 1 rs)) ≡ joined rs
unfolding joined
joined_some [] d some = absurd (omega arith)
joined_some (r ∷ rs) d some = rw (take_rest (r ∷ rs) 1) refl
