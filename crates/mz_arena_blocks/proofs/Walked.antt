-- Walks by blocks, and the block of a list that is made.
use Rattle.std.proofs.Common.{◌≡◌, ℕ, suc, ◌+◌, ◌-◌, ◌<◌, ◌≤◌, List, [], ◌∷◌, ◌++◌, drop, take, map, Option, Some, sym, ap, subst, ◌∙◌, arith}
use Rattle.std.proofs.lemmas.List.{drop-drop}
use Rattle.mz_arena_blocks.specs.declared.blocks.Row.{Row}
use Rattle.mz_arena_blocks.specs.Joins.{join_from, join_of_all, AllFit, AreLaws}
use Rattle.mz_arena_blocks.specs.Lists.{list_at}
use Rattle.mz_arena_blocks.specs.Rows.{IsBlock, IsStep, AreEqualBlocks}
use Rattle.mz_arena_blocks.proofs.Joined.{fit_taken, fit_dropped, join_before, join_append, all_fits, all_append, map_taken}

-- ---- a walk

pub skip_block : {T S : Type 0} (seen : T → S) (fits : S → Type 0) (joined : S → S → S) (lists : List (List T)) (at left next span : ℕ) (t : T) (all : List T) → IsStep seen fits joined lists at left next span t → drop left (list_at lists at) ≡ all → drop (left - span) (list_at lists next) ≡ all
skip_block seen fits joined lists at left next span t all s h =
    let place : span + (left - span) ≡ left = omega (arith, s.few) in
    ap (drop (left - span)) s.block.rest ∙ drop-drop (left - span) span (list_at lists at) ∙ ap (λ k. drop k (list_at lists at)) place ∙ h

-- what a block has together fits
pub block_fits : {T S : Type 0} (seen : T → S) (fits : S → Type 0) (joined : S → S → S) → AreLaws fits joined → (lists : List (List T)) (place : ℕ) (list : List T) (next span : ℕ) (t : T) → AllFit fits (map seen list) → IsBlock seen joined lists place list next span t → fits (seen t)
block_fits seen fits joined l lists place list next span t h b = all_fits fits joined l (map seen (take span list)) (seen t) (fit_taken seen fits span list h) b.together

-- the first block of a walk
pub begin_block : {T S : Type 0} (seen : T → S) (fits : S → Type 0) (joined : S → S → S) (lists : List (List T)) (at left next span : ℕ) (t a : T) → IsStep seen fits joined lists at left next span t → seen a ≡ seen t → Some (join_from joined (seen a) (map seen (take (left - span) (list_at lists next)))) ≡ join_of_all joined (map seen (take left (list_at lists at)))
begin_block seen fits joined lists at left next span t a s e =
    let list = list_at lists at in
    let place : span + (left - span) ≡ left = omega (arith, s.few) in
    let parts = sym (map_taken seen span (left - span) list) ∙ ap (λ n. map seen (take n list)) place in
    ap (λ xs. Some (join_from joined (seen a) (map seen (take (left - span) xs)))) s.block.rest ∙ ap (λ d. Some (join_from joined d (map seen (take (left - span) (drop span list))))) e ∙ sym (all_append joined (map seen (take span list)) (map seen (take (left - span) (drop span list))) (seen t) s.block.together) ∙ ap (join_of_all joined) parts

-- each block after it
pub join_block : {T S : Type 0} (seen : T → S) (fits : S → Type 0) (joined : S → S → S) → AreLaws fits joined → (lists : List (List T)) (at left next span : ℕ) (t acc a : T) (all : Option S) → IsStep seen fits joined lists at left next span t → fits (seen acc) → seen a ≡ joined (seen acc) (seen t) → Some (join_from joined (seen acc) (map seen (take left (list_at lists at)))) ≡ all → Some (join_from joined (seen a) (map seen (take (left - span) (list_at lists next)))) ≡ all
join_block seen fits joined l lists at left next span t acc a all s p e h =
    let list = list_at lists at in
    let place : span + (left - span) ≡ left = omega (arith, s.few) in
    let first = map seen (take span list) in
    let rest = map seen (take (left - span) (drop span list)) in
    let parts = sym (map_taken seen span (left - span) list) ∙ ap (λ n. map seen (take n list)) place in
    let begun = e ∙ sym (join_before fits joined l (seen acc) first (seen t) p (fit_taken seen fits span list s.elements) s.block.together) in
    ap (λ xs. Some (join_from joined (seen a) (map seen (take (left - span) xs)))) s.block.rest ∙ ap (λ d. Some (join_from joined d rest)) begun ∙ ap (λ y. Some y) (sym (join_append joined (seen acc) first rest)) ∙ ap (λ xs. Some (join_from joined (seen acc) xs)) parts ∙ h

-- ---- the block of a list that is made

pub both_blocks : {T S : Type 0} (seen : T → S) (fits : S → Type 0) (joined : S → S → S) → AreLaws fits joined → (lists : List (List T)) (place : ℕ) (head two t : T) (tail span : ℕ) (b c : Row T) → tail < place → fits (seen head) → AreEqualBlocks seen fits joined lists tail b c → span ≡ suc (b.block.span + c.block.span) → seen two ≡ joined (seen head) (seen b.block.all) → seen t ≡ joined (seen two) (seen c.block.all) → IsBlock seen joined lists place (head ∷ list_at lists tail) c.block.next span t
both_blocks seen fits joined l lists place head two t tail span b c low p e n k m =
    let list = list_at lists tail in
    let i = b.block.span in
    let j = c.block.span in
    let after = drop i list in
    let one = map seen (take i list) in
    let more = map seen (take j after) in
    let second = ap (λ xs. join_of_all joined (map seen (take j xs))) (sym e.row.block.rest) ∙ e.next.block.together in
    let fit_two = subst fits (sym k) (l.fit (seen head) (seen b.block.all) p (block_fits seen fits joined l lists tail list b.block.next i b.block.all e.row.elements e.row.block)) in
    let fit_more = fit_taken seen fits j after (fit_dropped seen fits i list e.row.elements) in
    let begun = k ∙ sym (join_before fits joined l (seen head) one (seen b.block.all) p (fit_taken seen fits i list e.row.elements) e.row.block.together) in
    let ended = m ∙ sym (join_before fits joined l (seen two) more (seen c.block.all) fit_two fit_more second) in
    let all = ended ∙ ap (λ d. join_from joined d more) begun ∙ sym (join_append joined (seen head) one more) ∙ ap (join_from joined (seen head)) (sym (map_taken seen i j list)) in
    record {
      below = omega (arith, e.row.block.below, e.next.block.below, low, n);
      some = omega (arith, n);
      rest = e.next.block.rest ∙ ap (drop j) e.row.block.rest ∙ drop-drop j i list ∙ ap (λ s. drop s (head ∷ list)) (sym n);
      together = ap (λ s. join_of_all joined (map seen (take s (head ∷ list)))) n ∙ ap (λ x. Some x) (sym all);
    }
