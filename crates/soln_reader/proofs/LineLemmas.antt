-- The first line of some bytes.
use Rattle.std.proofs.Common.{◌≡◌, ℕ, zero, suc, ◌<◌, ◌≤◌, ◌+◌, ◌-◌, List, [], ◌∷◌, ◌++◌, length, take, drop, Bool, true, false, ◌&&◌, ◌||◌, cond, eqb, ltb, refl, sym, ap, ◌∙◌, arith, rules, tests, subst}
use Rattle.std.specs.List.{prefix_len}
use Rattle.std.proofs.lemmas.Bool.{false≢true}
use Rattle.std.proofs.lemmas.List.{drop_all, length-drop}
use Rattle.std.proofs.lemmas.List.Folds.{prefix_len-append}
use Rattle.std.proofs.lemmas.List.Sums.{prefix_len-le-length}
use Rattle.fz_items.specs.Bytes.{is_no_newline}
use Rattle.fz_items.specs.Forms.{Form}
use Rattle.soln_reader.specs.Blocks.{Block}
use Rattle.soln_reader.specs.Stream.{is_bad, line_len, line_limit, has_newline, is_too_long, has_line, first_line, chopped, line_outcome, outcome}
use Rattle.soln_reader.specs.declared.step.Step.{Step}
use Rattle.soln_reader.specs.declared.step.Step.TheVariants as step
use Rattle.soln_reader.specs.StepsLines.{IsStep, Steps, StepsOver}

-- the first bytes are known to pass
pub prefix_from : (p : ℕ → Bool) (xs : List ℕ) (i : ℕ) → i ≤ prefix_len p xs → i + prefix_len p (drop i xs) ≡ prefix_len p xs
prefix_from p xs zero low = omega arith
prefix_from p [] (suc i) low = absurd (omega arith)
prefix_from p (x ∷ xs) (suc i) low = go (p x) refl low (prefix_from p xs i)
  where
    go : (t : Bool) → p x ≡ t → suc i ≤ cond t (1 + prefix_len p xs) 0 → (i ≤ prefix_len p xs → i + prefix_len p (drop i xs) ≡ prefix_len p xs) → suc i + prefix_len p (drop i xs) ≡ cond t (1 + prefix_len p xs) 0
    go true is l rest = omega (arith, rest (omega arith))
    go false is l rest = absurd (omega arith)

lt_true : (m n : ℕ) → m < n → ltb m n ≡ true
lt_true m n h = search (rules, tests)

lt_false : (m n : ℕ) → n ≤ m → ltb m n ≡ false
lt_false m n h = search (rules, tests)

pub over : (bs : List ℕ) (n : ℕ) → line_len bs < length bs → n ≡ line_len bs + 1 → StepsOver bs n
over bs n below is = record {
  rest = ap (λ k. drop k bs) is;
  some = omega arith;
  within = omega arith;
}

pub over_all : (bs : List ℕ) (n : ℕ) → length bs ≤ line_len bs → 0 < n → n ≡ line_len bs → StepsOver bs n
over_all bs n all some is = record {
  rest = drop_all n bs (omega arith) ∙ sym (drop_all (line_len bs + 1) bs (omega arith));
  some = some;
  within = omega (arith, prefix_len-le-length is_no_newline bs);
}

-- a line that is too long
pub long_line : (ended : Bool) (bs : List ℕ) → line_limit < line_len bs → has_line ended bs ≡ true
unfolding has_line
long_line ended bs h = go (has_newline bs)
  where
    go : (t : Bool) → (t || (is_too_long bs || (ended && ltb 0 (length bs)))) ≡ true
    go true = refl
    go false = rw (lt_true line_limit (line_len bs) h) refl

pub long_outcome : (fs : List Form) (b : Block) (bs : List ℕ) → line_limit < line_len bs → line_outcome fs b bs ≡ is_bad
unfolding line_outcome
long_outcome fs b bs h = rw (lt_true line_limit (line_len bs) h) refl

-- a line with its newline
pub ended_line : (ended : Bool) (bs : List ℕ) → line_len bs < length bs → has_line ended bs ≡ true
unfolding has_line
ended_line ended bs h = rw (lt_true (line_len bs) (length bs) h) refl

pub ended_outcome : (fs : List Form) (b : Block) (bs : List ℕ) → line_len bs ≤ line_limit → line_len bs < length bs → line_outcome fs b bs ≡ outcome fs b (chopped (take (line_len bs) bs))
unfolding line_outcome first_line
ended_outcome fs b bs short h = rw (lt_false line_limit (line_len bs) short) (rw (lt_true (line_len bs) (length bs) h) refl)

-- the last line, where no more bytes come
pub last_line : (bs : List ℕ) → 0 < length bs → has_line true bs ≡ true
unfolding has_line
last_line bs h = go (has_newline bs) (is_too_long bs)
  where
    go : (t u : Bool) → (t || (u || (true && ltb 0 (length bs)))) ≡ true
    go true u = refl
    go false true = refl
    go false false = lt_true 0 (length bs) h

take_all : (n : ℕ) (bs : List ℕ) → length bs ≤ n → take n bs ≡ bs
take_all zero [] h = refl
take_all (suc n) [] h = refl
take_all zero (b ∷ bs) h = absurd (omega arith)
take_all (suc n) (b ∷ bs) h = ap (λ cs. b ∷ cs) (take_all n bs (omega arith))

pub last_outcome : (fs : List Form) (b : Block) (bs : List ℕ) → line_len bs ≤ line_limit → length bs ≤ line_len bs → line_outcome fs b bs ≡ outcome fs b bs
unfolding line_outcome first_line
last_outcome fs b bs short all = rw (lt_false line_limit (line_len bs) short) (rw (lt_false (line_len bs) (length bs) all) (ap (outcome fs b) (take_all (line_len bs) bs all)))

-- no whole line
pub no_line : (ended : Bool) (bs : List ℕ) → line_len bs ≤ line_limit → length bs ≤ line_len bs → (ended && ltb 0 (length bs)) ≡ false → has_line ended bs ≡ false
unfolding has_line
no_line ended bs short all none = rw (lt_false (line_len bs) (length bs) all) (rw (lt_false line_limit (line_len bs) short) none)

-- a step by what the first line does
pub steps_from : (fs : List Form) (ended : Bool) (old new : Block) (bs : List ℕ) (n : ℕ) (s : Step) → has_line ended bs ≡ true → StepsOver bs n → IsStep old new (line_outcome fs old bs) n s → Steps fs ended old new bs s
steps_from fs ended old new bs n (step.Passed filled m) has o is = (has, is.0, is.1, subst (StepsOver bs) (sym is.2) o)
steps_from fs ended old new bs n (step.Solved a m) has o is = (has, is.0, subst (StepsOver bs) (sym is.1) o)
steps_from fs ended old new bs n (step.Marked k m) has o is = (has, is.0, subst (StepsOver bs) (sym is.1) o)
steps_from fs ended old new bs n (step.Bad m) has o is = (has, is.0, subst (StepsOver bs) (sym is.1) o)
steps_from fs ended old new bs n step.NoLine has o is = absurd is
steps_from fs ended old new bs n step.Memory has o is = is

pub last_when : (ended : Bool) (bs : List ℕ) → (ended && ltb 0 (length bs)) ≡ true → has_line ended bs ≡ true
unfolding has_line
last_when ended bs h = go (has_newline bs) (is_too_long bs)
  where
    go : (t u : Bool) → (t || (u || (ended && ltb 0 (length bs)))) ≡ true
    go true u = refl
    go false true = refl
    go false false = h

pub some_bytes : (ended : Bool) (bs : List ℕ) → (ended && ltb 0 (length bs)) ≡ true → 0 < length bs
some_bytes true (b ∷ bs) h = omega arith
some_bytes true [] h = absurd (false≢true h)
some_bytes false bs h = absurd (false≢true h)

-- a slice from a place on
take_whole : {X : Type 0} (n : ℕ) (xs : List X) → length xs ≤ n → take n xs ≡ xs
take_whole zero [] h = refl
take_whole (suc n) [] h = refl
take_whole zero (x ∷ xs) h = absurd (omega arith)
take_whole (suc n) (x ∷ xs) h = ap (λ ys. x ∷ ys) (take_whole n xs (omega arith))

pub rest_slice : {X : Type 0} (xs : List X) (n : ℕ) → take (length xs - n) (drop n xs) ≡ drop n xs
rest_slice xs n = take_whole (length xs - n) (drop n xs) (omega (arith, length-drop n xs))

-- more bytes leave the first line no shorter
pub len_grows : (bs more : List ℕ) → line_len bs ≤ line_len (bs ++ more)
len_grows bs more = go (eqb (line_len bs) (length bs)) refl (prefix_len-append is_no_newline bs more)
  where
    go : (t : Bool) → eqb (line_len bs) (length bs) ≡ t → line_len (bs ++ more) ≡ cond (eqb (line_len bs) (length bs)) (length bs + line_len more) (line_len bs) → line_len bs ≤ line_len (bs ++ more)
    go true is e = let f : line_len (bs ++ more) ≡ length bs + line_len more = e ∙ ap (λ t. cond t (length bs + line_len more) (line_len bs)) is in omega (arith, f, prefix_len-le-length is_no_newline bs)
    go false is e = let f : line_len (bs ++ more) ≡ line_len bs = e ∙ ap (λ t. cond t (length bs + line_len more) (line_len bs)) is in omega (arith, f)
