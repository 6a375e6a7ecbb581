-- The longest prefix of some bytes that pass a test.
use Rattle.std.proofs.Common.{◌≡◌, ℕ, ◌+◌, ◌<◌, ◌≤◌, List, [], ◌∷◌, ◌++◌, length, drop, Bool, true, false, ◌&&◌, cond, refl, sym, ap, ◌∙◌, arith}
use Rattle.std.specs.List.{prefix_len, take_while, list_all}
use Rattle.std.proofs.Math.Numerals.{one-add}
use Rattle.std.proofs.lemmas.List.Sums.{take_while-cons}
use Rattle.std.proofs.lemmas.Bool.{false≢true, and_parts}
use Rattle.mz_lexer.specs.Bytes.{first_byte}

-- the first byte passes
pub some_run : (p : ℕ → Bool) → p 0 ≡ false → (bs : List ℕ) → p (first_byte bs) ≡ true → 0 < prefix_len p bs
some_run p never [] is = absurd (false≢true (sym never ∙ is))
some_run p never (b ∷ bs) is = let passes = ap (λ t. cond t (1 + prefix_len p bs) 0) is in omega (arith, passes)

all_from_cons : (p : ℕ → Bool) (b : ℕ) (bs : List ℕ) → list_all p (take_while p bs) ≡ true → list_all p (cond (p b) (b ∷ take_while p bs) []) ≡ true
all_from_cons p b bs rest = go (p b) refl
  where
    go : (t : Bool) → p b ≡ t → list_all p (cond t (b ∷ take_while p bs) []) ≡ true
    go true is = rw (is, rest) refl
    go false is = refl

-- what the run holds passes
pub all_of_run : (p : ℕ → Bool) (bs : List ℕ) → list_all p (take_while p bs) ≡ true
all_of_run p [] = refl
all_of_run p (b ∷ bs) = ap (list_all p) (take_while-cons p b bs) ∙ all_from_cons p b bs (all_of_run p bs)

stops_cons : (p : ℕ → Bool) (b : ℕ) (bs : List ℕ) → p (first_byte (drop (prefix_len p bs) bs)) ≡ false → p (first_byte (drop (prefix_len p (b ∷ bs)) (b ∷ bs))) ≡ false
stops_cons p b bs rest = go (p b) refl
  where
    go : (t : Bool) → p b ≡ t → p (first_byte (drop (cond t (1 + prefix_len p bs) 0) (b ∷ bs))) ≡ false
    go true is = rw one-add rest
    go false is = is

-- after the run comes a byte that doesn't pass, or none
pub stops_run : (p : ℕ → Bool) → p 0 ≡ false → (bs : List ℕ) → p (first_byte (drop (prefix_len p bs) bs)) ≡ false
stops_run p never [] = never
stops_run p never (b ∷ bs) = stops_cons p b bs (stops_run p never bs)

-- first bytes that pass belong to the run
pub run_holds : (p : ℕ → Bool) (w bs : List ℕ) → list_all p w ≡ true → length w ≤ prefix_len p (w ++ bs)
run_holds p [] bs all = omega arith
run_holds p (b ∷ w) bs all =
    let parts = and_parts (p b) (list_all p w) all in
    let passes = ap (λ t. cond t (1 + prefix_len p (w ++ bs)) 0) parts.0 in
    omega (arith, passes, run_holds p w bs parts.1)

-- and are the run where no byte after them passes
pub run_is : (p : ℕ → Bool) (w bs : List ℕ) → list_all p w ≡ true → p (first_byte bs) ≡ false → prefix_len p (w ++ bs) ≡ length w
run_is p [] [] all stop = refl
run_is p [] (b ∷ bs) all stop = rw stop refl
run_is p (b ∷ w) bs all stop =
    let parts = and_parts (p b) (list_all p w) all in
    ap (λ t. cond t (1 + prefix_len p (w ++ bs)) 0) parts.0 ∙ omega (arith, run_is p w bs parts.1 stop)
