-- Choices that are taken one after another from one domain.
use Rattle.std.proofs.Common.{◌≡◌, ◌∙◌, ℕ, zero, suc, ◌+◌, ◌*◌, ◌≤◌, ◌<◌, Bool, true, false, List, [], ◌∷◌, ◌++◌, length, replicate, refl, sym, ap, subst, arith}
use Rattle.mz_meaning.specs.Cells.{Mode, Blank, Given}
use Rattle.mz_meaning.specs.Domains.{Domain}
use Rattle.mz_meaning.specs.Runs.{State, Out, noted, weigh}
use Rattle.mz_symbol.specs.Runs.{Run}
use Rattle.mz_symbol.specs.Readings.{Reading, Reads, state_of}
use Rattle.mz_symbol.specs.Makes.{GoesOnBy}
use Rattle.mz_symbol.proofs.ConstantLaws.{out_state}
use Rattle.mz_symbol_rows.proofs.GoingOn.{goes_both, goes_most}
use Rattle.mz_eval_declared.specs.StepsTaking.{Takes}
use Rattle.mz_eval_declared.proofs.SuitingLaws.{goes_none}

no_more : {A : Type 0} (xs : List A) → xs ++ [] ≡ xs
no_more [] = refl
no_more (x ∷ xs) = ap (λ ys. x ∷ ys) (no_more xs)

one_more : {A : Type 0} (k : ℕ) (d : A) → replicate k d ++ d ∷ [] ≡ replicate (suc k) d
one_more zero d = refl
one_more (suc k) d = ap (λ xs. d ∷ xs) (one_more k d)

joined : {A : Type 0} (xs ys zs : List A) → (xs ++ ys) ++ zs ≡ xs ++ (ys ++ zs)
joined [] ys zs = refl
joined (x ∷ xs) ys zs = ap (λ us. x ∷ us) (joined xs ys zs)

same_weight : (n : ℕ) → n + 0 ≡ n
same_weight n = omega arith

-- the state after some choices, with this work
abbrev after : ℕ → List Domain → ℕ → State
after w ds n = record { work = w; taken = ds; weight = n }

none_noted : (m : Mode) (s : State) → noted m [] 0 s ≡ s
none_noted (Blank false) s = refl
none_noted (Blank true) s = ap (λ ds. after s.work ds (s.weight + 0)) (no_more s.taken) ∙ ap (after s.work s.taken) (same_weight s.weight)
none_noted (Given f) s = ap (λ ds. after s.work ds (s.weight + 0)) (no_more s.taken) ∙ ap (after s.work s.taken) (same_weight s.weight)

-- no weight changes nothing
pub none_weighed : (m : Mode) (n : ℕ) (s : State) → n ≡ 0 → weigh m n s ≡ Out tt s
none_weighed m n s e = ap (λ k. weigh m k s) e ∙ ap (Out tt) (none_noted m s)

more_noted : (m : Mode) (k : ℕ) (d : Domain) (s : State) → noted m (d ∷ []) 0 (noted m (replicate k d) 0 s) ≡ noted m (replicate (suc k) d) 0 s
more_noted (Blank false) k d s = refl
more_noted (Blank true) k d s = ap (λ ds. after s.work ds (s.weight + 0 + 0)) (joined s.taken (replicate k d) (d ∷ []) ∙ ap (λ ds. s.taken ++ ds) (one_more k d)) ∙ ap (after s.work (s.taken ++ replicate (suc k) d)) (same_weight (s.weight + 0))
more_noted (Given f) k d s = ap (λ ds. after s.work ds (s.weight + 0 + 0)) (joined s.taken (replicate k d) (d ∷ []) ∙ ap (λ ds. s.taken ++ ds) (one_more k d)) ∙ ap (after s.work (s.taken ++ replicate (suc k) d)) (same_weight (s.weight + 0))

pub takes_none : (d : Domain) (s : Run) → Takes 0 d s s
takes_none d s = record { goes = goes_none 0 s; taken = λ r h. none_noted r.mode (state_of r s) }

goes_next : (k : ℕ) (old mid new : Run) → GoesOnBy (8 * k) old mid → GoesOnBy 8 mid new → GoesOnBy (8 * suc k) old new
goes_next k old mid new f g = goes_most (8 * k + 8) (8 * suc k) old new (omega arith) (goes_both (8 * k) 8 old mid new f g)

next_taken : (k : ℕ) (d : Domain) (old mid new : Run) → Takes k d old mid → GoesOnBy 8 mid new → ((r : Reading) → Reads r new → noted r.mode (d ∷ []) 0 (state_of r mid) ≡ state_of r new) → Takes (suc k) d old new
next_taken k d old mid new a g e = record {
  goes = goes_next k old mid new a.goes g;
  taken = λ r h. sym (more_noted r.mode k d (state_of r old)) ∙ ap (λ s. noted r.mode (d ∷ []) 0 s) (a.taken r (g.back r h)) ∙ e r h;
}

pub takes_more : (k : ℕ) (d : Domain) (old mid new : Run) → Takes k d old mid → GoesOnBy 8 mid new → ((r : Reading) → Reads r new → noted r.mode (d ∷ []) 0 (state_of r mid) ≡ state_of r new) → Takes (k + 1) d old new
takes_more k d old mid new a g e = subst (λ n. Takes n d old new) (omega arith) (next_taken k d old mid new a g e)

-- where memory ran out in the next one
pub takes_some : (k n : ℕ) (d : Domain) (old mid new : Run) → k < n → Takes k d old mid → GoesOnBy 8 mid new → GoesOnBy (8 * n) old new
takes_some k n d old mid new l a g = goes_most (8 * suc k) (8 * n) old new (omega (arith, l)) (goes_next k old mid new a.goes g)

pub takes_all : (k n : ℕ) (d : Domain) (old new : Run) → n ≤ k → k ≤ n → Takes k d old new → Takes n d old new
takes_all k n d old new p q a = subst (λ m. Takes m d old new) (omega (arith, p, q)) a

-- ---- what a line of choices may cost

pub line_goes : (n m : ℕ) (old one two new : Run) → GoesOnBy 0 old one → GoesOnBy (8 * n) one two → m ≡ n → GoesOnBy (16 * m) two new → GoesOnBy (24 * n) old new
line_goes n m old one two new f g e h = goes_most (0 + 8 * n + 16 * m) (24 * n) old new (omega (arith, e)) (goes_both (0 + 8 * n) (16 * m) old two new (goes_both 0 (8 * n) old one two f g) h)

pub line_begins : (n : ℕ) (old one two : Run) → GoesOnBy 0 old one → GoesOnBy (8 * n) one two → GoesOnBy (24 * n) old two
line_begins n old one two f g = goes_most (0 + 8 * n) (24 * n) old two (omega arith) (goes_both 0 (8 * n) old one two f g)
