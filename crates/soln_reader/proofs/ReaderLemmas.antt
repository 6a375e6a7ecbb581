-- What a walk over lines means for a reader.
use Rattle.std.proofs.Common.{◌≡◌, ℕ, ◌≤◌, ◌+◌, ◌-◌, List, [], ◌∷◌, length, take, drop, Bool, true, false, refl, sym, ap, ◌∙◌, arith, subst, Option, Some, None, inl, inr}
use Rattle.std.proofs.lemmas.Bool.{false≢true, cases_lt}
use Rattle.soln_reader.proofs.LineLemmas.{ended_line, last_line, rest_slice}
use Rattle.mz_value.specs.declared.value.Shape.{Shape}
use Rattle.std.proofs.lemmas.List.{drop-drop}
use Rattle.fz_items.specs.Forms.{Form, forms}
use Rattle.soln_reader.specs.Blocks.{Block, Given}
use Rattle.soln_reader.specs.Stream.{Place, next_place, Event, leaves, gives, is_bad, Passes, no_line, a_line, line_len, has_line, after_line, line_outcome}
use Rattle.soln_reader.specs.Reader.{State, Answers, bad_line, GivesEvent, Needs, Ends, IsFirstBad, a_bad_line, left_open, FindsBad, first}
use Rattle.soln_reader.specs.declared.next.Next.{Next}
use Rattle.soln_reader.specs.declared.next.Next.TheVariants as next
use Rattle.soln_reader.specs.declared.walk.Stop.{Stop}
use Rattle.soln_reader.specs.declared.walk.Stop.TheVariants as stop
use Rattle.soln_reader.specs.StepsWalk.{WalksTo, WalksOver, Walks, Untouched, place_at}
use Rattle.soln_reader.specs.StepsSettle.{Leaves, RunsOut, Settles, IsSeen}

-- one more line passes
pub passes_more : (fs : List Form) (ended : Bool) (p : Place) (bs : List ℕ) (q : Place) (from : List ℕ) (b : Block) → Passes fs ended p bs q from → has_line ended from ≡ true → line_outcome fs q.block from ≡ leaves b → Passes fs ended p bs (next_place q b) (after_line from)
passes_more fs ended p bs q from b no_line line out = a_line line out no_line
passes_more fs ended p bs q from b (a_line one leaves_it rest) line out = a_line one leaves_it (passes_more fs ended _ _ q from b rest line out)

-- where a walk ends

abbrev pub held : List Form → List ℕ → ℕ → Block → State
held fs bs n b = record { forms = fs; bytes = bs; lines = n; block = b; bad = None }

pub to_event : (fs : List Form) (ended : Bool) (bs : List ℕ) (at taken lines last : ℕ) (b : Block) (e : Event) → WalksTo fs ended lines b (drop at bs) (gives e) last taken → GivesEvent ended (held fs (drop at bs) lines b) e (held fs (drop (at + taken) bs) last None)
to_event fs ended bs at taken lines last b e w = record {
  fresh = refl;
  before = w.before;
  from = w.from;
  passed = w.passed;
  line = w.line;
  outcome = w.outcome;
  after = ap (λ cs. held fs cs last None) (sym (drop-drop taken at bs) ∙ w.rest) ∙ ap (λ n. held fs (after_line w.from) n None) w.counted;
}

-- the state after a Bad
abbrev pub failed : List Form → List ℕ → ℕ → State
failed fs bs n = record { forms = fs; bytes = bs; lines = n; block = None; bad = Some n }

bad_first : (fs : List Form) (ended : Bool) (p : Place) (bs : List ℕ) (n : ℕ) (q : Place) (from : List ℕ) → n ≡ q.lines + 1 → Passes fs ended p bs q from → has_line ended from ≡ true → line_outcome fs q.block from ≡ is_bad → IsFirstBad fs ended p bs n (after_line from)
bad_first fs ended p bs n q from is passed line out =
    let P : ℕ → Type 0 = λ m. IsFirstBad fs ended p bs m (after_line from) in
    subst P (sym is) (a_bad_line q from passed line out)

pub to_bad : (fs : List Form) (ended : Bool) (bs : List ℕ) (at taken lines last : ℕ) (b : Block) → WalksTo fs ended lines b (drop at bs) is_bad last taken → FindsBad ended (held fs (drop at bs) lines b) last (failed fs (drop (at + taken) bs) last)
to_bad fs ended bs at taken lines last b w =
    first (after_line w.from) refl (bad_first fs ended (place_at lines b) (drop at bs) last w.before w.from w.counted w.passed w.line w.outcome)
    (ap (λ cs. failed fs cs last) (sym (drop-drop taken at bs) ∙ w.rest))

rest_is : (bs : List ℕ) (at taken : ℕ) → drop taken (drop at bs) ≡ drop (at + taken) bs
rest_is bs at taken = drop-drop taken at bs

over_at : (fs : List Form) (ended : Bool) (bs : List ℕ) (at taken lines last : ℕ) (b new : Block) → WalksOver fs ended lines b (drop at bs) new last taken → Passes fs ended (place_at lines b) (drop at bs) (place_at last new) (drop (at + taken) bs)
over_at fs ended bs at taken lines last b new w =
    let P : List ℕ → Type 0 = λ cs. Passes fs ended (place_at lines b) (drop at bs) (place_at last new) cs in
    subst P (rest_is bs at taken) w.passed

pub to_need : (fs : List Form) (bs : List ℕ) (at taken lines last : ℕ) (b new : Block) → WalksOver fs false lines b (drop at bs) new last taken → has_line false (drop taken (drop at bs)) ≡ false → Needs false (held fs (drop at bs) lines b) (held fs (drop (at + taken) bs) last new)
to_need fs bs at taken lines last b new w none = record {
  going_on = refl;
  fresh = refl;
  passed = over_at fs false bs at taken lines last b new w;
  no_line = ap (has_line false) (sym (rest_is bs at taken)) ∙ none;
  after = refl;
}

nothing_left : (bs : List ℕ) → has_line true bs ≡ false → bs ≡ []
nothing_left [] none = refl
nothing_left (b ∷ bs) none = absurd (false≢true (sym none ∙ last_line (b ∷ bs) (omega arith)))

pub to_end : (fs : List Form) (bs : List ℕ) (at taken lines last : ℕ) (b : Block) → WalksOver fs true lines b (drop at bs) None last taken → has_line true (drop taken (drop at bs)) ≡ false → Ends true (held fs (drop at bs) lines b) (held fs (drop (at + taken) bs) last None)
to_end fs bs at taken lines last b w none =
    let nil : drop (at + taken) bs ≡ [] = sym (rest_is bs at taken) ∙ nothing_left (drop taken (drop at bs)) none in
    let P : List ℕ → Type 0 = λ cs. Passes fs true (place_at lines b) (drop at bs) (place_at last None) cs in
    record {
      over = refl;
      fresh = refl;
      passed = subst P nil (over_at fs true bs at taken lines last b None w);
      closed = refl;
      after = ap (λ cs. held fs cs last None) nil;
    }

pub to_open : (fs : List Form) (bs : List ℕ) (at taken lines last : ℕ) (b : Block) (gs : List Given) → WalksOver fs true lines b (drop at bs) (Some gs) last taken → has_line true (drop taken (drop at bs)) ≡ false → FindsBad true (held fs (drop at bs) lines b) last (failed fs (drop (at + taken) bs) last)
to_open fs bs at taken lines last b gs w none =
    let nil : drop (at + taken) bs ≡ [] = sym (rest_is bs at taken) ∙ nothing_left (drop taken (drop at bs)) none in
    let P : List ℕ → Type 0 = λ cs. Passes fs true (place_at lines b) (drop at bs) (place_at last (Some gs)) cs in
    first [] refl (left_open (place_at last (Some gs)) (subst P nil (over_at fs true bs at taken lines last b (Some gs) w)) refl refl) (ap (λ cs. failed fs cs last) nil)

-- where no whole line is left, there is no newline
pub no_newline : (ended : Bool) (bs : List ℕ) → has_line ended bs ≡ false → length bs ≤ line_len bs
no_newline ended bs none = elim (cases_lt (line_len bs) (length bs)) [
  | inl h ↦ absurd (false≢true (sym none ∙ ended_line ended bs h))
  | inr h ↦ h
]

-- the answer by where a walk ended

untouched : (fs : List Form) (bs : List ℕ) (at taken lines last : ℕ) (b new : Block) → Untouched b new lines last taken → held fs (drop (at + taken) bs) last new ≡ held fs (drop at bs) lines b
untouched fs bs at taken lines last b new u =
    let none : at + taken ≡ at = omega (arith, u.2) in
    ap (λ c. held fs (drop (at + taken) bs) last c) u.0 ∙ ap (λ n. held fs (drop (at + taken) bs) n b) u.1 ∙ ap (λ n. held fs (drop n bs) lines b) none

same_answer : (ended : Bool) (old : State) (answer : Next) (fs : List Form) (rest : List ℕ) (last : ℕ) (b : Block) (bad : Option ℕ) (result : Next) (block : Block) (failed : Option ℕ) → Leaves answer b bad result block failed → Answers ended old answer (record { forms = fs; bytes = rest; lines = last; block = b; bad = bad }) → Answers ended old result (record { forms = fs; bytes = rest; lines = last; block = block; bad = failed })
same_answer ended old answer fs rest last b bad result block failed l a =
    let P : Next → Type 0 = λ r. Answers ended old r (record { forms = fs; bytes = rest; lines = last; block = block; bad = failed }) in
    let Q : Block → Type 0 = λ c. Answers ended old answer (record { forms = fs; bytes = rest; lines = last; block = c; bad = failed }) in
    let R : Option ℕ → Type 0 = λ f. Answers ended old answer (record { forms = fs; bytes = rest; lines = last; block = b; bad = f }) in
    subst P (sym l.answers) (subst Q (sym l.opens) (subst R (sym l.fails) a))

run_out : (ended : Bool) (fs : List Form) (bs : List ℕ) (at taken lines last : ℕ) (b new : Block) (result : Next) (block : Block) (failed : Option ℕ) → WalksOver fs ended lines b (drop at bs) new last taken → has_line ended (drop taken (drop at bs)) ≡ false → RunsOut ended new last result block failed → Answers ended (held fs (drop at bs) lines b) result (record { forms = fs; bytes = drop (at + taken) bs; lines = last; block = block; bad = failed })
run_out false fs bs at taken lines last b new result block failed w none s =
    same_answer false (held fs (drop at bs) lines b) next.Need fs (drop (at + taken) bs) last new None result block failed s (to_need fs bs at taken lines last b new w none)
run_out true fs bs at taken lines last b None result block failed w none s =
    same_answer true (held fs (drop at bs) lines b) next.End fs (drop (at + taken) bs) last None None result block failed s (to_end fs bs at taken lines last b w none)
run_out true fs bs at taken lines last b (Some gs) result block failed w none s =
    same_answer true (held fs (drop at bs) lines b) (next.Bad (bad_line last)) fs (drop (at + taken) bs) last None (Some last) result block failed s (last, refl, to_open fs bs at taken lines last b gs w none)

pub settled : (ended : Bool) (fs : List Form) (bs : List ℕ) (at taken lines last : ℕ) (b new : Block) (s : Stop) (result : Next) (block : Block) (failed : Option ℕ) → Walks fs ended lines b (drop at bs) new s last taken (Untouched b new lines last taken) → Settles ended s last new result block failed → Answers ended (held fs (drop at bs) lines b) result (record { forms = fs; bytes = drop (at + taken) bs; lines = last; block = block; bad = failed })
settled ended fs bs at taken lines last b new (stop.Solved a) result block failed w s =
    same_answer ended (held fs (drop at bs) lines b) (next.Block a) fs (drop (at + taken) bs) last None None result block failed s (to_event fs ended bs at taken lines last b _ w)
settled ended fs bs at taken lines last b new (stop.Marked m) result block failed w s =
    same_answer ended (held fs (drop at bs) lines b) (next.Mark m) fs (drop (at + taken) bs) last None None result block failed s (to_event fs ended bs at taken lines last b _ w)
settled ended fs bs at taken lines last b new stop.Bad result block failed w s =
    same_answer ended (held fs (drop at bs) lines b) (next.Bad (bad_line last)) fs (drop (at + taken) bs) last None (Some last) result block failed s (last, refl, to_bad fs ended bs at taken lines last b w)
settled ended fs bs at taken lines last b new stop.NoLine result block failed w s = run_out ended fs bs at taken lines last b new result block failed w.0 w.1 s
settled ended fs bs at taken lines last b new stop.Memory result block failed w s =
    same_answer ended (held fs (drop at bs) lines b) next.Memory fs (drop (at + taken) bs) last new None result block failed s (untouched fs bs at taken lines last b new w)

-- what is known to have no newline
pub seen_fits : (ended : Bool) (fs : List Form) (bs : List ℕ) (at taken lines last : ℕ) (b new : Block) (s : Stop) (left n : ℕ) → Walks fs ended lines b (drop at bs) new s last taken (Untouched b new lines last taken) → left ≡ length (drop (at + taken) bs) → IsSeen s left n → n ≤ line_len (drop (at + taken) bs)
seen_fits ended fs bs at taken lines last b new (stop.Solved a) left n w is seen = omega arith
seen_fits ended fs bs at taken lines last b new (stop.Marked m) left n w is seen = omega arith
seen_fits ended fs bs at taken lines last b new stop.Bad left n w is seen = omega arith
seen_fits ended fs bs at taken lines last b new stop.Memory left n w is seen = omega arith
seen_fits ended fs bs at taken lines last b new stop.NoLine left n w is seen =
    omega (arith, seen, is, no_newline ended (drop (at + taken) bs) (ap (has_line ended) (sym (rest_is bs at taken)) ∙ w.1))

-- the bytes from a place on, as a slice
pub slice_is : (bs cs : List ℕ) (at : ℕ) → cs ≡ bs → take (length cs - at) (drop at cs) ≡ drop at bs
slice_is bs cs at is = ap (λ ds. take (length ds - at) (drop at ds)) is ∙ rest_slice bs at

-- a walk over that slice
pub walks_slice : (ss ts : List Shape) (ended : Bool) (lines : ℕ) (b : Block) (bs cs : List ℕ) (at : ℕ) (new : Block) (s : Stop) (last taken : ℕ) (short : Type 0) → ts ≡ ss → cs ≡ bs → Walks (forms ts) ended lines b (take (length cs - at) (drop at cs)) new s last taken short → Walks (forms ss) ended lines b (drop at bs) new s last taken short
walks_slice ss ts ended lines b bs cs at new s last taken short same is w =
    let P : List Shape → Type 0 = λ us. Walks (forms us) ended lines b (drop at bs) new s last taken short in
    let Q : List ℕ → Type 0 = λ ds. Walks (forms ts) ended lines b ds new s last taken short in
    subst P same (subst Q (slice_is bs cs at is) w)
