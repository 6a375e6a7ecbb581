-- A stream in pieces is the stream.
use Rattle.std.proofs.Common.{◌≡◌, ℕ, ◌<◌, ◌+◌, List, [], ◌∷◌, ◌++◌, length, take, drop, Bool, true, false, ◌||◌, cond, eqb, ltb, refl, sym, ap, ◌∙◌, arith, rules, tests, subst, Some, None, ◌⊎◌, inl, inr, append_assoc, is_some}
use Rattle.std.proofs.lemmas.Bool.{false≢true, eqb-true}
use Rattle.std.proofs.lemmas.List.{append-nil, drop-append-le, take-append-le, length-append}
use Rattle.std.proofs.lemmas.List.Folds.{prefix_len-append}
use Rattle.fz_items.specs.Bytes.{is_no_newline}
use Rattle.fz_items.specs.Forms.{Form}
use Rattle.soln_reader.specs.Blocks.{Block}
use Rattle.soln_reader.specs.Stream.{Place, next_place, Event, Ending, whole, bad, Stream, at_the_end, in_a_block, passes, an_event, a_bad_line, leaves, gives, is_bad, Passes, no_line, a_line, line_len, line_limit, has_newline, is_too_long, has_line, first_line, chopped, after_line, line_outcome, outcome}
use Rattle.soln_reader.specs.Reader.{State, place, at, start, fed, GivesEvent, Ends, IsFirstBad, a_bad_line as bad_found, left_open, FindsBad, first, again}
use Rattle.soln_reader.specs.Cuts.{HasOneReading, IsCutFreely, HasSameEvents, Session, feeds, gives_one, needs_more, runs_short, finds_bad, gives_last, runs_short_last, finds_bad_last, ends}
use Rattle.soln_reader.proofs.LineLemmas.{long_outcome, len_grows}

-- a line with its newline stays so, whatever follows

pub len_more : (bs more : List ℕ) → line_len bs < length bs → line_len (bs ++ more) ≡ line_len bs
len_more bs more h = prefix_len-append is_no_newline bs more ∙ go (eqb (line_len bs) (length bs)) refl
  where
    go : (t : Bool) → eqb (line_len bs) (length bs) ≡ t → cond t (length bs + line_len more) (line_len bs) ≡ line_len bs
    go false is = refl
    go true is = absurd (omega (arith, eqb-true (line_len bs) (length bs) is))

pub after_more : (bs more : List ℕ) → line_len bs < length bs → after_line (bs ++ more) ≡ after_line bs ++ more
after_more bs more h = ap (λ n. drop (n + 1) (bs ++ more)) (len_more bs more h) ∙ drop-append-le (line_len bs + 1) bs more (omega arith)

lt_of : (m n : ℕ) → m < n → ltb m n ≡ true
lt_of m n h = search (rules, tests)

of_lt : (m n : ℕ) → ltb m n ≡ true → m < n
of_lt m n h = search (rules, tests)

first_more : (bs more : List ℕ) → line_len bs < length bs → first_line (bs ++ more) ≡ first_line bs
unfolding first_line
first_more bs more h =
    let n : line_len (bs ++ more) ≡ line_len bs = len_more bs more h in
    let long : line_len (bs ++ more) < length (bs ++ more) = omega (arith, n, length-append bs more) in
    rw (lt_of (line_len (bs ++ more)) (length (bs ++ more)) long, lt_of (line_len bs) (length bs) h)
    (ap chopped (ap (λ k. take k (bs ++ more)) n ∙ take-append-le (line_len bs) bs more (omega arith)))

pub outcome_more : (fs : List Form) (b : Block) (bs more : List ℕ) → line_len bs < length bs → line_outcome fs b (bs ++ more) ≡ line_outcome fs b bs
unfolding line_outcome
outcome_more fs b bs more h =
    ap (λ t. cond t is_bad (outcome fs b (first_line (bs ++ more)))) (ap (λ n. ltb line_limit n) (len_more bs more h))
    ∙ ap (λ l. cond (is_too_long bs) is_bad (outcome fs b l)) (first_more bs more h)

-- a whole line has its newline, or is too long and so bad
pub newline_or_bad : (fs : List Form) (b : Block) (bs : List ℕ) → has_line false bs ≡ true → (line_len bs < length bs) ⊎ (line_limit < line_len bs)
unfolding has_line
newline_or_bad fs b bs h = go (has_newline bs) (is_too_long bs) refl refl h
  where
    go : (t u : Bool) → has_newline bs ≡ t → is_too_long bs ≡ u → (t || (u || false)) ≡ true → (line_len bs < length bs) ⊎ (line_limit < line_len bs)
    go true u is is' h = inl (of_lt (line_len bs) (length bs) is)
    go false true is is' h = inr (of_lt line_limit (line_len bs) is')
    go false false is is' h = absurd (false≢true h)

pub some_line : (ended : Bool) (bs : List ℕ) → has_line ended bs ≡ true → 0 < length bs
unfolding has_line
some_line ended (b ∷ bs) h = omega arith
some_line true [] h = absurd (false≢true h)
some_line false [] h = absurd (false≢true h)

some_more : (bs more : List ℕ) → 0 < length bs → 0 < length (bs ++ more)
some_more bs more h = omega (arith, length-append bs more)

leaves_is_good : (b : Block) → leaves b ≡ is_bad → ⊥
leaves_is_good b e = cc

leaves_gives : (b : Block) (e : Event) → leaves b ≡ gives e → ⊥
leaves_gives b e h = cc

gives_is_good : (e : Event) → gives e ≡ is_bad → ⊥
gives_is_good e h = cc

-- lines that pass, before a stream
pub passes_then : (fs : List Form) (p : Place) (bs : List ℕ) (q : Place) (rest more : List ℕ) (es : List Event) (x : Ending) → Passes fs false p bs q rest → Stream fs q (rest ++ more) es x → Stream fs p (bs ++ more) es x
passes_then fs p bs q rest more es x no_line s = s
passes_then fs p bs q rest more es x (a_line {b = b} line out then) s =
    elim (newline_or_bad fs p.block bs line) [
      | inl h ↦
          let P : List ℕ → Type 0 = λ cs. Stream fs (next_place p b) cs es x in
          passes (some_more bs more (some_line false bs line)) (outcome_more fs p.block bs more h ∙ out) (subst P (sym (after_more bs more h)) (passes_then fs _ _ q rest more es x then s))
      | inr h ↦ absurd (leaves_is_good b (sym out ∙ long_outcome fs p.block bs h))
    ]

event_then : (fs : List Form) (p : Place) (bs more : List ℕ) (e : Event) (es : List Event) (x : Ending) → has_line false bs ≡ true → line_outcome fs p.block bs ≡ gives e → Stream fs (next_place p None) (after_line bs ++ more) es x → Stream fs p (bs ++ more) (e ∷ es) x
event_then fs p bs more e es x line out s =
    elim (newline_or_bad fs p.block bs line) [
      | inl h ↦
          let P : List ℕ → Type 0 = λ cs. Stream fs (next_place p None) cs es x in
          an_event (some_more bs more (some_line false bs line)) (outcome_more fs p.block bs more h ∙ out) (subst P (sym (after_more bs more h)) s)
      | inr h ↦ absurd (gives_is_good e (sym out ∙ long_outcome fs p.block bs h))
    ]

bad_then : (fs : List Form) (p : Place) (bs more : List ℕ) → has_line false bs ≡ true → line_outcome fs p.block bs ≡ is_bad → Stream fs p (bs ++ more) [] (bad (p.lines + 1))
bad_then fs p bs more line out =
    elim (newline_or_bad fs p.block bs line) [
      | inl h ↦ a_bad_line (some_more bs more (some_line false bs line)) (outcome_more fs p.block bs more h ∙ out)
      | inr h ↦ a_bad_line (some_more bs more (some_line false bs line)) (long_outcome fs p.block (bs ++ more) (omega (arith, len_grows bs more)))
    ]

-- the same at the end
passes_last : (fs : List Form) (p : Place) (bs : List ℕ) (q : Place) (rest : List ℕ) (es : List Event) (x : Ending) → Passes fs true p bs q rest → Stream fs q rest es x → Stream fs p bs es x
passes_last fs p bs q rest es x no_line s = s
passes_last fs p bs q rest es x (a_line line out then) s = passes (some_line true bs line) out (passes_last fs _ _ q rest es x then s)

-- what a state's later bytes are read to
Later : State → List ℕ → List Event → Ending → Type 0
Later s bytes es x = Stream s.forms (place s) (s.bytes ++ bytes) es x

bad_stream : (fs : List Form) (p : Place) (bs : List ℕ) (n : ℕ) (rest more : List ℕ) → IsFirstBad fs false p bs n rest → Stream fs p (bs ++ more) [] (bad n)
bad_stream fs p bs n rest more (bad_found q from passed line out) = passes_then fs p bs q from more [] (bad (q.lines + 1)) passed (bad_then fs q from more line out)
bad_stream fs p bs n rest more (left_open q passed over opened) = absurd (false≢true over)

open_end : (fs : List Form) (q : Place) (b : Block) → q.block ≡ b → is_some b ≡ true → Stream fs q [] [] (bad q.lines)
open_end fs q None is opened = absurd (false≢true opened)
open_end fs q (Some gs) is opened = in_a_block is

bad_last : (fs : List Form) (p : Place) (bs : List ℕ) (n : ℕ) (rest : List ℕ) → IsFirstBad fs true p bs n rest → Stream fs p bs [] (bad n)
bad_last fs p bs n rest (bad_found q from passed line out) = passes_last fs p bs q from [] (bad (q.lines + 1)) passed (a_bad_line (some_line true from line) out)
bad_last fs p bs n rest (left_open q passed over opened) = passes_last fs p bs q [] [] (bad q.lines) passed (open_end fs q q.block refl opened)

found_stream : (s u : State) (n : ℕ) (more : List ℕ) → s.bad ≡ None → FindsBad false s n u → Later s more [] (bad n)
unfolding Later
found_stream s u n more fresh (first rest f b after) = bad_stream s.forms (place s) s.bytes n rest more b
found_stream s u n more fresh (again is same) = absurd (cc)

found_last : (s u : State) (n : ℕ) → s.bad ≡ None → FindsBad true s n u → Later s [] [] (bad n)
unfolding Later
found_last s u n fresh (first rest f b after) =
    let P : List ℕ → Type 0 = λ cs. Stream s.forms (place s) cs [] (bad n) in
    subst P (sym (append-nil s.bytes)) (bad_last s.forms (place s) s.bytes n rest b)
found_last s u n fresh (again is same) = absurd (cc)

event_stream : (s u : State) (e : Event) (more : List ℕ) (es : List Event) (x : Ending) → GivesEvent false s e u → Later u more es x → Later s more (e ∷ es) x
unfolding Later
event_stream s u e more es x g later =
    let P : State → Type 0 = λ v. Stream v.forms (place v) (v.bytes ++ more) es x in
    passes_then s.forms (place s) s.bytes g.before g.from more (e ∷ es) x g.passed (event_then s.forms g.before g.from more e es x g.line g.outcome (subst P g.after later))

event_last : (s u : State) (e : Event) (es : List Event) (x : Ending) → GivesEvent true s e u → Later u [] es x → Later s [] (e ∷ es) x
unfolding Later
event_last s u e es x g later =
    let P : State → Type 0 = λ v. Stream v.forms (place v) (v.bytes ++ []) es x in
    let Q : List ℕ → Type 0 = λ cs. Stream s.forms (next_place g.before None) cs es x in
    let R : List ℕ → Type 0 = λ cs. Stream s.forms (place s) cs (e ∷ es) x in
    subst R (sym (append-nil s.bytes)) (passes_last s.forms (place s) s.bytes g.before g.from (e ∷ es) x g.passed
    (an_event (some_line true g.from g.line) g.outcome (subst Q (append-nil (after_line g.from)) (subst P g.after later))))

over_stream : (s u : State) (more : List ℕ) (es : List Event) (x : Ending) → Passes s.forms false (place s) s.bytes (place u) u.bytes → u ≡ at s (place u) u.bytes None → Later u more es x → Later s more es x
unfolding Later
over_stream s u more es x passed after later =
    let P : List Form → Type 0 = λ fs. Stream fs (place u) (u.bytes ++ more) es x in
    passes_then s.forms (place s) s.bytes (place u) u.bytes more es x passed (subst P (ap (λ v. v.forms) after) later)

end_stream : (s u : State) → Ends true s u → Later s [] [] whole
unfolding Later
end_stream s u e =
    let R : List ℕ → Type 0 = λ cs. Stream s.forms (place s) cs [] whole in
    subst R (sym (append-nil s.bytes)) (passes_last s.forms (place s) s.bytes (place u) [] [] whole e.passed (at_the_end e.closed))

session_stream : (s : State) (bytes : List ℕ) (es : List Event) (x : Ending) → Session s bytes es x → s.bad ≡ None → Later s bytes es x
unfolding Later
session_stream s bytes es x (feeds piece {bytes = more} k) fresh =
    let P : List ℕ → Type 0 = λ cs. Stream s.forms (place s) cs es x in
    subst P (append_assoc s.bytes piece more) (session_stream (fed s piece) more es x k fresh)
session_stream s bytes es x (gives_one {u = u} {e = e} {es = ds} g k) fresh = event_stream s u e bytes ds x g (session_stream u bytes ds x k (ap (λ v. v.bad) g.after))
session_stream s bytes es x (needs_more {u = u} n k) fresh = over_stream s u bytes es x n.passed n.after (session_stream u bytes es x k (ap (λ v. v.bad) n.after))
session_stream s bytes es x (runs_short {u = u} n k) fresh =
    let P : State → Type 0 = λ v. Later v bytes es x in
    subst P n (session_stream u bytes es x k (ap (λ (v : State). v.bad) n ∙ fresh))
session_stream s bytes es x (finds_bad {u = u} {n = n} more f) fresh = found_stream s u n more fresh f
session_stream s bytes es x (gives_last {u = u} {e = e} {es = ds} g k) fresh = event_last s u e ds x g (session_stream u [] ds x k (ap (λ v. v.bad) g.after))
session_stream s bytes es x (runs_short_last {u = u} n k) fresh =
    let P : State → Type 0 = λ v. Later v [] es x in
    subst P n (session_stream u [] es x k (ap (λ (v : State). v.bad) n ∙ fresh))
session_stream s bytes es x (finds_bad_last {u = u} {n = n} f) fresh = found_last s u n fresh f
session_stream s bytes es x (ends {u = u} e) fresh = end_stream s u e

-- whatever the pieces, the events are the stream's
pub cut_freely : IsCutFreely
unfolding Later
cut_freely fs bytes es x k = session_stream (start fs) bytes es x k refl

-- one reading

none_left : 0 < length {A = ℕ} [] → ⊥
none_left h = omega arith

same_block : (b c : Block) → leaves b ≡ leaves c → b ≡ c
same_block b c e = cc

same_event : (d e : Event) → gives d ≡ gives e → d ≡ e
same_event d e h = cc

pub one_reading : HasOneReading
one_reading fs p bs es ds x y (at_the_end c) (at_the_end c') = (refl, refl)
one_reading fs p bs es ds x y (at_the_end c) (in_a_block o) = absurd (cc)
one_reading fs p bs es ds x y (at_the_end c) (passes some out s) = absurd (none_left some)
one_reading fs p bs es ds x y (at_the_end c) (an_event some out s) = absurd (none_left some)
one_reading fs p bs es ds x y (at_the_end c) (a_bad_line some out) = absurd (none_left some)
one_reading fs p bs es ds x y (in_a_block o) (at_the_end c) = absurd (cc)
one_reading fs p bs es ds x y (in_a_block o) (in_a_block o') = (refl, refl)
one_reading fs p bs es ds x y (in_a_block o) (passes some out s) = absurd (none_left some)
one_reading fs p bs es ds x y (in_a_block o) (an_event some out s) = absurd (none_left some)
one_reading fs p bs es ds x y (in_a_block o) (a_bad_line some out) = absurd (none_left some)
one_reading fs p bs es ds x y (passes some out s) (at_the_end c) = absurd (none_left some)
one_reading fs p bs es ds x y (passes some out s) (in_a_block o) = absurd (none_left some)
one_reading fs p bs es ds x y (passes {b = b} some out s) (passes {b = c} some' out' t) =
    let P : Block → Type 0 = λ d. Stream fs (next_place p d) (after_line bs) ds y in
    one_reading fs (next_place p b) (after_line bs) es ds x y s (subst P (same_block c b (sym out' ∙ out)) t)
one_reading fs p bs es ds x y (passes {b = b} some out s) (an_event {e = e} some' out' t) = absurd (leaves_gives b e (sym out ∙ out'))
one_reading fs p bs es ds x y (passes {b = b} some out s) (a_bad_line some' out') = absurd (leaves_is_good b (sym out ∙ out'))
one_reading fs p bs es ds x y (an_event some out s) (at_the_end c) = absurd (none_left some)
one_reading fs p bs es ds x y (an_event some out s) (in_a_block o) = absurd (none_left some)
one_reading fs p bs es ds x y (an_event {e = e} some out s) (passes {b = b} some' out' t) = absurd (leaves_gives b e (sym out' ∙ out))
one_reading fs p bs es ds x y (an_event {e = d} {es = more} some out s) (an_event {e = e} {es = others} some' out' t) =
    let r = one_reading fs (next_place p None) (after_line bs) more others x y s t in
    (ap (λ f. f ∷ more) (same_event d e (sym out ∙ out')) ∙ ap (λ fs. e ∷ fs) r.0, r.1)
one_reading fs p bs es ds x y (an_event {e = e} some out s) (a_bad_line some' out') = absurd (gives_is_good e (sym out ∙ out'))
one_reading fs p bs es ds x y (a_bad_line some out) (at_the_end c) = absurd (none_left some)
one_reading fs p bs es ds x y (a_bad_line some out) (in_a_block o) = absurd (none_left some)
one_reading fs p bs es ds x y (a_bad_line some out) (passes {b = b} some' out' t) = absurd (leaves_is_good b (sym out' ∙ out))
one_reading fs p bs es ds x y (a_bad_line some out) (an_event {e = e} some' out' t) = absurd (gives_is_good e (sym out' ∙ out))
one_reading fs p bs es ds x y (a_bad_line some out) (a_bad_line some' out') = (refl, refl)

pub same_events : HasSameEvents
same_events fs bytes es ds x y k l = one_reading fs (record { lines = 0; block = None }) bytes es ds x y (cut_freely fs bytes es x k) (cut_freely fs bytes ds y l)
