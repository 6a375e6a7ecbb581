-- How many elements of a generator are left.
use Rattle.std.proofs.Common.{◌≡◌, ◌∙◌, ℕ, ℤ, suc, ◌+◌, ◌<◌, Option, Some, None, List, [], ◌∷◌, map, drop, length, Result, Ok, Err, IfOk, IfSome, refl, sym, ap, subst, arith}
use Rattle.std.proofs.lemmas.List.{length-map}
use Rattle.mz_base.specs.declared.stop.Memory as code
use Rattle.mz_base.specs.declared.stop.Stop.{Stop}
use Rattle.mz_base.specs.declared.stop.Stop.TheVariants.{Refused, Memory}
use Rattle.mz_arena.specs.Arenas.{IsArena}
use Rattle.mz_meaning.specs.Comprehensions.{Element}
use Rattle.mz_meaning.specs.Runs as runs
use Rattle.mz_meaning.specs.Runs.{State, Answer, Out, then_do, loop}
use Rattle.mz_symbol.specs.Runs.{Run}
use Rattle.mz_symbol.specs.Makes.{MeetsAt}
use Rattle.mz_symbol.specs.Readings.{Reading, bare, blank}
use Rattle.mz_symbol.proofs.ReadingLaws.{bare_reads}
use Rattle.mz_eval_comprehensions.specs.declared.types.Elements.{Elements}
use Rattle.mz_eval_comprehensions.specs.declared.types.Elements.TheVariants as source
use Rattle.mz_eval_comprehensions.specs.declared.types.Turn.{Turn}
use Rattle.mz_eval_comprehensions.specs.declared.types.Turns.{Turns}
use Rattle.mz_eval_comprehensions.specs.Views.{GivesNext, IsNextTurn, elements_left, member_in, numbers_left, place_in, turn_in, turns_left}

mapped_alike : {A B : Type 0} (f g : A → B) (xs : List A) → length (map f xs) ≡ length (map g xs)
mapped_alike f g xs = length-map xs f ∙ sym (length-map xs g)

count_same : (r q : Reading) (e : Elements) (i : ℕ) (last : Option ℤ) → length (elements_left r e i last) ≡ length (elements_left q e i last)
count_same r q source.Nothing i last = refl
count_same r q (source.Numbers of m s) i last = mapped_alike (member_in r of m) (member_in q of m) (numbers_left (drop i s.now) last)
count_same r q (source.Values xs) i last = refl
count_same r q (source.Places b o xs) i last = mapped_alike (place_in r xs.now) (place_in q xs.now) _

turns_same : (r q : Reading) (t : Turns) → length (turns_left r t) ≡ length (turns_left q t)
turns_same r q t = count_same r q t.elements.now t.place t.last

abbrev pub IsShorter : Turns → Turns → Option Turn → Type 0
IsShorter before after o = IfSome o (λ _. length (turns_left blank after) < length (turns_left blank before))

one_fewer : (x : Element) (xs ys : List Element) → xs ≡ x ∷ ys → length ys < length xs
one_fewer x xs ys e =
    let n : length xs ≡ suc (length ys) = ap length e in
    omega (arith, n)

fewer_left : (old new : Run) (before after : Turns) (o : Option Turn) → IsArena new.arena → IsNextTurn old new before after o → IsShorter before after o
fewer_left old new before after None a h = tt
fewer_left old new before after (Some x) a h =
    let r = bare new in
    let less = one_fewer (turn_in r x) (turns_left r before) (turns_left r after) (h.next r (bare_reads new a)) in
    let p = turns_same r blank before in
    let q = turns_same r blank after in
    omega (arith, less, p, q)

pub fewer : (old new : Run) (before after : Turns) (x : Result (Option Turn) code.Memory) → IsArena new.arena → IfOk x (IsNextTurn old new before after) → IfOk x (IsShorter before after)
fewer old new before after (Ok o) a h = fewer_left old new before after o a h
fewer old new before after (Err e) a h = tt

-- ---- the next of them

pub next_is : (see : Turn → Element) (o : Option Turn) (x : Turn) (before after : List Element) → o ≡ Some x → GivesNext see o before after → before ≡ see x ∷ after
next_is see o x before after e h = subst (λ y. GivesNext see y before after) e h

pub next_fewer : (before after : Turns) (o : Option Turn) (x : Turn) → o ≡ Some x → IsShorter before after o → length (turns_left blank after) < length (turns_left blank before)
next_fewer before after o x e h = subst (IsShorter before after) e h

pub none_left : (see : Turn → Element) (o : Option Turn) (before after : List Element) → ((x : Turn) → o ≡ Some x → ⊥) → GivesNext see o before after → before ≡ []
none_left see None before after other h = h
none_left see (Some x) before after other h = absurd (other x refl)

-- ---- a loop over them

pub turn_goes : {M E : Type 0} (step : M → E → runs.Run M) (m n : M) (x : E) (before after : List E) (s u v : State) (whole : Answer M) → s ≡ u → before ≡ x ∷ after → step m x u ≡ Out n v → whole ≡ loop step m before s → whole ≡ loop step n after v
turn_goes step m n x before after s u v whole e f g h =
    h
    ∙ ap (loop step m before) e
    ∙ ap (λ es. loop step m es u) f
    ∙ ap (λ a. then_do a (λ y. loop step y after)) g

pub turns_end : {M E : Type 0} (step : M → E → runs.Run M) (m : M) (before : List E) (s u : State) (whole : Answer M) → s ≡ u → before ≡ [] → whole ≡ loop step m before s → whole ≡ Out m u
turns_end step m before s u whole e f h = h ∙ ap (loop step m before) e ∙ ap (λ es. loop step m es u) f

-- where a step stops, the loop does
pub turn_stops : {M E A : Type 0} (see : A → M) (step : M → E → runs.Run M) (m : M) (x : E) (before after : List E) (s u v : State) (whole : Answer M) (e : Stop) → s ≡ u → before ≡ x ∷ after → MeetsAt see (Err e) v (step m x u) → whole ≡ loop step m before s → MeetsAt see (Err e) v whole
turn_stops see step m x before after s u v whole (Refused f) e g h k =
    k
    ∙ ap (loop step m before) e
    ∙ ap (λ es. loop step m es u) g
    ∙ ap (λ a. then_do a (λ y. loop step y after)) h
turn_stops see step m x before after s u v whole Memory e g h k = tt
