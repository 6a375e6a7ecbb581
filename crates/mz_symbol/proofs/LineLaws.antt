-- The elements of var arrays: how they are kept, and what they are.
use Rattle.std.proofs.Common.{◌≡◌, ◌∙◌, ℕ, zero, suc, ◌+◌, ◌*◌, ◌≤◌, Bool, true, false, List, [], ◌∷◌, ◌++◌, length, map, Option, Some, None, IsSome, slice_get, refl, sym, ap, subst, arith, if◌then◌else◌}
use Rattle.std.specs.Option.{option_map, option_and_then}
use Rattle.mz_value.specs.Contents.{Content}
use Rattle.mz_value.specs.Contents as values
use Rattle.mz_core.specs.declared.types.Base.{Base}
use Rattle.mz_arena.specs.Entries.{Entry}
use Rattle.mz_arena.specs.Charges.{charges}
use Rattle.mz_arena.specs.Values.{Term, is_true}
use Rattle.mz_meaning.specs.Runs.{Out}
use Rattle.mz_symbol.specs.declared.types.Symbol.{Symbol}
use Rattle.mz_symbol.specs.declared.types.Free.{Free}
use Rattle.mz_symbol.specs.declared.types.Line.{Line}
use Rattle.mz_symbol.specs.declared.types.Listing.TheVariants as listing
use Rattle.mz_symbol.specs.Symbols.{value_by, value_at, symbol_value, all_there, elements_value, line_value, IsItem, AreItems, AreWhole, IsLine, waiting_in, waiting}
use Rattle.mz_symbol.specs.Runs.{Run, ReadsNodes, IsRun, IsCounted}
use Rattle.mz_symbol.specs.Readings.{Reading, Reads, taken_in, weight_in, state_of}
use Rattle.mz_symbol.specs.Makes.{GoesOnBy}
use Rattle.mz_symbol.specs.Lines.{only_if, IsElement}
use Rattle.mz_symbol.specs.StepsLines.{IsLined}

-- ---- a line more

lines_more : (t : ℕ → Term) (ls : List Line) (x : Line) (k : ℕ) (l : Line) → ((j : ℕ) (m : Line) → slice_get ls j ≡ Some m → IsLine t m) → IsLine t x → slice_get (ls ++ x ∷ []) k ≡ Some l → IsLine t l
lines_more t [] x zero l h p e = let same : x ≡ l = cc in subst (λ m. IsLine t m) same p
lines_more t [] x (suc k) l h p e = absurd (cc)
lines_more t (y ∷ ls) x zero l h p e = h zero l e
lines_more t (y ∷ ls) x (suc k) l h p e = lines_more t ls x k l (λ j m q. h (suc j) m q) p e

pub counted_line : (w k saved : ℕ) (es : List Entry) (cs : List Free) (ls ms : List Line) (s : Run) (x : Line) (parts : ℕ) → record { work = w; weight = k; saved = saved; arena = es; choices = cs; lines = ls } ≡ s → ms ≡ ls ++ x ∷ [] → ((t : ℕ → Term) → ReadsNodes t s.arena → IsLine t x) → IsCounted es cs ls parts → IsCounted es cs ms parts
counted_line w k saved es cs ls ms s x parts i e h c =
    let whole = subst (λ (s : Run). (t : ℕ → Term) → ReadsNodes t s.arena → IsLine t x) (sym i) h in
    subst (λ ms. IsCounted es cs ms parts) (sym e) (record {
      sound = record {
        arena = c.sound.arena;
        locals = c.sound.locals;
        domains = c.sound.domains;
        lines = λ t n j l q. lines_more t ls x j l (λ j m q. c.sound.lines t n j m q) (whole t n) q;
      };
      count = c.count;
    })

below_append : (ls : List Line) (x l : Line) (k : ℕ) → slice_get ls k ≡ Some l → slice_get (ls ++ x ∷ []) k ≡ Some l
below_append [] x l k h = absurd (cc)
below_append (y ∷ ls) x l zero h = h
below_append (y ∷ ls) x l (suc k) h = below_append ls x l k h

last_append : (ls : List Line) (x : Line) → slice_get (ls ++ x ∷ []) (length ls) ≡ Some x
last_append [] x = refl
last_append (y ∷ ls) x = last_append ls x

waiting_more : (ls : List Line) (x : Line) → waiting (ls ++ x ∷ []) ≡ waiting ls + waiting_in x.listing (length x.items.items)
unfolding waiting
waiting_more [] x = omega arith
waiting_more (y ∷ ls) x = omega (arith, waiting_more ls x)

lined_back : (old new : Run) (x : Line) (r : Reading) → IsLined old new x → Reads r new → Reads r old
lined_back old new x r n h = record {
  nodes = rw (sym n.arena) h.nodes;
  choices = rw (sym n.choices) h.choices;
  lines = λ k l e. h.lines k l (ap (λ ls. slice_get ls k) n.lines ∙ below_append old.lines x l k e);
}

paid_for : (c d w v k x y a b e f n : ℕ) → y ≡ x → b ≡ a → f ≡ e → v ≡ w + k → d ≡ c → k ≤ n → d + 16 * v + f + 64 * (x + a) ≤ c + 16 * w + e + 64 * (y + b) + 16 * n
paid_for c d w v k x y a b e f n p q m s t h = omega (arith, p, q, m, s, t, h)

waits_at_most : (old new : Run) (x : Line) (n : ℕ) → IsLined old new x → length x.items.items ≡ n → waiting_in x.listing (length x.items.items) ≤ n → GoesOnBy (16 * n) old new
waits_at_most old new x n l e h = record {
  back = λ r g. lined_back old new x r l g;
  paid = paid_for (charges old.arena) (charges new.arena) (waiting old.lines) (waiting new.lines) (waiting_in x.listing (length x.items.items)) old.work new.work old.weight new.weight old.saved new.saved n l.work l.weight l.saved (ap waiting l.lines ∙ waiting_more old.lines x) (ap charges l.arena) h;
}

pub lined_goes : (old new : Run) (x : Line) → IsLined old new x → x.listing ≡ listing.Wanted → GoesOnBy (16 * length x.items.items) old new
lined_goes old new x l w = waits_at_most old new x (length x.items.items) l refl (subst (λ y. waiting_in y (length x.items.items) ≤ length x.items.items) (sym w) (omega arith))

lined_state : (old new : Run) (x : Line) (r : Reading) → IsLined old new x → state_of r old ≡ state_of r new
lined_state old new x r l =
    ap (λ n. record { work = n; taken = taken_in r.mode old.choices; weight = weight_in r.mode old.weight }) (sym l.work)
    ∙ ap (λ n. record { work = new.work; taken = taken_in r.mode old.choices; weight = weight_in r.mode n }) (sym l.weight)
    ∙ ap (λ cs. record { work = new.work; taken = taken_in r.mode cs; weight = weight_in r.mode new.weight }) (sym l.choices)

pub lined_means : (old new : Run) (x : Line) (r : Reading) (k : ℕ) → IsLined old new x → k ≡ length old.lines → Reads r new → Out (line_value r.term x) (state_of r old) ≡ Out (r.line k) (state_of r new)
lined_means old new x r k l e h =
    ap (λ s. Out (line_value r.term x) s) (lined_state old new x r l)
    ∙ ap (λ v. Out v (state_of r new)) (sym (h.lines (length old.lines) x (ap (λ ls. slice_get ls (length old.lines)) l.lines ∙ last_append old.lines x)))
    ∙ ap (λ k. Out (r.line k) (state_of r new)) (sym e)

-- ---- an element

record AllThere (xs : List (Option Content)) : Type 0 where
  found : List Content
  is : all_there xs ≡ Some found
  at : (i : ℕ) (y : Option Content) → slice_get xs i ≡ Some y → y ≡ slice_get found i

abbrev no_values : List (Option Content)
no_values = []

abbrev no_contents : List Content
no_contents = []

at_none : (i : ℕ) (y : Option Content) → slice_get no_values i ≡ Some y → y ≡ slice_get no_contents i
at_none zero y e = absurd (cc)
at_none (suc i) y e = absurd (cc)

at_cons : (x : Content) (xs : List (Option Content)) (vs : List Content) → ((i : ℕ) (y : Option Content) → slice_get xs i ≡ Some y → y ≡ slice_get vs i) → (i : ℕ) (y : Option Content) → slice_get (Some x ∷ xs) i ≡ Some y → y ≡ slice_get (x ∷ vs) i
at_cons x xs vs h zero y e = cc
at_cons x xs vs h (suc i) y e = h i y e

record IsValue (v : Option Content) : Type 0 where
  value : Content
  is : v ≡ Some value

value_there : (v : Option Content) → IsSome v → IsValue v
value_there None h = absurd (cc)
value_there (Some x) h = record { value = x; is = refl }

either_there : (b : Bool) (v : Option Content) → IsSome v → IsSome (if b then v else Some values.absent)
either_there true v h = h
either_there false v h = refl

item_there : (t : ℕ → Term) (b : Base) (o : Option ℕ) (id : ℕ) → IsSome (value_by b (t id)) → IsSome (value_at t b o id)
item_there t b None id h = h
item_there t b (Some o) id h = either_there (is_true (t o)) (value_by b (t id)) h

more_there : (v : Option Content) (xs : List (Option Content)) → IsValue v → AllThere xs → AllThere (v ∷ xs)
more_there v xs x h = subst (λ v. AllThere (v ∷ xs)) (sym x.is) (record { found = x.value ∷ h.found; is = ap (option_map (λ ys. x.value ∷ ys)) h.is; at = at_cons x.value xs h.found h.at })

items_there : (t : ℕ → Term) (ss : List Symbol) → AreItems t ss → AllThere (map (symbol_value t) ss)
items_there t [] h = record { found = []; is = refl; at = at_none }
items_there t (s ∷ ss) h = more_there (symbol_value t s) (map (symbol_value t) ss) (value_there (symbol_value t s) (item_there t s.base s.occurs s.term h.0.value)) (items_there t ss h.1)

get_mapped : (t : ℕ → Term) (ss : List Symbol) (i : ℕ) (y : Symbol) → slice_get ss i ≡ Some y → slice_get (map (symbol_value t) ss) i ≡ Some (symbol_value t y)
get_mapped t [] zero y e = absurd (cc)
get_mapped t [] (suc i) y e = absurd (cc)
get_mapped t (x ∷ ss) zero y e = let same : x ≡ y = cc in ap (λ s. Some (symbol_value t s)) same
get_mapped t (x ∷ ss) (suc i) y e = get_mapped t ss i y e

abbrev place_in : Option (List Content) → ℕ → Option Content
place_in xs i = option_and_then (λ ys. slice_get ys i) xs

undefined_place : (o : Option (List Content)) (i : ℕ) → None ≡ place_in (option_and_then (λ xs. if false then Some xs else None) o) i
undefined_place None i = refl
undefined_place (Some xs) i = refl

element_is : (t : ℕ → Term) (d : ℕ) (ss : List Symbol) (i : ℕ) (y : Symbol) → AreWhole t d ss → slice_get ss i ≡ Some y → only_if (is_true (t d)) (symbol_value t y) ≡ place_in (elements_value t d ss) i
element_is t d ss i y w e = by (is_true (t d)) refl
  where
    by : (b : Bool) → is_true (t d) ≡ b → only_if b (symbol_value t y) ≡ place_in (option_and_then (λ xs. if b then Some xs else None) (all_there (map (symbol_value t) ss))) i
    by false h = undefined_place (all_there (map (symbol_value t) ss)) i
    by true h =
        let a : AllThere (map (symbol_value t) ss) = items_there t ss (w h) in
        a.at i (symbol_value t y) (get_mapped t ss i y e) ∙ ap (λ o. place_in (option_and_then (λ xs. Some xs) o) i) (sym a.is)

pub element_read : (s : Run) (k i : ℕ) (l : Line) (y : Symbol) → IsRun s → slice_get s.lines k ≡ Some l → slice_get l.items.items i ≡ Some y → IsElement s k i y
element_read s k i l y w e p = record {
  line = l;
  stands = e;
  place = p;
  value = λ r h. element_is r.term l.defined l.items.items i y ((w.lines r.term h.nodes k l e).whole) p ∙ ap (λ v. place_in v i) (sym (h.lines k l e));
}
