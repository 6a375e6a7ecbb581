-- Items that are evaluated one by one, and joined.
use Rattle.std.proofs.Common.{◌≡◌, ◌∙◌, ℕ, zero, suc, ◌+◌, ◌-◌, ◌<◌, ◌≤◌, ℤ, List, [], ◌∷◌, ◌++◌, map, drop, length, get_or, Option, Some, None, Result, Err, refl, sym, ap, arith, subst}
use Rattle.std.proofs.lemmas.List.{append-nil, append_assoc}
use Rattle.mz_base.specs.declared.fault.Span.{Span}
use Rattle.std.specs.Prelude.{Vec}
use Rattle.std.specs.declared.alloc.Global.{Global}
use Rattle.mz_base.specs.declared.fault.Fault.{Fault}
use Rattle.mz_base.specs.declared.stop.Stop.{Stop}
use Rattle.mz_base.specs.declared.stop.Stop.TheVariants as stops
use Rattle.mz_base.specs.Counts.{Spending, Nesting}
use Rattle.mz_value.specs.Contents.{Content}
use Rattle.mz_core.specs.Program.{PlainProgram}
use Rattle.mz_core.specs.Tree.{Tree, place_of}
use Rattle.mz_meaning.specs.Runs.{State, Answer, Out, Stopped, start, then_do, give, loop}
use Rattle.mz_meaning.specs.Cells.{Cell, Env, value_of}
use Rattle.mz_meaning.specs.Contexts.{Untested}
use Rattle.mz_meaning.specs.Forms.{World}
use Rattle.mz_meaning.specs.Evaluation.{eval}
use Rattle.mz_eval_scopes.specs.Runs.{Meets, at_work}
use Rattle.mz_eval_scopes.specs.Views.{world_for}
use Rattle.mz_eval.specs.Values.{value_in}
use Rattle.mz_print.specs.Output.{OutputItem, output_item, output_items, joined_elements, joined_items}
use Rattle.mz_print_stream.specs.Printing.{Text, says, refuses, Says}
use Rattle.mz_print.specs.Items.{JoinedText, nothing_joined, next_joined, finished, text_of}

-- ---- what is joined of some items

abbrev pub all_joined : JoinedText → List OutputItem → JoinedText
all_joined j [] = j
all_joined j (i ∷ is) = all_joined (next_joined j i) is

joined_last : (j : JoinedText) (is : List OutputItem) (i : OutputItem) → all_joined j (is ++ i ∷ []) ≡ next_joined (all_joined j is) i
joined_last j [] i = refl
joined_last j (k ∷ ks) i = joined_last (next_joined j k) ks i

stays : (t : List ℕ) (at : Span) (is : List OutputItem) → all_joined (record { text = t; undefined = Some at }) is ≡ record { text = t; undefined = Some at }
stays t at [] = refl
stays t at (i ∷ is) = stays t at is

twice : (t u : List ℕ) (r : Answer (List ℕ)) → then_do (then_do r (λ rest. give (u ++ rest))) (λ rest. give (t ++ rest)) ≡ then_do r (λ rest. give ((t ++ u) ++ rest))
twice t u (Out x s) = ap (λ ys. Out ys s) (sym (append_assoc t u x))
twice t u (Stopped f) = refl

joined_is : (n : ℕ) (t : List ℕ) (is : List OutputItem) (s : State) → text_of (then_do (joined_items n is s) (λ rest. give (t ++ rest))) ≡ finished n (all_joined (record { text = t; undefined = None }) is)
joined_is n t [] s = ap says (append-nil t)
joined_is n t ((at, None) ∷ is) s = sym (ap (λ j. finished n j) (stays t at is))
joined_is n t ((at, Some x) ∷ is) s = ap text_of (twice t (joined_elements x) (joined_items n is s)) ∙ joined_is n (t ++ joined_elements x) is s

once : (r : Answer (List ℕ)) → then_do r (λ rest. give ([] ++ rest)) ≡ r
once (Out x s) = refl
once (Stopped f) = refl

all_joined_is : (n : ℕ) (is : List OutputItem) (s : State) → text_of (joined_items n is s) ≡ finished n (all_joined nothing_joined is)
all_joined_is n is s = sym (ap text_of (once (joined_items n is s))) ∙ joined_is n [] is s

-- ---- an item's value

item_by_value : (r : Answer Cell) (f : Option Content → List OutputItem) → then_do r (λ c. give (f (value_of c))) ≡ then_do (then_do r (λ c. give (value_of c))) (λ v. give (f v))
item_by_value (Out c s) f = refl
item_by_value (Stopped g) f = refl

-- the evaluation of an item by the call `value`
value_is : (p : PlainProgram) (n : ℤ) (env : Env) (s : Spending) (d : Nesting) (budget : ℕ) (e : Tree) → s.budget ≡ budget → d.limit - d.nesting ≡ 600 → then_do (eval (world_for p budget n env) 600 Untested e env (at_work s.used)) (λ c. give (value_of c)) ≡ value_in p n env s d e
value_is p n env s d budget e b l =
    ap (λ k. then_do (eval (world_for p k n env) 600 Untested e env (at_work s.used)) (λ c. give (value_of c))) (sym b)
    ∙ ap (λ k. then_do (eval (world_for p s.budget n env) k Untested e env (at_work s.used)) (λ c. give (value_of c))) (sym l)

abbrev item_of : List OutputItem → Tree → Option Content → List OutputItem
item_of is e v = is ++ (place_of e, v) ∷ []

item_is : (p : PlainProgram) (n : ℤ) (env : Env) (s : Spending) (d : Nesting) (budget : ℕ) (e : Tree) (is : List OutputItem) (a : Answer (Option Content)) → s.budget ≡ budget → d.limit - d.nesting ≡ 600 → value_in p n env s d e ≡ a → output_item (world_for p budget n env) is e (at_work s.used) ≡ then_do a (λ v. give (item_of is e v))
item_is p n env s d budget e is a b l h =
    item_by_value (eval (world_for p budget n env) 600 Untested e env (at_work s.used)) (item_of is e)
    ∙ ap (λ r. then_do r (λ v. give (item_of is e v))) (value_is p n env s d budget e b l ∙ h)

-- ---- the loop

-- WHAT THE LOOP KEEPS: the items so far, evaluated on with the rest, are all items; and what is joined of them
pub record ItemsSoFar (w : World) (es rest : List Tree) (work : ℕ) (j : JoinedText) : Type 0 where
  pub items : List OutputItem
  pub goes : loop (output_item w) items rest (at_work work) ≡ output_items w es start
  pub is : j ≡ all_joined nothing_joined items

pub items_begin : (w : World) (es : List Tree) (work : ℕ) (j : JoinedText) → work ≡ 0 → j ≡ nothing_joined → ItemsSoFar w es es work j
items_begin w es work j none is = record { items = []; goes = ap (λ n. loop (output_item w) [] es (at_work n)) none; is = is }

drop_seen : {X Y : Type 0} (f : X → Y) (xs : List X) (k : ℕ) (x : X) → k < length xs → x ≡ get_or xs k x → drop k (map f xs) ≡ f x ∷ drop (suc k) (map f xs)
drop_seen f [] k x l is = absurd (omega arith)
drop_seen f (y ∷ ys) zero x l is = ap (λ z. f z ∷ map f ys) (sym is)
drop_seen f (y ∷ ys) (suc k) x l is = drop_seen f ys k x (omega arith) is

-- one step of a run that is left
left_is : {X : Type 0} (f : X → Tree) (w : World) (xs : List X) (k : ℕ) (x : X) (is : List OutputItem) (s : State) → k < length xs → x ≡ get_or xs k x → loop (output_item w) is (drop k (map f xs)) s ≡ then_do (output_item w is (f x) s) (λ next. loop (output_item w) next (drop (k + 1) (map f xs)))
left_is f w xs k x is s l at =
    let n : suc k ≡ k + 1 = omega arith in
    ap (λ es. loop (output_item w) is es s) (drop_seen f xs k x l at ∙ ap (λ m. f x ∷ drop m (map f xs)) n)

pub items_go_on : {X : Type 0} (f : X → Tree) (p : PlainProgram) (n : ℤ) (env : Env) (s : Spending) (d : Nesting) (budget : ℕ) (xs : List X) (k : ℕ) (x : X) (j next : JoinedText) (at : Span) (v : Option Content) (work : ℕ) → k < length xs → x ≡ get_or xs k x → at ≡ place_of (f x) → s.budget ≡ budget → d.limit - d.nesting ≡ 600 → ItemsSoFar (world_for p budget n env) (map f xs) (drop k (map f xs)) s.used j → value_in p n env s d (f x) ≡ Out v (at_work work) → next ≡ next_joined j (at, v) → ItemsSoFar (world_for p budget n env) (map f xs) (drop (k + 1) (map f xs)) work next
items_go_on f p n env s d budget xs k x j next at v work l is place b lim so_far h joins = record {
  items = item_of so_far.items (f x) v;
  goes =
      let w = world_for p budget n env in
      sym (left_is f w xs k x so_far.items (at_work s.used) l is
      ∙ ap (λ r. then_do r (λ more. loop (output_item w) more (drop (k + 1) (map f xs)))) (item_is p n env s d budget (f x) so_far.items (Out v (at_work work)) b lim h))
      ∙ so_far.goes;
  is = joins ∙ (ap (λ a. next_joined j (a, v)) place ∙ (ap (λ i. next_joined i (place_of (f x), v)) so_far.is ∙ sym (joined_last nothing_joined so_far.items (place_of (f x), v))));
}

-- a fault in an item is the text's
pub items_stop : {X : Type 0} (f : X → Tree) (p : PlainProgram) (n : ℤ) (env : Env) (s : Spending) (d : Nesting) (budget : ℕ) (xs : List X) (k : ℕ) (x : X) (j : JoinedText) (g : Fault) (block : ℕ) → k < length xs → x ≡ get_or xs k x → s.budget ≡ budget → d.limit - d.nesting ≡ 600 → ItemsSoFar (world_for p budget n env) (map f xs) (drop k (map f xs)) s.used j → value_in p n env s d (f x) ≡ Stopped g → text_of (then_do (output_items (world_for p budget n env) (map f xs) start) (joined_items block)) ≡ refuses g
items_stop f p n env s d budget xs k x j g block l is b lim so_far h =
    let w = world_for p budget n env in
    ap (λ r. text_of (then_do r (joined_items block)))
    (sym so_far.goes
    ∙ (left_is f w xs k x so_far.items (at_work s.used) l is
    ∙ ap (λ r. then_do r (λ more. loop (output_item w) more (drop (k + 1) (map f xs)))) (item_is p n env s d budget (f x) so_far.items (Stopped g) b lim h)))

drop_past : {X : Type 0} (xs : List X) (k : ℕ) → length xs ≤ k → drop k xs ≡ []
drop_past [] zero l = refl
drop_past [] (suc k) l = refl
drop_past (x ∷ xs) zero l = absurd (omega arith)
drop_past (x ∷ xs) (suc k) l = drop_past xs k (omega arith)

pub items_end : (w : World) (es : List Tree) (k work : ℕ) (j : JoinedText) (block : ℕ) → length es ≤ k → ItemsSoFar w es (drop k es) work j → text_of (then_do (output_items w es start) (joined_items block)) ≡ finished block j
items_end w es k work j block l so_far =
    ap (λ r. text_of (then_do r (joined_items block))) (sym so_far.goes ∙ ap (λ rest. loop (output_item w) so_far.items rest (at_work work)) (drop_past es k l))
    ∙ (all_joined_is block so_far.items (at_work work) ∙ sym (ap (λ i. finished block i) so_far.is))

-- the answer where an item stops
pub item_stops : {X V : Type 0} (see : V → Option Content) (f : X → Tree) (p : PlainProgram) (n : ℤ) (env : Env) (s : Spending) (d : Nesting) (budget work : ℕ) (xs : List X) (k : ℕ) (x : X) (j : JoinedText) (stop : Stop) (block : ℕ) → k < length xs → x ≡ get_or xs k x → s.budget ≡ budget → d.limit - d.nesting ≡ 600 → ItemsSoFar (world_for p budget n env) (map f xs) (drop k (map f xs)) s.used j → Meets {A = V} see (Err stop) work (value_in p n env s d (f x)) → Says (text_of (then_do (output_items (world_for p budget n env) (map f xs) start) (joined_items block))) (Err stop)
item_stops see f p n env s d budget work xs k x j (stops.Refused g) block l is b lim so_far h = items_stop f p n env s d budget xs k x j g block l is b lim so_far h
item_stops see f p n env s d budget work xs k x j stops.Memory block l is b lim so_far h = tt

-- a text that is what it promises
pub says_same : (t u : Text) (r : Result (Vec ℕ Global) Stop) → t ≡ u → Says u r → Says t r
says_same t u r is h = subst (λ v. Says v r) (sym is) h
