-- The symbols of choices as the elements of a line.
use Rattle.std.proofs.Common.{◌≡◌, ◌∙◌, ℕ, zero, suc, ◌+◌, Bool, true, false, List, [], ◌∷◌, ◌++◌, length, map, drop, take, replicate, ◌-◌, slice_get, Option, Some, None, is_some, IsSome, refl, sym, ap, subst, arith, if◌then◌else◌}
use Rattle.std.specs.Option.{option_map, option_and_then}
use Rattle.mz_value.specs.Ranges.{Range}
use Rattle.mz_value.specs.Contents.{Content}
use Rattle.mz_core.specs.declared.types.Base.{Base}
use Rattle.mz_core.specs.declared.types.Base.TheVariants as base
use Rattle.mz_arena.specs.Entries.{Entry}
use Rattle.mz_arena.specs.Values.{Term, bit, is_true}
use Rattle.mz_meaning.specs.Cells.{Mode, Blank, Given}
use Rattle.mz_meaning.specs.Domains.{Domain}
use Rattle.mz_meaning.specs.Lets.{choices_from}
use Rattle.mz_meaning.specs.Runs.{State, Out, noted}
use Rattle.mz_instance.specs.Parts.{Part, parts_of, next, sort_of, is_subset_sort, IsNode, AreNodes}
use Rattle.mz_symbol.specs.declared.types.Free.{Free}
use Rattle.mz_symbol.specs.declared.types.Symbol.{Symbol}
use Rattle.mz_symbol.specs.Choices.{all_parts}
use Rattle.mz_symbol.specs.Symbols.{with_id, value_by, symbol_value, domain_of, free_ids, all_there, elements_value, IsOccurrence, IsItem, AreItems}
use Rattle.mz_symbol.specs.Runs.{Run, HasValue, ReadsNodes}
use Rattle.mz_symbol.specs.Readings.{Reading, IsGiven, Reads, ReadsChoices, state_of, taken_in}
use Rattle.mz_symbol.specs.Makes.{GoesOnBy}
use Rattle.mz_symbol.proofs.ConstantLaws.{out_value, out_state}
use Rattle.mz_eval_declared.specs.Locals.{IsChosenLine}
use Rattle.mz_eval_declared.specs.StepsTaking.{Takes, symbols_of}

-- ---- the nodes of choices have values

mapped_there : {A B : Type 0} (f : A → B) (o : Option A) → IsSome o → IsSome (option_map f o)
mapped_there f None h = absurd (cc)
mapped_there f (Some x) h = refl

value_there : (b : Base) (x : Term) → HasValue (is_subset_sort (sort_of b)) x → IsSome (value_by b x)
value_there base.SetInt x h = mapped_there _ _ h
value_there (base.SetEnum e) x h = mapped_there _ _ h
value_there b x h = mapped_there _ _ h

node_there : (t : ℕ → Term) (es : List Entry) (k : ℕ) (p : Part) (id : ℕ) → ReadsNodes t es → IsNode es true k p id → HasValue (is_subset_sort p.sort) (t id)
node_there t es k p id h n = subst (λ b. HasValue b (t id)) n.sort (h.frees id n.there n.stands n.free)

record FirstThere (t : ℕ → Term) (es : List Entry) (k : ℕ) (b : Base) (o : Option ℕ) (id : ℕ) (is : List ℕ) (ps : List Part) : Type 0 where
  value : IsSome (value_by b (t id))
  occurs : IsOccurrence t o
  rest : AreNodes es true (next (is_some o) k) is ps

first_there : (t : ℕ → Term) (es : List Entry) (k : ℕ) (b : Base) (u : List Range) (o : Option ℕ) (id : ℕ) (is : List ℕ) (ps : List Part) → ReadsNodes t es → AreNodes es true k (with_id o (id ∷ []) ++ is) (parts_of (is_some o) (record { sort = sort_of b; set = u }) ++ ps) → FirstThere t es k b o id is ps
first_there t es k b u None id is ps h ns = record { value = value_there b (t id) (node_there t es k _ id h ns.0); occurs = tt; rest = ns.1 }
first_there t es k b u (Some o) id is ps h ns = record { value = value_there b (t id) (node_there t es _ _ id h ns.1.0); occurs = node_there t es k _ o h ns.0; rest = ns.1.1 }

all_items : (t : ℕ → Term) (es : List Entry) (k : ℕ) (fs : List Free) → ReadsNodes t es → AreNodes es true k (free_ids fs) (all_parts (map domain_of fs)) → AreItems t (symbols_of fs)
all_items t es k [] h ns = tt
all_items t es k (f ∷ fs) h ns =
    let r = first_there t es k f.symbol.base f.set f.symbol.occurs f.symbol.term (free_ids fs) (all_parts (map domain_of fs)) h ns in
    (record { value = r.value; occurs = r.occurs }, all_items t es (next (is_some f.symbol.occurs) k) fs h r.rest)

dropped_items : (t : ℕ → Term) (n : ℕ) (fs : List Free) → AreItems t (symbols_of fs) → AreItems t (symbols_of (drop n fs))
dropped_items t zero fs h = h
dropped_items t (suc n) [] h = tt
dropped_items t (suc n) (f ∷ fs) h = dropped_items t n fs h.1

pub last_items : (t : ℕ → Term) (es : List Entry) (n : ℕ) (fs : List Free) → ReadsNodes t es → AreNodes es true 0 (free_ids fs) (all_parts (map domain_of fs)) → AreItems t (symbols_of (drop n fs))
last_items t es n fs h ns = dropped_items t n fs (all_items t es 0 fs h ns)

-- ---- their values

dropped_get : {A : Type 0} (n j : ℕ) (xs : List A) → slice_get (drop n xs) j ≡ slice_get xs (j + n)
dropped_get zero j xs = ap (slice_get xs) (omega arith)
dropped_get (suc n) j [] = refl
dropped_get (suc n) j (x ∷ xs) =
    let later : suc (j + n) ≡ j + suc n = omega arith in
    dropped_get n j xs ∙ ap (slice_get (x ∷ xs)) later

values_from : (t : ℕ → Term) (f : ℕ → Content) (k : ℕ) (cs : List Free) → ((j : ℕ) (c : Free) → slice_get cs j ≡ Some c → symbol_value t c.symbol ≡ Some (f (j + k))) → all_there (map (symbol_value t) (symbols_of cs)) ≡ Some (choices_from (Given f) k (length cs))
values_from t f k [] h = refl
values_from t f k (c ∷ cs) h =
    let here : 0 + k ≡ k = omega arith in
    let first : symbol_value t c.symbol ≡ Some (f k) = h 0 c refl ∙ ap (λ n. Some (f n)) here in
    let rest = values_from t f (suc k) cs (λ j d e. h (suc j) d e ∙ ap (λ n. Some (f n)) (shifted j)) in
    ap (λ (o : Option Content). all_there (o ∷ map (symbol_value t) (symbols_of cs))) first ∙ ap (λ (o : Option (List Content)). option_map (λ ys. f k ∷ ys) o) rest
  where
    shifted : (j : ℕ) → suc j + k ≡ j + suc k
    shifted j = omega arith

pub last_values : (t : ℕ → Term) (f : ℕ → Content) (n count : ℕ) (fs : List Free) → ((j : ℕ) (c : Free) → slice_get fs j ≡ Some c → symbol_value t c.symbol ≡ Some (f j)) → length (symbols_of (drop n fs)) ≡ count → all_there (map (symbol_value t) (symbols_of (drop n fs))) ≡ Some (choices_from (Given f) n count)
last_values t f n count fs h l =
    values_from t f n (drop n fs) (λ j c e. h (j + n) c (sym (dropped_get n j fs) ∙ e))
    ∙ ap (λ k. Some (choices_from (Given f) n k)) (sym (symbols_length (drop n fs)) ∙ l)
  where
    symbols_length : (cs : List Free) → length (symbols_of cs) ≡ length cs
    symbols_length [] = refl
    symbols_length (c ∷ cs) = ap suc (symbols_length cs)

-- ---- the line of an array that is defined

abbrev told : List Content → Bool → Option (List Content)
told vs b = if b then Some vs else None

line_told : (t : ℕ → Term) (id : ℕ) (ss : List Symbol) (vs : List Content) → t id ≡ bit true → all_there (map (symbol_value t) ss) ≡ Some vs → elements_value t id ss ≡ Some vs
line_told t id ss vs h e =
    ap (λ (o : Option (List Content)). option_and_then (λ xs. if is_true (t id) then Some xs else None) o) e
    ∙ ap (told vs) (ap is_true h)

mode_values : (m : Mode) (t : ℕ → Term) (start n : ℕ) (cs : List Free) → IsGiven m → ReadsChoices m t cs → length (symbols_of (drop start cs)) ≡ n → all_there (map (symbol_value t) (symbols_of (drop start cs))) ≡ Some (choices_from m start n)
mode_values (Given f) t start n cs g h l = last_values t f start n cs h l
mode_values (Blank b) t start n cs g h l = absurd g

domains_length : (cs : List Free) → length (map domain_of cs) ≡ length cs
domains_length [] = refl
domains_length (c ∷ cs) = ap suc (domains_length cs)

mode_length : (m : Mode) (cs : List Free) → IsGiven m → length (taken_in m cs) ≡ length cs
mode_length (Given f) cs g = domains_length cs
mode_length (Blank b) cs g = absurd g

pub chosen_line_is : (n k start id l : ℕ) (d : Domain) (old one two new : Run) (items : List Symbol) → ((r : Reading) → Reads r one → Out (bit true) (state_of r old) ≡ Out (r.term id) (state_of r one)) → start ≡ length one.choices → Takes n d one two → items ≡ symbols_of (drop start two.choices) → length items ≡ n → GoesOnBy k two new → ((r : Reading) → Reads r new → Out (elements_value r.term id items) (state_of r two) ≡ Out (r.line l) (state_of r new)) → IsChosenLine n d old new l
chosen_line_is n k start id l d old one two new items sure s a e count g p = record {
  taken = λ r h.
      let at = g.back r h in
      ap (λ u. noted r.mode (replicate n d) 0 u) (out_state (sure r (a.goes.back r at))) ∙ a.taken r at ∙ out_state (p r h);
  values = λ r given h.
      let at = g.back r h in
      let before = a.goes.back r at in
      let starts : start ≡ length (state_of r old).taken = s ∙ sym (mode_length r.mode one.choices given) ∙ ap (λ (u : State). length u.taken) (sym (out_state (sure r before))) in
      let there = ap (λ ss. all_there (map (symbol_value r.term) ss)) e ∙ mode_values r.mode r.term start n two.choices given at.choices (ap length (sym e) ∙ count) ∙ ap (λ j. Some (choices_from r.mode j n)) starts in
      sym (out_value (p r h)) ∙ line_told r.term id items (choices_from r.mode (length (state_of r old).taken) n) (sym (out_value (sure r before))) there;
}

-- ---- a slice up to the end

all_taken : {A : Type 0} (xs : List A) → take (length xs) xs ≡ xs
all_taken [] = refl
all_taken (x ∷ xs) = ap (λ ys. x ∷ ys) (all_taken xs)

none_taken : {A : Type 0} (k : ℕ) → take {A = A} k [] ≡ []
none_taken zero = refl
none_taken (suc k) = refl

pub taken_from : {A : Type 0} (n : ℕ) (xs : List A) → take (length xs - n) (drop n xs) ≡ drop n xs
taken_from zero xs =
    let all : length xs - 0 ≡ length xs = omega arith in
    ap (λ k. take k xs) all ∙ all_taken xs
taken_from (suc n) [] = none_taken (0 - suc n)
taken_from (suc n) (x ∷ xs) =
    let fewer : length (x ∷ xs) - suc n ≡ length xs - n = omega arith in
    ap (λ k. take k (drop n xs)) fewer ∙ taken_from n xs
