-- The value of one var array after another.
use Rattle.std.proofs.Common.{◌≡◌, ◌∙◌, ◌+◌, ◌*◌, ◌≤◌, ℕ, Bool, true, false, ◌&&◌, List, [], ◌∷◌, ◌++◌, map, length, Option, Some, None, refl, sym, ap, subst, arith, slice_get, if◌then◌else◌}
use Rattle.std.proofs.lemmas.List.{map-append, length-append}
use Rattle.std.specs.Option.{option_map, option_and_then}
use Rattle.mz_value.specs.Contents.{Content}
use Rattle.mz_arena.specs.Values.{Term, and_term, is_true}
use Rattle.mz_symbol_rows.proofs.RowLaws.{bit_true}
use Rattle.mz_meaning.specs.Cells.{Bare}
use Rattle.mz_symbol.specs.declared.types.Symbol.{Symbol}
use Rattle.mz_symbol.specs.declared.types.Line.{Line}
use Rattle.mz_symbol.specs.Symbols.{symbol_value, all_there, elements_value, AreItems, AreWhole}
use Rattle.mz_symbol.specs.Runs.{Run, ReadsNodes}
use Rattle.mz_symbol.specs.Readings.{Reading, Reads, line_in}
use Rattle.mz_symbol_arrays.specs.LineValues.{IsLineOf, count_of}
use Rattle.mz_symbol_access.specs.JoinValues.{joined_values}

-- terms that obey a run's nodes are a reading's
abbrev pub reading_of : (ℕ → Term) → Run → Reading
reading_of t s = record { mode = Bare; term = t; line = λ k. line_in t (slice_get s.lines k) }

pub read_by : (t : ℕ → Term) (s : Run) → ReadsNodes t s.arena → Reads (reading_of t s) s
read_by t s h = record { nodes = h; choices = refl; lines = λ k l e. ap (line_in t) e }

-- ---- values

join_more : (x : Content) (o p : Option (List Content)) → joined_values (option_map (λ ys. x ∷ ys) o) p ≡ option_map (λ ys. x ∷ ys) (joined_values o p)
join_more x None p = refl
join_more x (Some xs) None = refl
join_more x (Some xs) (Some ys) = refl

join_none : (p : Option (List Content)) → joined_values (Some []) p ≡ p
join_none None = refl
join_none (Some ys) = refl

there_joined : (vs ws : List (Option Content)) → joined_values (all_there vs) (all_there ws) ≡ all_there (vs ++ ws)
there_joined [] ws = join_none (all_there ws)
there_joined (None ∷ vs) ws = refl
there_joined (Some x ∷ vs) ws = join_more x (all_there vs) (all_there ws) ∙ ap (option_map (λ ys. x ∷ ys)) (there_joined vs ws)

abbrev value_where : Bool → Option (List Content) → Option (List Content)
value_where b o = option_and_then (λ xs. if b then Some xs else None) o

where_joined : (b c : Bool) (o p : Option (List Content)) → joined_values (value_where b o) (value_where c p) ≡ value_where (b && c) (joined_values o p)
where_joined b c None p = refl
where_joined true c (Some xs) None = refl
where_joined false c (Some xs) None = refl
where_joined true true (Some xs) (Some ys) = refl
where_joined true false (Some xs) (Some ys) = refl
where_joined false c (Some xs) (Some ys) = refl

and_is : (x y z : Term) → and_term x y ≡ z → is_true z ≡ (is_true x && is_true y)
unfolding and_term
and_is x y z e = ap is_true (sym e) ∙ bit_true (is_true x && is_true y)

elements_joined : (t : ℕ → Term) (d e id : ℕ) (ps qs : List Symbol) → and_term (t d) (t e) ≡ t id → joined_values (elements_value t d ps) (elements_value t e qs) ≡ elements_value t id (ps ++ qs)
elements_joined t d e id ps qs h =
    where_joined (is_true (t d)) (is_true (t e)) (all_there (map (symbol_value t) ps)) (all_there (map (symbol_value t) qs))
    ∙ ap (λ b. value_where b (joined_values (all_there (map (symbol_value t) ps)) (all_there (map (symbol_value t) qs)))) (sym (and_is (t d) (t e) (t id) h))
    ∙ ap (value_where (is_true (t id))) (there_joined (map (symbol_value t) ps) (map (symbol_value t) qs) ∙ ap all_there (sym (map-append (symbol_value t) ps qs)))

-- ---- elements

some_same : {A : Type 0} (x y : A) → Some x ≡ Some y → x ≡ y
some_same x y e = cc

items_are : (s : Run) (k d n : ℕ) (ss : List Symbol) (h : IsLineOf s k d n) → option_map (λ l. l.items.items) (slice_get s.lines k) ≡ Some ss → h.line.items.items ≡ ss
items_are s k d n ss h e = some_same h.line.items.items ss (sym (ap (option_map (λ (l : Line). l.items.items)) h.stands) ∙ e)

line_is : (r : Reading) (s : Run) (k d n : ℕ) (ss : List Symbol) → IsLineOf s k d n → option_map (λ l. l.items.items) (slice_get s.lines k) ≡ Some ss → Reads r s → r.line k ≡ elements_value r.term d ss
line_is r s k d n ss h e q = q.lines k h.line h.stands ∙ ap (λ i. elements_value r.term i h.line.items.items) h.defined ∙ ap (elements_value r.term d) (items_are s k d n ss h e)

pub joined_is : (r : Reading) (s : Run) (x y d e n m id : ℕ) (ps qs all : List Symbol) → IsLineOf s x d n → IsLineOf s y e m → option_map (λ l. l.items.items) (slice_get s.lines x) ≡ Some ps → option_map (λ l. l.items.items) (slice_get s.lines y) ≡ Some qs → all ≡ ps ++ qs → Reads r s → and_term (r.term d) (r.term e) ≡ r.term id → joined_values (r.line x) (r.line y) ≡ elements_value r.term id all
joined_is r s x y d e n m id ps qs all h k f g i z w =
    ap (λ v. joined_values v (r.line y)) (line_is r s x d n ps h f z)
    ∙ ap (joined_values (elements_value r.term d ps)) (line_is r s y e m qs k g z)
    ∙ elements_joined r.term d e id ps qs w
    ∙ ap (elements_value r.term id) (sym i)

items_joined : (t : ℕ → Term) (ps qs : List Symbol) → AreItems t ps → AreItems t qs → AreItems t (ps ++ qs)
items_joined t [] qs a b = b
items_joined t (p ∷ ps) qs a b = (a.0, items_joined t ps qs a.1 b)

both_true : (b c d : Bool) → d ≡ (b && c) → d ≡ true → (b ≡ true) × (c ≡ true)
both_true true true d e h = (refl, refl)
both_true true false d e h = absurd (cc)
both_true false c d e h = absurd (cc)

pub joined_whole : (t : ℕ → Term) (s : Run) (x y d e n m id : ℕ) (ps qs all : List Symbol) → IsLineOf s x d n → IsLineOf s y e m → option_map (λ l. l.items.items) (slice_get s.lines x) ≡ Some ps → option_map (λ l. l.items.items) (slice_get s.lines y) ≡ Some qs → all ≡ ps ++ qs → ReadsNodes t s.arena → and_term (t d) (t e) ≡ t id → AreWhole t id all
joined_whole t s x y d e n m id ps qs all h k f g i z w = λ u.
    let both : (is_true (t d) ≡ true) × (is_true (t e) ≡ true) = both_true (is_true (t d)) (is_true (t e)) (is_true (t id)) (and_is (t d) (t e) (t id) w) u in
    subst (AreItems t) (sym i)
    (items_joined t ps qs
    (subst (AreItems t) (items_are s x d n ps h f) (h.whole t z both.0))
    (subst (AreItems t) (items_are s y e m qs k g) (k.whole t z both.1)))

-- ---- charges

count_is : (s : Run) (k : ℕ) (o : Option Line) (ss : List Symbol) → option_map (λ l. l.items.items) o ≡ Some ss → length ss ≡ count_of o
count_is s k None ss e = absurd (cc)
count_is s k (Some l) ss e = ap (λ (xs : List Symbol). length xs) (some_same ss l.items.items (sym e))

sums : (a b c n m e : ℕ) → a ≡ b + c → b ≡ n → c ≡ m → e ≡ a → 6 + 4 * a + 16 * e ≤ 20 * n + 20 * m + 6
sums a b c n m e f g h i = omega (arith, f, g, h, i)

pub joined_cost : (s : Run) (x y : ℕ) (ps qs items all : List Symbol) → option_map (λ l. l.items.items) (slice_get s.lines x) ≡ Some ps → option_map (λ l. l.items.items) (slice_get s.lines y) ≡ Some qs → items ≡ ps ++ qs → length all ≡ length items → 6 + 4 * length items + 16 * length all ≤ 20 * count_of (slice_get s.lines x) + 20 * count_of (slice_get s.lines y) + 6
joined_cost s x y ps qs items all f g i e =
    sums (length items) (length ps) (length qs) (count_of (slice_get s.lines x)) (count_of (slice_get s.lines y)) (length all) (ap (λ (xs : List Symbol). length xs) i ∙ length-append ps qs) (count_is s x (slice_get s.lines x) ps f) (count_is s y (slice_get s.lines y) qs g) e
