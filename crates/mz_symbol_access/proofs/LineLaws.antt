-- An array whose elements are chosen by a condition is the chosen array.
use Rattle.std.proofs.Common.{◌≡◌, ◌∙◌, ℕ, Bool, true, false, List, length, map, Option, Some, None, slice_get, refl, sym, ap, subst, if◌then◌else◌}
use Rattle.std.specs.Option.{option_and_then}
use Rattle.mz_value.specs.Contents.{Content}
use Rattle.mz_arena.specs.Values.{Term, if_term, is_true}
use Rattle.mz_meaning.specs.Cells.{Bare}
use Rattle.mz_symbol.specs.declared.types.Symbol.{Symbol}
use Rattle.mz_symbol.specs.declared.types.Line.{Line}
use Rattle.mz_symbol.specs.Symbols.{symbol_value, all_there, elements_value, AreWhole}
use Rattle.mz_symbol.specs.Runs.{Run, ReadsNodes, IsRun}
use Rattle.mz_symbol.specs.Readings.{Reading, Reads, line_in}
use Rattle.mz_symbol_arrays.specs.LineValues.{count_of}
use Rattle.mz_symbol_access.specs.ChosenValues.{chosen_line}
use Rattle.mz_symbol_access.specs.Standing.{StandFor}
use Rattle.mz_symbol_access.specs.StepsChoose.{AreChosen}
use Rattle.mz_symbol_access.specs.StepsLines.{HasItems}
use Rattle.mz_symbol_access.proofs.ItemLaws.{all_first, all_second, same_values, same_items}

-- terms that obey a run's nodes are a reading's
abbrev pub reading_of : (ℕ → Term) → Run → Reading
reading_of t s = record { mode = Bare; term = t; line = λ k. line_in t (slice_get s.lines k) }

pub read_by : (t : ℕ → Term) (s : Run) → ReadsNodes t s.arena → Reads (reading_of t s) s
read_by t s h = record { nodes = h; choices = refl; lines = λ k l e. ap (line_in t) e }

if_true : (x y z : Term) (b : Bool) → is_true x ≡ b → is_true (if_term x y z) ≡ (if b then is_true y else is_true z)
unfolding if_term
if_true x y z true h = ap (λ b. is_true (if b then y else z)) h
if_true x y z false h = ap (λ b. is_true (if b then y else z)) h

-- ---- the value

abbrev value_where : Bool → Option (List Content) → Option (List Content)
value_where b o = option_and_then (λ xs. if b then Some xs else None) o

where_false : (o : Option (List Content)) → value_where false o ≡ None
where_false None = refl
where_false (Some xs) = refl

-- elements that stand for others, of an array that is defined where the other one is
pub stands_value : (t : ℕ → Term) (d e : ℕ) (ps ss : List Symbol) → is_true (t d) ≡ is_true (t e) → StandFor t ps ss → AreWhole t d ps → elements_value t d ps ≡ elements_value t e ss
stands_value t d e ps ss h w k = by (is_true (t d)) refl ∙ ap (λ b. value_where b (all_there (map (symbol_value t) ss))) h
  where
    by : (b : Bool) → is_true (t d) ≡ b → value_where (is_true (t d)) (all_there (map (symbol_value t) ps)) ≡ value_where (is_true (t d)) (all_there (map (symbol_value t) ss))
    by true i = ap (λ vs. value_where (is_true (t d)) (all_there vs)) (same_values t ps ss w (k i))
    by false i =
        ap (λ b. value_where b (all_there (map (symbol_value t) ps))) i
        ∙ where_false (all_there (map (symbol_value t) ps))
        ∙ sym (where_false (all_there (map (symbol_value t) ss)))
        ∙ sym (ap (λ b. value_where b (all_there (map (symbol_value t) ss))) i)

defined_first : (t : ℕ → Term) (c d e id : ℕ) → is_true (t c) ≡ true → if_term (t c) (t d) (t e) ≡ t id → is_true (t d) ≡ is_true (t id)
defined_first t c d e id h i = sym (if_true (t c) (t d) (t e) true h) ∙ ap is_true i

defined_second : (t : ℕ → Term) (c d e id : ℕ) → is_true (t c) ≡ false → if_term (t c) (t d) (t e) ≡ t id → is_true (t e) ≡ is_true (t id)
defined_second t c d e id h i = sym (if_true (t c) (t d) (t e) false h) ∙ ap is_true i

chosen_value : (t : ℕ → Term) (c d e id : ℕ) (ps qs ss : List Symbol) (b : Bool) → is_true (t c) ≡ b → if_term (t c) (t d) (t e) ≡ t id → AreWhole t d ps → AreWhole t e qs → AreChosen t c ps qs ss → (if b then elements_value t d ps else elements_value t e qs) ≡ elements_value t id ss
chosen_value t c d e id ps qs ss true h i u v w = stands_value t d id ps ss (defined_first t c d e id h i) (all_first t c ps qs ss h w) u
chosen_value t c d e id ps qs ss false h i u v w = stands_value t e id qs ss (defined_second t c d e id h i) (all_second t c ps qs ss h w) v

line_is : (r : Reading) (s : Run) (k d : ℕ) (ps : List Symbol) → HasItems s k d ps → Reads r s → r.line k ≡ elements_value r.term d ps
line_is r s k d ps h q = q.lines k h.line h.stands ∙ ap (λ i. elements_value r.term i h.line.items.items) h.defined ∙ ap (elements_value r.term d) h.items

pub chosen_is : (r : Reading) (s : Run) (c p q d e id : ℕ) (ps qs ss : List Symbol) → HasItems s p d ps → HasItems s q e qs → Reads r s → if_term (r.term c) (r.term d) (r.term e) ≡ r.term id → AreChosen r.term c ps qs ss → chosen_line r c p q ≡ elements_value r.term id ss
chosen_is r s c p q d e id ps qs ss h k z i w =
    ap (λ v. if is_true (r.term c) then v else r.line q) (line_is r s p d ps h z)
    ∙ ap (λ v. if is_true (r.term c) then elements_value r.term d ps else v) (line_is r s q e qs k z)
    ∙ chosen_value r.term c d e id ps qs ss (is_true (r.term c)) refl i (h.whole r.term z.nodes) (k.whole r.term z.nodes) w

-- ---- its elements have values

whole_by : (t : ℕ → Term) (c d e id : ℕ) (ps qs ss : List Symbol) (b : Bool) → is_true (t c) ≡ b → if_term (t c) (t d) (t e) ≡ t id → AreWhole t d ps → AreWhole t e qs → AreChosen t c ps qs ss → AreWhole t id ss
whole_by t c d e id ps qs ss true h i u v w = λ x. same_items t ps ss (all_first t c ps qs ss h w) (u (defined_first t c d e id h i ∙ x))
whole_by t c d e id ps qs ss false h i u v w = λ x. same_items t qs ss (all_second t c ps qs ss h w) (v (defined_second t c d e id h i ∙ x))

pub chosen_whole : (t : ℕ → Term) (s : Run) (c p q d e id : ℕ) (ps qs ss : List Symbol) → HasItems s p d ps → HasItems s q e qs → ReadsNodes t s.arena → if_term (t c) (t d) (t e) ≡ t id → AreChosen t c ps qs ss → AreWhole t id ss
chosen_whole t s c p q d e id ps qs ss h k z i w = whole_by t c d e id ps qs ss (is_true (t c)) refl i (h.whole t z) (k.whole t z) w

-- ---- an array's elements

pub has_items : (s : Run) (k : ℕ) (l : Line) (ss : List Symbol) → slice_get s.lines k ≡ Some l → ss ≡ l.items.items → IsRun s → HasItems s k l.defined ss
has_items s k l ss e i z = record {
  line = l;
  stands = e;
  defined = refl;
  items = sym i;
  whole = λ t h. subst (AreWhole t l.defined) (sym i) (z.lines t h k l e).whole;
}

pub items_count : (s : Run) (k d n : ℕ) (ss : List Symbol) → HasItems s k d ss → length ss ≡ n → count_of (slice_get s.lines k) ≡ n
items_count s k d n ss h e = ap count_of h.stands ∙ ap (λ xs. length xs) h.items ∙ e
