-- The values of arguments.
use Rattle.std.proofs.Common.{◌≡◌, ◌∙◌, ℕ, ℤ, Bool, true, false, List, [], ◌∷◌, ◌++◌, map, Option, Some, None, IsSome, slice_get, refl, sym, ap, subst, if◌then◌else◌}
use Rattle.std.specs.Option.{option_map, option_and_then}
use Rattle.mz_value.specs.Ranges.{Range}
use Rattle.mz_value.specs.Contents.{Content, contents}
use Rattle.mz_value.specs.Contents as values
use Rattle.mz_core.specs.declared.types.Base.TheVariants as base
use Rattle.mz_symbol.specs.Symbols.{content_by, symbol_value, all_there, elements_value, AreItems}
use Rattle.mz_arena.specs.Values.{Term, as_number, is_true}
use Rattle.mz_symbol.specs.declared.types.Line.{Line}
use Rattle.mz_symbol.specs.Lines.{only_if}
use Rattle.mz_symbol.specs.Runs.{Run, IsRun}
use Rattle.mz_symbol.specs.Readings.{Reading, Reads}
use Rattle.glob_nodes.specs.declared.arguments.Numbers.{Numbers}
use Rattle.glob_nodes.specs.Arguments.{all_numbers, numbers_in, array_of, array_value, IsWhole, int_symbol}

-- ---- the elements of a line of integers

mapped_cons : (n : ℤ) (q : Option (List ℤ)) → option_map (λ ys. values.int n ∷ ys) (option_map (map values.int) q) ≡ option_map (map values.int) (option_map (λ ns. n ∷ ns) q)
mapped_cons n None = refl
mapped_cons n (Some ns) = refl

value_cons : (o : Option ℤ) (vs : List (Option Content)) (ns : List (Option ℤ)) → all_there vs ≡ option_map (map values.int) (all_numbers ns) → all_there (option_map (λ n. content_by base.Int n []) o ∷ vs) ≡ option_map (map values.int) (all_numbers (o ∷ ns))
value_cons None vs ns h = refl
value_cons (Some n) vs ns h = ap (option_map (λ ys. values.int n ∷ ys)) h ∙ mapped_cons n (all_numbers ns)

values_there : (t : ℕ → Term) (ids : List ℕ) → all_there (map (symbol_value t) (map int_symbol ids)) ≡ option_map (map values.int) (all_numbers (map (λ id. as_number (t id)) ids))
values_there t [] = refl
values_there t (id ∷ ids) = value_cons (as_number (t id)) (map (symbol_value t) (map int_symbol ids)) (map (λ id. as_number (t id)) ids) (values_there t ids)

line_numbers : (t : ℕ → Term) (x : Range) (d : ℕ) (ids : List ℕ) → array_of x (only_if (is_true (t d)) (all_numbers (map (λ id. as_number (t id)) ids))) ≡ option_map (λ xs. values.array (x ∷ []) (contents xs)) (elements_value t d (map int_symbol ids))
line_numbers t x d ids = by (is_true (t d)) (all_numbers (map (λ id. as_number (t id)) ids)) (all_there (map (symbol_value t) (map int_symbol ids))) (values_there t ids)
  where
    by : (b : Bool) (o : Option (List ℤ)) (p : Option (List Content)) → p ≡ option_map (map values.int) o → array_of x (only_if b o) ≡ option_map (λ xs. values.array (x ∷ []) (contents xs)) (option_and_then (λ xs. if b then Some xs else None) p)
    by true None p h = ap (λ p. option_map (λ xs. values.array (x ∷ []) (contents xs)) (option_and_then (λ xs. Some xs) p)) (sym h)
    by true (Some ns) p h = ap (λ p. option_map (λ xs. values.array (x ∷ []) (contents xs)) (option_and_then (λ xs. Some xs) p)) (sym h)
    by false None p h = ap (λ p. option_map (λ xs. values.array (x ∷ []) (contents xs)) (option_and_then (λ xs. if false then Some xs else None) p)) (sym h)
    by false (Some ns) p h = ap (λ p. option_map (λ xs. values.array (x ∷ []) (contents xs)) (option_and_then (λ xs. if false then Some xs else None) p)) (sym h)

-- a line of integers is an array of them
pub line_value_is : (s : Run) (k : ℕ) (l : Line) (first last : ℤ) (a : Numbers) (r : Reading) → slice_get s.lines k ≡ Some l → a.first ≡ first → a.last ≡ last → a.defined ≡ l.defined → map int_symbol a.items.items ≡ l.items.items → Reads r s → array_value r a ≡ option_map (λ xs. values.array ((first, last) ∷ []) (contents xs)) (r.line k)
line_value_is s k l first last a r e p q d i h =
    ap (λ n. array_of (n, a.last) (numbers_in r a)) p
    ∙ ap (λ n. array_of (first, n) (numbers_in r a)) q
    ∙ line_numbers r.term (first, last) a.defined a.items.items
    ∙ ap (λ n. option_map (λ xs. values.array ((first, last) ∷ []) (contents xs)) (elements_value r.term n (map int_symbol a.items.items))) d
    ∙ ap (λ ss. option_map (λ xs. values.array ((first, last) ∷ []) (contents xs)) (elements_value r.term l.defined ss)) i
    ∙ ap (option_map (λ xs. values.array ((first, last) ∷ []) (contents xs))) (sym (h.lines k l e))

some_mapped : (n : ℤ) (q : Option (List ℤ)) → IsSome q → IsSome (option_map (λ ns. n ∷ ns) q)
some_mapped n None h = absurd (cc)
some_mapped n (Some ns) h = refl

there_cons : (o : Option ℤ) (ns : List (Option ℤ)) → IsSome (option_map (λ n. content_by base.Int n []) o) → IsSome (all_numbers ns) → IsSome (all_numbers (o ∷ ns))
there_cons None ns h k = absurd (cc)
there_cons (Some n) ns h k = some_mapped n (all_numbers ns) k

items_there : (t : ℕ → Term) (ids : List ℕ) → AreItems t (map int_symbol ids) → IsSome (all_numbers (map (λ id. as_number (t id)) ids))
items_there t [] h = refl
items_there t (id ∷ ids) h = there_cons (as_number (t id)) (map (λ id. as_number (t id)) ids) h.0.value (items_there t ids h.1)

pub line_is_whole : (s : Run) (k : ℕ) (l : Line) (a : Numbers) → slice_get s.lines k ≡ Some l → a.defined ≡ l.defined → map int_symbol a.items.items ≡ l.items.items → IsRun s → IsWhole s a
line_is_whole s k l a e d i w r h q =
    items_there r.term a.items.items (subst (AreItems r.term) (sym i) ((w.lines r.term h.nodes k l e).whole (ap (λ n. is_true (r.term n)) (sym d) ∙ q)))
