-- Nodes, symbols and lines that are constants.
use Rattle.std.proofs.Common.{◌≡◌, ◌∙◌, ℕ, ℤ, ◌+◌, ◌<◌, ◌≤◌, Bool, true, false, List, [], ◌∷◌, length, map, drop, get_or, slice_get, Option, Some, None, refl, sym, ap, if◌then◌else◌}
use Rattle.std.proofs.lemmas.List.{at_drop_more, at_drop_all}
use Rattle.std.specs.Option.{option_map, option_and_then}
use Rattle.mz_value.specs.Ranges.{Range}
use Rattle.mz_value.specs.declared.value.Value.{Value}
use Rattle.mz_value.specs.Contents.{Content, content, contents}
use Rattle.mz_value.specs.Contents as values
use Rattle.mz_core.specs.declared.types.Base.{Base}
use Rattle.mz_core.specs.declared.types.Base.TheVariants as base
use Rattle.mz_arena.specs.declared.node.Node.{Node}
use Rattle.mz_arena.specs.declared.node.NodeKind.{NodeKind}
use Rattle.mz_arena.specs.declared.node.NodeKind.TheVariants.{Int, Bool as BoolNode}
use Rattle.mz_arena.specs.Entries.{Entry, children, is_free}
use Rattle.mz_arena.specs.Terms.{kind_term}
use Rattle.mz_arena.specs.Values.{Term, Values, bit, is_true, number}
use Rattle.mz_meaning.specs.Cells.{held}
use Rattle.mz_symbol.specs.declared.types.Symbol.{Symbol}
use Rattle.mz_symbol.specs.declared.types.Line.{Line}
use Rattle.mz_symbol.specs.Symbols.{all_there, line_value, symbol_value, value_at, value_by}
use Rattle.mz_symbol.specs.Runs.{ReadsNodes}
use Rattle.mz_symbol.specs.Readings.{Reading, no_values}
use Rattle.mz_symbol_rows.proofs.RowLaws.{truth_by}
use Rattle.mz_symbol_arrays.specs.LineValues.{array_argument}
use Rattle.mz_eval_cells.specs.declared.types.Origins.{Origins}
use Rattle.mz_eval_cells.specs.Views.{array_of, cast_by, origins_value}
use Rattle.mz_eval_symbols.specs.Steps.{elements_cast}
use Rattle.mz_eval_symbols.proofs.Arrays.{array_cast, held_twice}
use Rattle.mz_eval_elements.specs.StepsLines.{is_literal, IsLiteral, Show}

-- ---- nodes

bound_literal : (k : NodeKind) → is_literal k ≡ true → is_free k ≡ false
bound_literal Int h = refl
bound_literal BoolNode h = refl
bound_literal k h = absurd (cc)

literal_term : (v : Values) (e : Entry) (k : NodeKind) (xs : List Term) → is_literal k ≡ true → kind_term v e k xs ≡ Some (number e.node.number)
literal_term v e Int xs h = refl
literal_term v e BoolNode xs h = refl
literal_term v e k xs h = absurd (cc)

entry_read : (t : ℕ → Term) (es : List Entry) (id : ℕ) (n : Node) (m : ℤ) (o : Option Entry) → slice_get es id ≡ o → option_map (λ e. e.node) o ≡ Some n → IsLiteral n m → ReadsNodes t es → t id ≡ Some (number m)
entry_read t es id n m None s e l h = absurd (cc)
entry_read t es id n m (Some x) s e l h =
    let same : x.node ≡ n = cc in
    let kind : is_literal x.node.kind ≡ true = ap (λ y. is_literal y.kind) same ∙ l.kind in
    h.kinds id x s (bound_literal x.node.kind kind) no_values
    ∙ literal_term no_values x x.node.kind (map t (children x.node)) kind
    ∙ ap (λ y. Some (number y)) (ap (λ y. y.number) same ∙ l.number)

pub literal_read : (t : ℕ → Term) (es : List Entry) (id : ℕ) (n : Node) (m : ℤ) → option_map (λ e. e.node) (slice_get es id) ≡ Some n → IsLiteral n m → ReadsNodes t es → t id ≡ Some (number m)
literal_read t es id n m e l h = entry_read t es id n m (slice_get es id) refl e l h

-- ---- symbols

plain_value : (t : ℕ → Term) (s : Symbol) (b : Base) (x : Term) → s.base ≡ b → s.occurs ≡ None → t s.term ≡ x → symbol_value t s ≡ value_by b x
plain_value t s b x e o h = ap (λ y. value_at t y s.occurs s.term) e ∙ ap (λ y. value_at t b y s.term) o ∙ ap (value_by b) h

pub truth_value : (t : ℕ → Term) (s : Symbol) (b : Bool) → s.base ≡ base.Bool → s.occurs ≡ None → t s.term ≡ bit b → symbol_value t s ≡ Some (values.bool b)
truth_value t s b e o h = plain_value t s base.Bool (bit b) e o h ∙ truth_by b

pub int_value : (t : ℕ → Term) (s : Symbol) (n : ℤ) → s.base ≡ base.Int → s.occurs ≡ None → t s.term ≡ Some (number n) → symbol_value t s ≡ Some (values.int n)
int_value t s n e o h = plain_value t s base.Int (Some (number n)) e o h

pub case_value : (t : ℕ → Term) (s : Symbol) (d e : ℕ) (n : ℤ) → s.base ≡ base.Enum d → d ≡ e → s.occurs ≡ None → t s.term ≡ Some (number n) → symbol_value t s ≡ Some (values.case e n)
case_value t s d e n b q o h = plain_value t s (base.Enum d) (Some (number n)) b o h ∙ ap (λ c. Some (values.case c n)) q

pub absent_value : (t : ℕ → Term) (s : Symbol) (o : ℕ) → s.occurs ≡ Some o → t o ≡ bit false → symbol_value t s ≡ Some values.absent
absent_value t s o e h = ap (λ x. value_at t s.base x s.term) e ∙ ap (λ u. if is_true u then value_by s.base (t s.term) else Some values.absent) h

-- ---- one by one

abbrev shown : Value → Option Content
shown v = Some (content v)

pub values_more : (t : ℕ → Term) (vs : List Value) (i : ℕ) (v : Value) (rest others : List Symbol) (s : Symbol) → i < length vs → v ≡ get_or vs i v → rest ≡ s ∷ others → symbol_value t s ≡ Some (content v) → Show t others (drop (i + 1) vs) → Show t rest (drop i vs)
values_more t vs i v rest others s l e r h m =
    let after = map shown (drop (i + 1) vs) in
    ap (map (symbol_value t)) r
    ∙ ap (λ w. w ∷ map (symbol_value t) others) h
    ∙ ap (λ ws. Some (content v) ∷ ws) m
    ∙ ap (λ y. shown y ∷ after) e
    ∙ sym (at_drop_more (map shown) vs i v l)

pub values_end : (t : ℕ → Term) (vs : List Value) (i : ℕ) (rest : List Symbol) → length vs ≤ i → rest ≡ [] → Show t rest (drop i vs)
values_end t vs i rest l e = ap (map (symbol_value t)) e ∙ sym (at_drop_all (map shown) vs i l)

-- ---- lines

shown_all : (vs : List Value) → all_there (map shown vs) ≡ Some (map content vs)
shown_all [] = refl
shown_all (v ∷ vs) = ap (option_map (λ ys. content v ∷ ys)) (shown_all vs)

pub line_told : (t : ℕ → Term) (l : Line) (vs : List Value) → t l.defined ≡ bit true → Show t l.items.items vs → line_value t l ≡ Some (map content vs)
line_told t l vs d h =
    ap (λ u. option_and_then (λ xs. if is_true u then Some xs else None) (all_there (map (symbol_value t) l.items.items))) d
    ∙ ap (option_and_then (λ xs. Some xs)) (ap all_there h ∙ shown_all vs)

-- ---- arrays

pub array_told : (r : Reading) (ix : List Range) (k : ℕ) (v : Option (List Content)) → r.line k ≡ v → held r.mode (option_map (λ xs. values.array ix (contents xs)) v) ≡ array_argument r ix k
array_told r ix k v e = ap (λ o. held r.mode (option_map (λ xs. values.array ix (contents xs)) o)) (sym e)

pub row_told : (r : Reading) (ix : List Range) (c : Option Base) (o : Origins) (k : ℕ) → elements_cast c (origins_value r.line o) ≡ r.line k → held r.mode (held r.mode (cast_by c (array_of ix (origins_value r.line o)))) ≡ array_argument r ix k
row_told r ix c o k e =
    held_twice r.mode (cast_by c (array_of ix (origins_value r.line o)))
    ∙ ap (held r.mode) (array_cast c ix (origins_value r.line o) ∙ ap (option_map (λ xs. values.array ix (contents xs))) e)

pub own_told : (r : Reading) (ix : List Range) (c : Option Base) (o : Origins) (k : ℕ) → c ≡ None → ((l : ℕ → Option (List Content)) → origins_value l o ≡ l k) → held r.mode (held r.mode (cast_by c (array_of ix (origins_value r.line o)))) ≡ array_argument r ix k
own_told r ix c o k e f = ap (λ q. held r.mode (held r.mode (cast_by q (array_of ix (origins_value r.line o))))) e ∙ row_told r ix None o k (f r.line)
