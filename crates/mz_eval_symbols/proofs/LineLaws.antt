-- The values of lines that are made of cells.
use Rattle.std.proofs.Common.{◌≡◌, ◌∙◌, ℕ, ◌+◌, ◌*◌, Bool, true, false, List, [], ◌∷◌, length, map, Option, Some, None, slice_get, refl, sym, ap, subst, arith, if◌then◌else◌}
use Rattle.std.proofs.lemmas.List.{length-map}
use Rattle.std.specs.Option.{option_map, option_and_then}
use Rattle.mz_value.specs.declared.value.Value.{Value}
use Rattle.mz_value.specs.Contents.{Content, content, contents}
use Rattle.mz_core.specs.declared.types.Base.{Base}
use Rattle.mz_builtin_arguments.proofs.Views.{items_in_contents}
use Rattle.mz_operations.specs.Views.{items_in}
use Rattle.mz_arena.specs.Values.{Term, bit, is_true}
use Rattle.mz_meaning.specs.Cells.{Bare}
use Rattle.mz_meaning.specs.Coerced.{recast}
use Rattle.mz_symbol.specs.declared.types.Symbol.{Symbol}
use Rattle.mz_symbol.specs.declared.types.Line.{Line}
use Rattle.mz_symbol.specs.Symbols.{symbol_value, all_there, elements_value, AreItems, AreWhole}
use Rattle.mz_symbol.specs.Runs.{Run, ReadsNodes, IsRun}
use Rattle.mz_symbol.specs.Readings.{Reading, Reads, line_in}
use Rattle.mz_symbol.specs.Makes.{GoesOnBy}
use Rattle.mz_symbol_rows.proofs.GoingOn.{goes_both, goes_most}
use Rattle.mz_eval_symbols.specs.Steps.{ArePrefix, AreConstants, AreCasts, IsCast, IsLineWith, Stands, item_cast}

-- ---- terms that obey the nodes of a run are those of a reading without values

abbrev over : (ℕ → Term) → Run → Reading
over t s = record { mode = Bare; term = t; line = λ k. line_in t (slice_get s.lines k) }

over_reads : (t : ℕ → Term) (s : Run) → ReadsNodes t s.arena → Reads (over t s) s
over_reads t s h = record { nodes = h; choices = refl; lines = λ k l e. ap (line_in t) e }

-- ---- constants

prefix_items : (t : ℕ → Term) (xs : List Content) (ss : List Symbol) → ArePrefix (Stands t) xs ss → AreItems t ss
prefix_items t xs [] p = tt
prefix_items t [] (s ∷ ss) p = absurd p
prefix_items t (x ∷ xs) (s ∷ ss) p = (p.0.item, prefix_items t xs ss p.1)

prefix_values : (t : ℕ → Term) (xs : List Content) (ss : List Symbol) → ArePrefix (Stands t) xs ss → length ss ≡ length xs → all_there (map (symbol_value t) ss) ≡ Some xs
prefix_values t [] [] p e = refl
prefix_values t (x ∷ xs) [] p e = absurd (omega (arith, e))
prefix_values t [] (s ∷ ss) p e = absurd p
prefix_values t (x ∷ xs) (s ∷ ss) p e =
    ap (λ v. all_there (v ∷ map (symbol_value t) ss)) p.0.value
    ∙ ap (option_map (λ ys. x ∷ ys)) (prefix_values t xs ss p.1 (omega (arith, e)))

pub constants_whole : (old m1 m2 : Run) (xs : List Content) (n d : ℕ) (ss : List Symbol) → GoesOnBy 0 m1 m2 → ((r : Reading) → Reads r m1 → AreConstants r old m1 xs n ss) → (t : ℕ → Term) → ReadsNodes t m2.arena → AreWhole t d ss
constants_whole old m1 m2 xs n d ss g f t h p = prefix_items t xs ss ((f (over t m2) (g.back (over t m2) (over_reads t m2 h))).made.prefix)

mapped_length : (c : Option Base) (xs : List Value) → length (map (item_cast c) (map content xs)) ≡ length xs
mapped_length c xs = length-map (map content xs) (item_cast c) ∙ length-map xs content

pub constants_line : (r : Reading) (old m1 : Run) (c : Option Base) (xs : List Value) (n d : ℕ) (ss : List Symbol) → AreConstants r old m1 (map (item_cast c) (map content xs)) n ss → n ≡ length xs → bit true ≡ r.term d → Some (map (item_cast c) (map content xs)) ≡ elements_value r.term d ss
constants_line r old m1 c xs n d ss a e f =
    sym (ap (option_and_then (λ ys. if is_true (r.term d) then Some ys else None)) (prefix_values r.term (map (item_cast c) (map content xs)) ss a.made.prefix (a.made.count ∙ e ∙ sym (mapped_length c xs)))
    ∙ ap (λ u. if is_true u then Some (map (item_cast c) (map content xs)) else None) (sym f))

-- ---- no elements

undefined_by : (o : Option (List Content)) → None ≡ option_and_then (λ xs. if false then Some xs else None) o
undefined_by None = refl
undefined_by (Some xs) = refl

pub line_undefined : (t : ℕ → Term) (d : ℕ) (ss : List Symbol) → bit false ≡ t d → None ≡ elements_value t d ss
line_undefined t d ss e = undefined_by (all_there (map (symbol_value t) ss)) ∙ ap (λ u. option_and_then (λ xs. if is_true u then Some xs else None) (all_there (map (symbol_value t) ss))) e

never_true : (u : Term) → bit false ≡ u → is_true u ≡ true → false ≡ true
never_true u e h = ap is_true e ∙ h

pub undefined_whole : (old new : Run) (d : ℕ) (ss : List Symbol) → ((r : Reading) → Reads r new → bit false ≡ r.term d) → (t : ℕ → Term) → ReadsNodes t new.arena → AreWhole t d ss
undefined_whole old new d ss f t h p = let clash : false ≡ true = never_true (t d) (f (over t new) (over_reads t new h)) p in absurd (cc)

-- ---- elements that are recast

cast_items : (t : ℕ → Term) (b : Base) (xs ss : List Symbol) → AreItems t xs → ArePrefix (IsCast t b) xs ss → AreItems t ss
cast_items t b xs [] a p = tt
cast_items t b [] (s ∷ ss) a p = absurd p
cast_items t b (x ∷ xs) (s ∷ ss) a p = (p.0.item a.0, cast_items t b xs ss a.1 p.1)

there_more : (f : Content → Content) (v w : Option Content) (vs ws : List (Option Content)) → w ≡ option_map f v → all_there ws ≡ option_map (map f) (all_there vs) → all_there (w ∷ ws) ≡ option_map (map f) (all_there (v ∷ vs))
there_more f None w vs ws e h = ap (λ u. all_there (u ∷ ws)) e
there_more f (Some x) w vs ws e h = ap (λ u. all_there (u ∷ ws)) e ∙ ap (option_map (λ ys. f x ∷ ys)) h ∙ by (all_there vs)
  where
    by : (o : Option (List Content)) → option_map (λ ys. f x ∷ ys) (option_map (map f) o) ≡ option_map (map f) (option_map (λ ys. x ∷ ys) o)
    by None = refl
    by (Some ys) = refl

cast_values : (t : ℕ → Term) (b : Base) (xs ss : List Symbol) → AreItems t xs → ArePrefix (IsCast t b) xs ss → length ss ≡ length xs → all_there (map (symbol_value t) ss) ≡ option_map (map (recast b)) (all_there (map (symbol_value t) xs))
cast_values t b [] [] a p e = refl
cast_values t b (x ∷ xs) [] a p e = absurd (omega (arith, e))
cast_values t b [] (s ∷ ss) a p e = absurd p
cast_values t b (x ∷ xs) (s ∷ ss) a p e =
    there_more (recast b) (symbol_value t x) (symbol_value t s) (map (symbol_value t) xs) (map (symbol_value t) ss) (p.0.value a.0) (cast_values t b xs ss a.1 p.1 (omega (arith, e)))

cast_elements : (t : ℕ → Term) (b : Base) (d : ℕ) (xs ss : List Symbol) → AreWhole t d xs → ArePrefix (IsCast t b) xs ss → length ss ≡ length xs → option_map (map (recast b)) (elements_value t d xs) ≡ elements_value t d ss
cast_elements t b d xs ss w p e = by (is_true (t d)) refl
  where
    none_cast : (o : Option (List Content)) → option_map (map (recast b)) (option_and_then (λ ys. if false then Some ys else None) o) ≡ None
    none_cast None = refl
    none_cast (Some ys) = refl

    some_cast : (o : Option (List Content)) → option_map (map (recast b)) (option_and_then (λ ys. if true then Some ys else None) o) ≡ option_and_then (λ ys. if true then Some ys else None) (option_map (map (recast b)) o)
    some_cast None = refl
    some_cast (Some ys) = refl

    by : (q : Bool) → is_true (t d) ≡ q → option_map (map (recast b)) (option_and_then (λ ys. if q then Some ys else None) (all_there (map (symbol_value t) xs))) ≡ option_and_then (λ ys. if q then Some ys else None) (all_there (map (symbol_value t) ss))
    by false h = none_cast (all_there (map (symbol_value t) xs)) ∙ undefined_by (all_there (map (symbol_value t) ss))
    by true h = some_cast (all_there (map (symbol_value t) xs)) ∙ ap (option_and_then (λ ys. Some ys)) (sym (cast_values t b xs ss (w h) p e))

pub line_with : (s : Run) (k : ℕ) (l : Line) (ss : List Symbol) → slice_get s.lines k ≡ Some l → ss ≡ l.items.items → IsRun s → IsLineWith s k l.defined ss
line_with s k l ss e i w = record { line = l; stands = e; defined = refl; items = sym i; whole = λ t h. subst (AreWhole t l.defined) (sym i) ((w.lines t h k l e).whole) }

pub casts_whole : (old m1 : Run) (k d n : ℕ) (b : Base) (xs ss : List Symbol) (c : ℕ) → IsLineWith old k d xs → GoesOnBy c old m1 → ((r : Reading) → Reads r m1 → AreCasts r old m1 b xs n ss) → (t : ℕ → Term) → ReadsNodes t m1.arena → AreWhole t d ss
casts_whole old m1 k d n b xs ss c l g f t h p =
    let u = over t m1 in
    let v = over_reads t m1 h in
    cast_items t b xs ss (l.whole t (g.back u v).nodes p) ((f u v).made.prefix)

pub casts_line : (r : Reading) (old m1 : Run) (k d n : ℕ) (b : Base) (xs ss : List Symbol) → IsLineWith old k d xs → Reads r old → AreCasts r old m1 b xs n ss → n ≡ length xs → option_map (map (recast b)) (r.line k) ≡ elements_value r.term d ss
casts_line r old m1 k d n b xs ss l h a e =
    ap (option_map (map (recast b))) (h.lines k l.line l.stands ∙ ap (λ i. elements_value r.term i l.line.items.items) l.defined ∙ ap (elements_value r.term d) l.items)
    ∙ cast_elements r.term b d xs ss (l.whole r.term h.nodes) a.made.prefix (a.made.count ∙ e)

-- ---- what a line costs

pub goes_items : (n : ℕ) (old m1 new : Run) (ss : List Symbol) → length ss ≡ n → GoesOnBy 0 old m1 → GoesOnBy (16 * length ss) m1 new → GoesOnBy (16 * n) old new
goes_items n old m1 new ss e f g = goes_most (0 + 16 * length ss) (16 * n) old new (omega (arith, e)) (goes_both 0 (16 * length ss) old m1 new f g)

pub goes_casts : (n : ℕ) (old m1 new : Run) (ss : List Symbol) → length ss ≡ n → GoesOnBy (4 * n) old m1 → GoesOnBy (16 * length ss) m1 new → GoesOnBy (20 * n) old new
goes_casts n old m1 new ss e f g = goes_most (4 * n + 16 * length ss) (20 * n) old new (omega (arith, e)) (goes_both (4 * n) (16 * length ss) old m1 new f g)

pub goes_counted : (n m : ℕ) (old new : Run) → n ≡ m → GoesOnBy (16 * n) old new → GoesOnBy (20 * m) old new
goes_counted n m old new e f = goes_most (16 * n) (20 * m) old new (omega (arith, e)) f

pub goes_equal : (n m : ℕ) (old new : Run) → n ≡ m → GoesOnBy (20 * n) old new → GoesOnBy (20 * m) old new
goes_equal n m old new e f = subst (λ k. GoesOnBy (20 * k) old new) e f

pub items_count : (xs : List Value) → length (items_in (contents (map content xs))) ≡ length xs
items_count xs = ap length (items_in_contents (map content xs)) ∙ length-map xs content
