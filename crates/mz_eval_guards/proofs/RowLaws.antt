-- Arrays that have their elements where a guard holds.
use Rattle.std.proofs.Common.{◌≡◌, ◌∙◌, ℕ, ◌+◌, ◌*◌, ◌≤◌, Bool, true, false, ◌&&◌, List, [], length, map, Option, Some, None, slice_get, refl, sym, ap, subst, arith, if◌then◌else◌}
use Rattle.std.proofs.lemmas.List.{length-map}
use Rattle.std.specs.Option.{option_map, option_and_then}
use Rattle.mz_value.specs.Ranges.{Range}
use Rattle.mz_value.specs.Contents.{Content, contents}
use Rattle.mz_value.specs.Contents as values
use Rattle.mz_core.specs.declared.types.Base.{Base}
use Rattle.mz_arena.specs.Values.{Term, is_true}
use Rattle.mz_operations.specs.Bounds as bounds
use Rattle.mz_meaning.specs.Cells.{Cell, Var, Mode, Blank, Given, Bare, held, only_if, value_of}
use Rattle.mz_meaning.specs.Runs.{State, Out}
use Rattle.mz_symbol.specs.declared.types.Symbol.{Symbol}
use Rattle.mz_symbol.specs.Symbols.{AreWhole, all_there, elements_value, symbol_value}
use Rattle.mz_symbol.specs.Runs.{Run, ReadsNodes}
use Rattle.mz_symbol.specs.Readings.{Reading, IsGiven, Reads, line_in, state_of}
use Rattle.mz_symbol.specs.Makes.{GoesOnBy}
use Rattle.mz_symbol.proofs.ConstantLaws.{out_value, out_state}
use Rattle.mz_symbol_rows.proofs.GoingOn.{goes_both, goes_most}
use Rattle.mz_eval_symbols.specs.Taken.{array_argument, cell_value, line_seen, ranges_in}
use Rattle.glob_nodes.specs.Says.{Says}
use Rattle.mz_eval_cells.specs.declared.types.Bound.{Bound}
use Rattle.mz_eval_cells.specs.declared.types.Known.{Known}
use Rattle.mz_eval_cells.specs.declared.types.Origins.TheVariants as origins
use Rattle.mz_eval_cells.specs.declared.types.VarItems.{VarItems}
use Rattle.mz_eval_cells.specs.Views.{array_of, cast_by, cell_of, known_bound, origins_value, row_content, seen}
use Rattle.mz_eval_guards.specs.Guards.{IsCell}
use Rattle.mz_eval_guards.specs.StepsLines.{HasItems}
use Rattle.mz_eval_guards.specs.StepsGuarding.{IsLineKept}

-- terms that obey the nodes of a run are those of a reading without values
abbrev over : (ℕ → Term) → Run → Reading
over t s = record { mode = Bare; term = t; line = λ k. line_in t (slice_get s.lines k) }

over_reads : (t : ℕ → Term) (s : Run) → ReadsNodes t s.arena → Reads (over t s) s
over_reads t s h = record { nodes = h; choices = refl; lines = λ k l e. ap (line_in t) e }

second_true : (p q : Bool) → (p && q) ≡ true → q ≡ true
second_true true q h = h
second_true false q h = absurd (cc)

pub line_whole : (n line d both e : ℕ) (old new : Run) (ss : List Symbol) → HasItems old line e ss → GoesOnBy n old new → Says old new (λ r. is_true (r.term d) && is_true (r.term e)) both → (t : ℕ → Term) → ReadsNodes t new.arena → AreWhole t both ss
line_whole n line d both e old new ss h g s t reads p =
    let u = over_reads t new reads in
    h.whole t (g.back (over t new) u).nodes (second_true (is_true (t d)) (is_true (t e)) (sym (s.tells (over t new) u) ∙ p))

elements_kept : (p q : Bool) (o : Option (List Content)) → option_and_then (λ xs. if p && q then Some xs else None) o ≡ only_if p (option_and_then (λ xs. if q then Some xs else None) o)
elements_kept true q o = refl
elements_kept false q None = refl
elements_kept false q (Some xs) = refl

pub line_kept_is : (n m line d both e made : ℕ) (old one new : Run) (ss : List Symbol) → HasItems old line e ss → GoesOnBy n old one → Says old one (λ r. is_true (r.term d) && is_true (r.term e)) both → GoesOnBy m one new → ((r : Reading) → Reads r new → Out (elements_value r.term both ss) (state_of r one) ≡ Out (r.line made) (state_of r new)) → IsLineKept old new d line made
line_kept_is n m line d both e made old one new ss h g s k t = record {
  same = λ r q. s.same r (k.back r q) ∙ out_state (t r q);
  value = λ r q.
      let reads = k.back r q in
      sym (out_value (t r q))
      ∙ ap (λ p. option_and_then (λ xs. if p then Some xs else None) (all_there (map (symbol_value r.term) ss))) (s.tells r reads)
      ∙ elements_kept (is_true (r.term d)) (is_true (r.term e)) (all_there (map (symbol_value r.term) ss))
      ∙ ap (only_if (is_true (r.term d))) (sym (h.value r (g.back r reads)));
}

pub line_goes : (n c : ℕ) (old one new : Run) → n ≡ c → GoesOnBy 6 old one → GoesOnBy (16 * n) one new → GoesOnBy (6 + 16 * c) old new
line_goes n c old one new e f g = subst (λ k. GoesOnBy (6 + 16 * k) old new) e (goes_both 6 (16 * n) old one new f g)

-- ---- cells

mapped : (p : Bool) (ix : List Range) (v : Option (List Content)) → option_map (λ xs. values.array ix (contents xs)) (only_if p v) ≡ only_if p (option_map (λ xs. values.array ix (contents xs)) v)
mapped true ix v = refl
mapped false ix v = refl

line_held : (m : Mode) (p : Bool) (v w : Option Content) → held m v ≡ held m w → held m (only_if p w) ≡ held m (only_if p v)
line_held (Blank n) p v w e = refl
line_held (Given f) p v w e = ap (only_if p) (sym e)

held_inside : (m : Mode) (v w : Option Content) → held m v ≡ held m w → held m w ≡ held m v
held_inside m v w e = sym e

pub row_cell : (n line d made : ℕ) (old one new : Run) (ix : List Range) (bs : List bounds.Bound) (k l x : Known) → ((r : Reading) → seen r k ≡ seen r l) → ranges_in k ≡ ix → ((r : Reading) → Reads r one → Out (cell_value r k) (state_of r old) ≡ Out (line_seen k r line) (state_of r one)) → GoesOnBy n one new → IsLineKept one new d line made → cell_of x ≡ Var (bounds.many ix bs) None → ((r : Reading) → seen r x ≡ Var (bounds.many ix bs) (array_argument r ix made)) → IsCell old new (λ r. Var (bounds.many ix bs) (held r.mode (only_if (is_true (r.term d)) (value_of (seen r l))))) x
row_cell n line d made old one new ix bs k l x same e m g h of q = record {
  same = λ r i. out_state (m r (g.back r i)) ∙ h.same r i;
  is = λ r i.
      q r
      ∙ ap (λ v. Var (bounds.many ix bs) (held r.mode (option_map (λ xs. values.array ix (contents xs)) v))) (h.value r i)
      ∙ ap (λ v. Var (bounds.many ix bs) (held r.mode v)) (mapped (is_true (r.term d)) ix (r.line line))
      ∙ ap (Var (bounds.many ix bs)) (line_held r.mode (is_true (r.term d)) (value_of (seen r k)) (option_map (λ xs. values.array ix (contents xs)) (r.line line))
      (out_value (m r (g.back r i)) ∙ ap (λ j. array_argument r j line) e))
      ∙ ap (λ c. Var (bounds.many ix bs) (held r.mode (only_if (is_true (r.term d)) (value_of c)))) (same r);
  bare = of;
}

pub row_goes : (n c : ℕ) (bs : List Bound) (old one new : Run) → length bs ≡ n → c ≡ length (map known_bound bs) → GoesOnBy (20 * c) old one → GoesOnBy (6 + 16 * n) one new → GoesOnBy (6 + 36 * length (map known_bound bs)) old new
row_goes n c bs old one new e f g h =
    let l = length-map bs known_bound in
    goes_most (20 * c + (6 + 16 * n)) (6 + 36 * length (map known_bound bs)) old new (omega (arith, e, f, l)) (goes_both (20 * c) (6 + 16 * n) old one new g h)

pub row_begins : (n c : ℕ) (old new : Run) → c ≡ n → GoesOnBy (20 * c) old new → GoesOnBy (6 + 36 * n) old new
row_begins n c old new e g = goes_most (20 * c) (6 + 36 * n) old new (omega (arith, e)) g

-- ---- arrays that nothing tells

none_listed : (c : Option Base) → cast_by c None ≡ None
none_listed None = refl
none_listed (Some b) = refl

pub nothing_listed : (xs : VarItems) → xs.origins ≡ origins.Nothing → (l : ℕ → Option (List Content)) (ix : List Range) → row_content l ix xs ≡ None
nothing_listed xs e l ix = ap (λ o. cast_by xs.cast (array_of ix (origins_value l o))) e ∙ none_listed xs.cast

pub untold_row : (s : Run) (ix : List Range) (bs : List bounds.Bound) (d : ℕ) (xs : VarItems) (k : Known) → ((l : ℕ → Option (List Content)) (js : List Range) → row_content l js xs ≡ None)
    → cell_of k ≡ Var (bounds.many ix bs) None → ((r : Reading) → seen r k ≡ Var (bounds.many ix bs) (held r.mode None))
    → IsCell s s (λ r. Var (bounds.many ix bs) (held r.mode (only_if (is_true (r.term d)) (held r.mode (row_content r.line ix xs))))) k
untold_row s ix bs d xs k f of e = record {
  same = λ r h. refl;
  is = λ r h. e r ∙ ap (λ v. Var (bounds.many ix bs) (held r.mode v)) (untold_if r.mode (is_true (r.term d)) ∙ ap (λ x. only_if (is_true (r.term d)) (held r.mode x)) (sym (f r.line ix)));
  bare = of;
}
  where
    untold_if : (m : Mode) (p : Bool) → None ≡ only_if p (held m None)
    untold_if (Blank n) true = refl
    untold_if (Blank n) false = refl
    untold_if (Given f) true = refl
    untold_if (Given f) false = refl
