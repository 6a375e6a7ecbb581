-- Free locals that are arrays: what a run without values tells of them, and their choices.
use Rattle.std.proofs.Common.{◌≡◌, ◌∙◌, ℕ, zero, suc, ℤ, Bool, true, false, List, [], ◌∷◌, length, map, replicate, Option, Some, None, IsSome, refl, sym, ap, if◌then◌else◌}
use Rattle.std.specs.Option.{option_map}
use Rattle.mz_value.specs.Ranges.{Range}
use Rattle.mz_value.specs.Contents.{Content, content, contents}
use Rattle.mz_value.specs.declared.value.Value.{Value}
use Rattle.mz_value.specs.Contents as values
use Rattle.mz_core.specs.Types.{PlainType}
use Rattle.mz_operations.specs.Arrays.{place_count}
use Rattle.mz_operations.specs.Bounds as bounds
use Rattle.mz_meaning.specs.Arrays.{Want, Anything, Missing, Within, declared_ranges}
use Rattle.mz_meaning.specs.Cells as cells
use Rattle.mz_meaning.specs.Cells.{Cell, Var, Mode, Bare, Blank, Given, Sure, held, bounds_in}
use Rattle.mz_meaning.specs.Domains.{Domain, domain_bound, is_empty_domain}
use Rattle.mz_meaning.specs.Lets as lets
use Rattle.mz_meaning.specs.Lets.{choices_from}
use Rattle.mz_meaning.specs.Runs.{Run, State, Answer, Out, noted}
use Rattle.mz_symbol.specs.Runs as symbols
use Rattle.mz_symbol.specs.Readings.{Reading, IsGiven, Reads, state_of}
use Rattle.mz_symbol.proofs.ConstantLaws.{out_value}
use Rattle.mz_eval_cells.specs.declared.types.Bound.{Bound}
use Rattle.mz_eval_cells.specs.declared.types.Known.{Known}
use Rattle.mz_eval_cells.specs.Views.{known_bound, seen}
use Rattle.mz_eval_guards.specs.declared.types.Guard.{Guard}
use Rattle.mz_eval_guards.specs.Guards.{guard_seen}
use Rattle.mz_eval_guards.proofs.GuardingLaws.{nothing_held}
use Rattle.mz_eval_declared.specs.Locals.{IsChosenLine, IsLocal, local_in}
use Rattle.mz_eval_names.specs.Steps.{chosen_cell, empty_cell, line_cell, local_out, taken_places, unchosen_cell}

pub drawn_local : (old mid new : symbols.Run) (m : Reading → Run (Cell × Sure)) (p : Known × Guard) → ((r : Reading) → state_of r old ≡ state_of r mid) → IsLocal mid new m p → IsLocal old new m p
drawn_local old mid new m p e h = λ r q. ap (m r) (e r) ∙ h r q

-- ---- what a run without values tells

abbrev ranges_of : bounds.Bounds → List Range
ranges_of (bounds.one b) = []
ranges_of (bounds.many ix bs) = ix

abbrev elements_of : bounds.Bounds → List bounds.Bound
elements_of (bounds.one b) = []
elements_of (bounds.many ix bs) = bs

abbrev is_many : bounds.Bounds → Bool
is_many (bounds.one b) = false
is_many (bounds.many ix bs) = true

-- what holds of a local that has these ranges and bounds in a run without values, where its domain is this, if there is one
pub record IsRow (o : Option Domain) (ix : List Range) (bs : List bounds.Bound) (q : Sure) (m : Mode → Run (Cell × Sure)) : Type 0 where
  pub unchosen : q.is ≡ false → (n : Mode) (s : State) → m n s ≡ local_out (unchosen_cell ix bs) cells.unsure s
  pub empty : q.is ≡ true → length bs ≡ 0 → (n : Mode) (s : State) → m n s ≡ local_out (empty_cell n ix) cells.sure s
  pub there : q.is ≡ true → (length bs ≡ 0 → ⊥) → IsSome o
  pub chosen : q.is ≡ true → (length bs ≡ 0 → ⊥) → (d : Domain) → o ≡ Some d → (n : Mode) (s : State) → m n s ≡ taken_places n ix bs d s

-- an array of these bounds
abbrev told : List Range → List bounds.Bound → Sure → State → Answer (Cell × Sure)
told ix bs q s = local_out (unchosen_cell ix bs) q s

some_not : {A : Type 0} → true ≡ false → A
some_not e = absurd (cc)

out_bounds : {x y : Cell × Sure} {s t : State} → Out x s ≡ Out y t → bounds_in x.0 ≡ bounds_in y.0
out_bounds e = ap (λ (z : Cell × Sure). bounds_in z.0) (out_value e)

out_is : {x y : Cell × Sure} {s t : State} → Out x s ≡ Out y t → x.1.is ≡ y.1.is
out_is e = ap (λ (z : Cell × Sure). z.1.is) (out_value e)

no_choices_row : (t : PlainType) (o : Option Domain) (iy ix : List Range) (bs : List bounds.Bound) (q : Sure) (s : State) → lets.no_choices t iy s ≡ told ix bs q s → IsRow o ix bs q (λ m. lets.no_choices t iy)
no_choices_row t o iy ix bs q s e = record {
  unchosen = λ f n u. ap (λ (b : bounds.Bounds). local_out (Var b None) cells.unsure u) (out_bounds e);
  empty = λ h z n u. some_not (sym h ∙ sym (out_is e));
  there = λ h l. some_not (sym h ∙ sym (out_is e));
  chosen = λ h l d p n u. some_not (sym h ∙ sym (out_is e));
}

length_replicated : {A : Type 0} (n : ℕ) (x : A) → length (replicate n x) ≡ n
length_replicated zero x = refl
length_replicated (suc n) x = ap suc (length_replicated n x)

same_some : {A : Type 0} (x y : A) → Some x ≡ Some y → x ≡ y
same_some x y e = cc

-- the answer of an array whose places take choices, by its bounds
abbrev taken_by : Mode → Domain → State → bounds.Bounds → Answer (Cell × Sure)
taken_by m d s b = local_out (chosen_cell m (ranges_of b) (elements_of b) (length s.taken)) cells.sure (noted m (replicate (length (elements_of b)) d) 0 s)

places_row : (t : PlainType) (iy : List Range) (n : ℕ) (o : Option Domain) (ix : List Range) (bs : List bounds.Bound) (q : Sure) (s : State) → lets.choose_places Bare t iy n o s ≡ told ix bs q s → IsRow o ix bs q (λ m. lets.choose_places m t iy n o)
places_row t iy zero o ix bs q s e = record {
  unchosen = λ f m u. some_not (out_is e ∙ f);
  empty = λ h z m u. ap (λ (b : bounds.Bounds). local_out (Var (bounds.many (ranges_of b) []) (held m (Some (values.array (ranges_of b) values.none)))) cells.sure u) (out_bounds e);
  there = λ h l. absurd (l (sym (ap (λ (b : bounds.Bounds). length (elements_of b)) (out_bounds e))));
  chosen = λ h l d p m u. absurd (l (sym (ap (λ (b : bounds.Bounds). length (elements_of b)) (out_bounds e))));
}
places_row t iy (suc n) None ix bs q s e = no_choices_row t None iy ix bs q s e
places_row t iy (suc n) (Some c) ix bs q s e = record {
  unchosen = λ f m u. some_not (out_is e ∙ f);
  empty = λ h z m u. suc_none _ (ap (λ (b : bounds.Bounds). length (elements_of b)) (out_bounds e) ∙ z);
  there = λ h l. refl;
  chosen = λ h l d p m u.
      ap (λ (j : ℕ). local_out (Var (bounds.many iy (replicate (suc n) (domain_bound c))) (held m (Some (values.array iy (contents (choices_from m (length u.taken) j)))))) cells.sure (noted m (replicate j c) 0 u)) (sym (length_replicated (suc n) (domain_bound c)))
      ∙ ap (taken_by m c u) (out_bounds e)
      ∙ ap (λ x. taken_places m ix bs x u) (same_some c d p);
}
  where
    suc_none : {A : Type 0} (k : ℕ) → suc k ≡ 0 → A
    suc_none k r = absurd (cc)

free_row : (t : PlainType) (iy : List Range) (x : Want) (o : Option Domain) (ix : List Range) (bs : List bounds.Bound) (q : Sure) (s : State) → lets.free_array Bare t iy x o s ≡ told ix bs q s → IsRow o ix bs q (λ m. lets.free_array m t iy x o)
free_row t iy Missing o ix bs q s e = no_choices_row t o iy ix bs q s e
free_row t iy Anything o ix bs q s e = places_row t iy (place_count iy) o ix bs q s e
free_row t iy (Within u) o ix bs q s e = places_row t iy (place_count iy) o ix bs q s e

abbrev domain : ℤ → PlainType → Want → Option Domain
domain n t x = lets.unless_empty (lets.local_domain n t x)

one_row : (t : PlainType) (o : Option Domain) (ix : List Range) (bs : List bounds.Bound) (q : Sure) (s : State) → lets.choose Bare t o s ≡ told ix bs q s → IsRow o ix bs q (λ m. lets.choose m t o)
one_row t None ix bs q s e = some_not (sym (ap is_many (out_bounds e)))
one_row t (Some d) ix bs q s e = some_not (sym (ap is_many (out_bounds e)))

abbrev array_by : ℤ → PlainType → List Range → Want → Bool → Mode → Run (Cell × Sure)
array_by n t iy x b m = if b then lets.free_array m t iy x (domain n t x) else lets.no_choices t iy

array_row : (n : ℤ) (t : PlainType) (iy : List Range) (x : Want) (b : Bool) (ix : List Range) (bs : List bounds.Bound) (q : Sure) (s : State) → array_by n t iy x b Bare s ≡ told ix bs q s → IsRow (domain n t x) ix bs q (array_by n t iy x b)
array_row n t iy x true ix bs q s e = free_row t iy x (domain n t x) ix bs q s e
array_row n t iy x false ix bs q s e = no_choices_row t (domain n t x) iy ix bs q s e

chosen_row : (n : ℤ) (t : PlainType) (ws : List Want) (x : Want) (ix : List Range) (bs : List bounds.Bound) (q : Sure) (s : State) → lets.chosen Bare n t ws x s ≡ told ix bs q s → IsRow (domain n t x) ix bs q (λ m. lets.chosen m n t ws x)
chosen_row n t [] x ix bs q s e = one_row t (domain n t x) ix bs q s e
chosen_row n t (w ∷ ws) x ix bs q s e = array_row n t (declared_ranges (w ∷ ws) []) x (lets.all_declared (w ∷ ws)) ix bs q s e

-- ---- the local as what is evaluated

pub row_known : (n : ℤ) (t : PlainType) (ws : List Want) (x : Want) (ix : List Range) (bs : List bounds.Bound) (c : Cell) (q : Sure) (s : State) → lets.chosen Bare n t ws x s ≡ local_out c q s → c ≡ unchosen_cell ix bs → IsRow (domain n t x) ix bs q (λ m. lets.chosen m n t ws x)
row_known n t ws x ix bs c q s e h = chosen_row n t ws x ix bs q s (e ∙ ap (λ (y : Cell). local_out y q s) h)

pub unchosen_local : {o : Option Domain} (ix : List Range) (bs : List bounds.Bound) (q : Sure) (m : Mode → Run (Cell × Sure)) (s : symbols.Run) (p : Known × Guard) → IsRow o ix bs q m → q.is ≡ false → ((r : Reading) → local_in r p ≡ (unchosen_cell ix bs, cells.unsure)) → IsLocal s s (λ r. m r.mode) p
unchosen_local ix bs q m s p w f e = λ r h. w.unchosen f r.mode (state_of r s) ∙ ap (λ (y : Cell × Sure). Out y (state_of r s)) (sym (e r))

pub empty_local : {o : Option Domain} (ix : List Range) (bs : List bounds.Bound) (q : Sure) (m : Mode → Run (Cell × Sure)) (s : symbols.Run) (p : Known × Guard) → IsRow o ix bs q m → q.is ≡ true → length bs ≡ 0 → ((r : Reading) → local_in r p ≡ (empty_cell r.mode ix, cells.sure)) → IsLocal s s (λ r. m r.mode) p
empty_local ix bs q m s p w h z e = λ r i. w.empty h z r.mode (state_of r s) ∙ ap (λ (y : Cell × Sure). Out y (state_of r s)) (sym (e r))

abbrev unless : Bool → Domain → Option Domain
unless b c = if b then None else Some c

unless_some : (y : Option Domain) (d : Domain) → IsSome (lets.unless_empty y) → Some d ≡ y → lets.unless_empty y ≡ Some d
unless_some None d h e = absurd (cc)
unless_some (Some c) d h e = by (is_empty_domain c) h
  where
    by : (b : Bool) → IsSome (unless b c) → unless b c ≡ Some d
    by true i = absurd (cc)
    by false i = sym e

pub taken_local : (ix : List Range) (bs : List bounds.Bound) (q : Sure) (m : Mode → Run (Cell × Sure)) (y : Option Domain) (d : Domain) (old new : symbols.Run) (p : Known × Guard) → IsRow (lets.unless_empty y) ix bs q m → q.is ≡ true → (length bs ≡ 0 → ⊥) → Some d ≡ y → IsLocal old new (λ r. taken_places r.mode ix bs d) p → IsLocal old new (λ r. m r.mode) p
taken_local ix bs q m y d old new p w h z e l = λ r i. w.chosen h z d (unless_some y d (w.there h z) e) r.mode (state_of r old) ∙ l r i

-- ---- cells of locals

abbrev pair : Cell → Sure → Cell × Sure
pair x y = (x, y)

pub local_is : (r : Reading) (k : Known) (g : Guard) (c : Cell) (s : Sure) → seen r k ≡ c → guard_seen r g ≡ s → local_in r (k, g) ≡ (c, s)
local_is r k g c s e h = ap (λ (x : Cell). pair x (guard_seen r g)) e ∙ ap (pair c) h

pub unchosen_is : (r : Reading) (k : Known) (g : Guard) (b : bounds.Bounds) → seen r k ≡ Var b (held r.mode None) → guard_seen r g ≡ cells.unsure → local_in r (k, g) ≡ (Var b None, cells.unsure)
unchosen_is r k g b e h = local_is r k g (Var b None) cells.unsure (e ∙ ap (Var b) (sym (nothing_held r.mode))) h

pub empty_is : (r : Reading) (k : Known) (g : Guard) (ix : List Range) (bs : List Bound) (vs : List Value) → seen r k ≡ Var (bounds.many ix (map known_bound bs)) (held r.mode (Some (values.array ix (contents (map content vs))))) → bs ≡ [] → vs ≡ [] → guard_seen r g ≡ cells.sure → local_in r (k, g) ≡ (empty_cell r.mode ix, cells.sure)
empty_is r k g ix bs vs e b v h =
    local_is r k g (empty_cell r.mode ix) cells.sure
    (e
    ∙ ap (λ (xs : List Bound). Var (bounds.many ix (map known_bound xs)) (held r.mode (Some (values.array ix (contents (map content vs)))))) b
    ∙ ap (λ (xs : List Value). Var (bounds.many ix []) (held r.mode (Some (values.array ix (contents (map content xs)))))) v)
    h

held_same : (m : Mode) (v w : Option Content) → (IsGiven m → v ≡ w) → held m v ≡ held m w
held_same (Blank n) v w h = refl
held_same (Given f) v w h = h tt

pub places_means : (n : ℕ) (d : Domain) (old mid new : symbols.Run) (ix : List Range) (bs : List bounds.Bound) (p : Known × Guard) (l : ℕ) → ((r : Reading) → state_of r old ≡ state_of r mid) → n ≡ length bs → IsChosenLine n d mid new l → ((r : Reading) → local_in r p ≡ (line_cell r ix bs l, cells.sure)) → IsLocal old new (λ r. taken_places r.mode ix bs d) p
places_means n d old mid new ix bs p l e c line cell = λ r h.
    ap (taken_places r.mode ix bs d) (e r)
    ∙ ap (λ (v : Option Content). local_out (Var (bounds.many ix bs) v) cells.sure (noted r.mode (replicate (length bs) d) 0 (state_of r mid))) (held_same r.mode _ _ (λ i. told_values r i h))
    ∙ ap (λ (x : Cell × Sure). Out x (noted r.mode (replicate (length bs) d) 0 (state_of r mid))) (sym (cell r))
    ∙ ap (λ (t : State). Out (local_in r p) t) (ap (λ (j : ℕ). noted r.mode (replicate j d) 0 (state_of r mid)) (sym c) ∙ line.taken r h)
  where
    told_values : (r : Reading) → IsGiven r.mode → Reads r new → Some (values.array ix (contents (choices_from r.mode (length (state_of r mid).taken) (length bs)))) ≡ option_map (λ xs. values.array ix (contents xs)) (r.line l)
    told_values r i h = ap (λ (j : ℕ). Some (values.array ix (contents (choices_from r.mode (length (state_of r mid).taken) j)))) (sym c) ∙ ap (λ (v : Option (List Content)). option_map (λ xs. values.array ix (contents xs)) v) (sym (line.values r i h))
