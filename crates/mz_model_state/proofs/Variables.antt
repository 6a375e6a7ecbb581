-- Cells, nodes and the choice nodes of what is in hand.
use Rattle.std.proofs.Common.{◌≡◌, ◌∙◌, ℕ, zero, suc, ◌+◌, Bool, true, false, List, [], ◌∷◌, ◌++◌, length, map, Option, Some, None, is_some, slice_get, refl, sym, ap, subst, arith, if◌then◌else◌}
use Rattle.std.proofs.lemmas.List.{append-nil, map-append}
use Rattle.std.proofs.lemmas.List.Concat.{flat_map-append}
use Rattle.std.specs.List.{flat_map}
use Rattle.std.specs.Option.{option_and_then}
use Rattle.mz_value.specs.Ranges.{Range}
use Rattle.mz_value.specs.Contents.{Content}
use Rattle.mz_core.specs.declared.types.Base.{Base}
use Rattle.mz_core.specs.Tree.{Decl}
use Rattle.mz_arena.specs.Arenas.{Grew}
use Rattle.mz_arena.specs.Entries.{Entry}
use Rattle.mz_arena.specs.Instances.{ModelVar}
use Rattle.mz_arena.specs.Numbering.{local_ids, Numbered}
use Rattle.mz_meaning.specs.Cells.{Cell, Var, Mode, Blank, Given, held}
use Rattle.mz_meaning.specs.Domains.{Domain, Domains, domains_bounds}
use Rattle.mz_meaning.specs.Walk.{Assignment, variable}
use Rattle.mz_instance.specs.Parts.{Part, base_of, sort_of, parts_of, cell_ids, value_part, var_ids, var_parts, ids, parts, AreNodes}
use Rattle.mz_model_meaning.specs.Decoded.{Named}
use Rattle.mz_model_meaning.specs.Modeled.{cell_domain, domains_by, domains_of, var_head, var_tail, names_of}
use Rattle.mz_symbol.specs.declared.types.Free.{Free}
use Rattle.mz_symbol.specs.Choices.{domain_parts, all_parts}
use Rattle.mz_symbol.specs.Symbols.{symbol_ids, symbol_value, domain_of, free_ids}
use Rattle.mz_symbol.specs.Runs.{Run, IsRun, taken}
use Rattle.mz_symbol.specs.Readings.{Reading, IsGiven, Reads}
use Rattle.mz_symbol.proofs.RunLaws.{nodes_later}
use Rattle.mz_model_state.specs.Hands.{NameKind, ParName, OnePlace, ManyPlaces, kind_places, kind_domains, HeldName, cell_at, name_at, named_as, all_places, AreOne, array_value, places_value, IsAssigned, AreVars, SlotsFrom}
use Rattle.mz_model_state.specs.Variables.{HasCell, place_cell, ArePlacesOf, kind_index, IsMadeOf, is_var_kind, AreMadeOfNext, AreMadeOf, HasParts, AreNamesOf, part_count, AllNoted}

abbrev named_by : ℕ → Domains → Named
named_by slot ds = record { slot = slot; domains = ds }

-- ---- a variable's cell

same_held : (m : Mode) (x y : Option Content) → (IsGiven m → x ≡ y) → held m x ≡ held m y
same_held (Blank n) x y same = refl
same_held (Given f) x y same = same tt

one_value : (x y : Option Content) → AreOne x y → x ≡ y
one_value x y one = one.first ∙ sym one.second

pub if_defined : (b : Bool) (v : Option (List Content)) → b ≡ true → option_and_then (λ xs. if b then Some xs else None) v ≡ v
if_defined true None is = refl
if_defined true (Some xs) is = refl
if_defined false v is = absurd (cc)

kind_seen : (s : Run) (n : HeldName) (k : NameKind) (r : Reading) (a : Assignment) → HasCell s n k → Reads r s → (IsGiven r.mode → IsAssigned r.term a n.slot k) → Var (domains_bounds (kind_domains k)) (held r.mode (a n.slot)) ≡ n.cell r
kind_seen s n ParName r a has reads assigned = absurd has
kind_seen s n (OnePlace f) r a has reads assigned = ap (Var (domains_bounds (kind_domains (OnePlace f)))) (same_held r.mode (a n.slot) (symbol_value r.term f.symbol) (λ g. one_value (a n.slot) (symbol_value r.term f.symbol) (assigned g))) ∙ sym (has r reads (λ g. ap is_some (assigned g).second))
kind_seen s n (ManyPlaces ix fs) r a has reads assigned =
    let own = places_value r.term fs in
    let line : IsGiven r.mode → array_value ix own ≡ array_value ix (r.line has.line) = λ g. ap (array_value ix) (sym (has.places.value r reads)) in
    ap (Var (domains_bounds (kind_domains (ManyPlaces ix fs)))) (same_held r.mode (a n.slot) (array_value ix (r.line has.line)) (λ g. one_value (a n.slot) (array_value ix own) (assigned g) ∙ line g)) ∙ sym (has.cell r)

pub variable_seen : (s : Run) (n : HeldName) (r : Reading) (a : Assignment) → HasCell s n n.kind → Reads r s → (IsGiven r.mode → IsAssigned r.term a n.slot n.kind) → variable r.mode a n.slot (kind_domains n.kind) (cell_at r n.value) ≡ name_at r n
variable_seen s n r a has reads assigned = ap (λ (c : Cell). record { slot = n.slot; domains = kind_domains n.kind; cell = c; value = cell_at r n.value }) (kind_seen s n n.kind r a has reads assigned)

-- ---- lists of places

abbrev pub place_parts : List Free → List Part
place_parts fs = all_parts (map domain_of fs)

pub both_ids : (fs gs : List Free) → free_ids (fs ++ gs) ≡ free_ids fs ++ free_ids gs
both_ids fs gs = flat_map-append (λ f. symbol_ids f.symbol) fs gs

pub both_parts : (fs gs : List Free) → place_parts (fs ++ gs) ≡ place_parts fs ++ place_parts gs
both_parts fs gs = ap all_parts (map-append domain_of fs gs) ∙ flat_map-append domain_parts (map domain_of fs) (map domain_of gs)

-- ---- the variables of an instance

cells_ids : (fs : List Free) → flat_map cell_ids (map place_cell fs) ≡ free_ids fs
cells_ids [] = refl
cells_ids (f ∷ fs) = cell_first f.symbol.occurs (flat_map cell_ids (map place_cell fs)) ∙ ap (λ is. symbol_ids f.symbol ++ is) (cells_ids fs)
  where
    cell_first : (o : Option ℕ) (is : List ℕ) → cell_ids (record { occurs = o; term = f.symbol.term; domain = f.set }) ++ is ≡ symbol_ids (record { base = f.symbol.base; occurs = o; term = f.symbol.term }) ++ is
    cell_first None is = refl
    cell_first (Some o) is = refl

cells_parts : (m : ModelVar) (fs : List Free) → ArePlacesOf m fs → flat_map (λ c. parts_of m.opt (value_part m c)) (map place_cell fs) ≡ place_parts fs
cells_parts m [] of = refl
cells_parts m (f ∷ fs) of =
    ap (λ ps. parts_of m.opt (value_part m (place_cell f)) ++ ps) (cells_parts m fs of.1)
    ∙ ap (λ o. parts_of o (value_part m (place_cell f)) ++ place_parts fs) (sym of.0.1)
    ∙ ap (λ (b : Base). parts_of (is_some f.symbol.occurs) (record { sort = sort_of b; set = f.set }) ++ place_parts fs) (sym of.0.0)

made_ids : (k : NameKind) (m : ModelVar) → IsMadeOf k m → var_ids m ≡ free_ids (kind_places k)
made_ids k m made = ap (flat_map cell_ids) made.cells ∙ cells_ids (kind_places k)

made_parts : (k : NameKind) (m : ModelVar) → IsMadeOf k m → var_parts m ≡ place_parts (kind_places k)
made_parts k m made = ap (flat_map (λ c. parts_of m.opt (value_part m c))) made.cells ∙ cells_parts m (kind_places k) made.places

abbrev Makes : (List ModelVar → Type 0) → List Free → Type 0
Makes Rest gs = (ms : List ModelVar) → Rest ms → HasParts ms gs

var_made : (k : NameKind) (gs : List Free) (Rest : List ModelVar → Type 0) (ms : List ModelVar) → Makes Rest gs → AreMadeOfNext true k Rest ms → HasParts ms (kind_places k ++ gs)
var_made k gs Rest [] rest made = absurd made
var_made k gs Rest (m ∷ ms) rest made =
    let at = rest ms made.1 in
    record {
      ids = ap (λ is. is ++ ids ms) (made_ids k m made.0) ∙ ap (λ is. free_ids (kind_places k) ++ is) at.ids ∙ sym (both_ids (kind_places k) gs);
      parts = ap (λ ps. ps ++ parts ms) (made_parts k m made.0) ∙ ap (λ ps. place_parts (kind_places k) ++ ps) at.parts ∙ sym (both_parts (kind_places k) gs);
    }

next_made : (k : NameKind) (gs : List Free) (Rest : List ModelVar → Type 0) (ms : List ModelVar) → Makes Rest gs → AreMadeOfNext (is_var_kind k) k Rest ms → HasParts ms (kind_places k ++ gs)
next_made ParName gs Rest ms rest made = rest ms made
next_made (OnePlace f) gs Rest ms rest made = var_made (OnePlace f) gs Rest ms rest made
next_made (ManyPlaces ix fs) gs Rest ms rest made = var_made (ManyPlaces ix fs) gs Rest ms rest made

pub parts_made : (ns : List HeldName) (ms : List ModelVar) → AreMadeOf ns ms → HasParts ms (all_places ns)
parts_made [] [] made = record { ids = refl; parts = refl }
parts_made [] (m ∷ ms) made = absurd made
parts_made (n ∷ ns) ms made = next_made n.kind (all_places ns) (AreMadeOf ns) ms (parts_made ns) made

pub nodes_made : (s : Run) (ns : List HeldName) (ms : List ModelVar) → AreVars s ns → AreMadeOf ns ms → AreNodes s.arena false 0 (ids ms) (parts ms)
nodes_made s ns ms vars made =
    let at = parts_made ns ms made in
    subst (λ is. AreNodes s.arena false 0 is (parts ms)) (sym at.ids) (subst (λ ps. AreNodes s.arena false 0 (free_ids (all_places ns)) ps) (sym at.parts) vars)

-- ---- their names and domains

place_domain : (m : ModelVar) (f : Free) → f.symbol.base ≡ base_of m.base → is_some f.symbol.occurs ≡ m.opt → cell_domain m (place_cell f) ≡ domain_of f
place_domain m f base option =
    ap (λ (b : Base). domain_by b m.opt f.set) (sym base) ∙ ap (λ o. domain_by f.symbol.base o f.set) (sym option)
  where
    domain_by : Base → Bool → List Range → Domain
    domain_by b o u = record { base = b; opt = o; set = u }

place_domains : (m : ModelVar) (fs : List Free) → ArePlacesOf m fs → map (cell_domain m) (map place_cell fs) ≡ map domain_of fs
place_domains m [] of = refl
place_domains m (f ∷ fs) of = ap (λ d. d ∷ map (cell_domain m) (map place_cell fs)) (place_domain m f of.0.0 of.0.1) ∙ ap (λ ds. domain_of f ∷ ds) (place_domains m fs of.1)

domains_made : (k : NameKind) (m : ModelVar) → IsMadeOf k m → domains_of m ≡ domains_by (kind_index k) (map domain_of (kind_places k))
domains_made k m made =
    ap (λ ix. domains_by ix (map (cell_domain m) m.cells)) made.index
    ∙ ap (λ cs. domains_by (kind_index k) (map (cell_domain m) cs)) made.cells
    ∙ ap (domains_by (kind_index k)) (place_domains m (kind_places k) made.places)

-- the domains of the next name, and what is left for the rest
record IsNext (b : Bool) (k : NameKind) (Rest : List ModelVar → Type 0) (ms : List ModelVar) : Type 0 where
  domains : kind_domains k ≡ var_head b ms
  rest : Rest (var_tail b ms)

next_name : (k : NameKind) (b : Bool) (Rest : List ModelVar → Type 0) (ms : List ModelVar) → is_var_kind k ≡ b → AreMadeOfNext (is_var_kind k) k Rest ms → IsNext b k Rest ms
next_name ParName false Rest ms var made = record { domains = refl; rest = made }
next_name ParName true Rest ms var made = absurd (cc)
next_name (OnePlace f) false Rest ms var made = absurd (cc)
next_name (OnePlace f) true Rest [] var made = absurd made
next_name (OnePlace f) true Rest (m ∷ ms) var made = record { domains = sym (domains_made (OnePlace f) m made.0); rest = made.1 }
next_name (ManyPlaces ix fs) false Rest ms var made = absurd (cc)
next_name (ManyPlaces ix fs) true Rest [] var made = absurd made
next_name (ManyPlaces ix fs) true Rest (m ∷ ms) var made = record { domains = sym (domains_made (ManyPlaces ix fs) m made.0); rest = made.1 }

pub names_made : (ds : List Decl) (ns : List HeldName) (ms : List ModelVar) → AreNamesOf ds ns → AreMadeOf ns ms → map named_as ns ≡ names_of ds ms
names_made [] [] ms names made = refl
names_made [] (n ∷ ns) ms names made = absurd names
names_made (d ∷ ds) [] ms names made = absurd names
names_made (d ∷ ds) (n ∷ ns) ms names made =
    let next = next_name n.kind d.ty.ty.var (AreMadeOf ns) ms names.0.var made in
    ap (λ slot. named_by slot (kind_domains n.kind) ∷ map named_as ns) names.0.slot
    ∙ ap (λ (x : Domains). named_by d.slot x ∷ map named_as ns) next.domains
    ∙ ap (λ xs. named_by d.slot (var_head d.ty.ty.var ms) ∷ xs) (names_made ds ns (var_tail d.ty.ty.var ms) names.1 next.rest)

-- ---- nodes are kept, and those of one more name come after them

pub vars_kept : (old new : Run) (ns : List HeldName) → Grew old.arena new.arena → AreVars old ns → AreVars new ns
vars_kept old new ns grew vars = nodes_later old.arena new.arena false 0 (free_ids (all_places ns)) (place_parts (all_places ns)) grew vars

pub joined_nodes : (es : List Entry) (choice : Bool) (k : ℕ) (is js : List ℕ) (ps qs : List Part) → AreNodes es choice k is ps → AreNodes es choice (k + length is) js qs → AreNodes es choice k (is ++ js) (ps ++ qs)
joined_nodes es choice k [] js [] qs first rest = subst (λ k. AreNodes es choice k js qs) (omega arith) rest
joined_nodes es choice k [] js (p ∷ ps) qs first rest = absurd first
joined_nodes es choice k (i ∷ is) js [] qs first rest = absurd first
joined_nodes es choice k (i ∷ is) js (p ∷ ps) qs first rest = (first.0, joined_nodes es choice (suc k) is js ps qs first.1 (subst (λ k. AreNodes es choice k js qs) (omega arith) rest))

more_places : (ns : List HeldName) (n : HeldName) → all_places (ns ++ n ∷ []) ≡ all_places ns ++ kind_places n.kind
more_places ns n = flat_map-append (λ n. kind_places n.kind) ns (n ∷ []) ∙ ap (λ fs. all_places ns ++ fs) (append-nil (kind_places n.kind))

pub more_vars : (s : Run) (ns : List HeldName) (n : HeldName) → AreVars s ns → AreNodes s.arena false (part_count ns) (free_ids (kind_places n.kind)) (place_parts (kind_places n.kind)) → AreVars s (ns ++ n ∷ [])
more_vars s ns n vars next =
    let fs = all_places ns in
    let gs = kind_places n.kind in
    let both = joined_nodes s.arena false 0 (free_ids fs) (free_ids gs) (place_parts fs) (place_parts gs) vars (subst (λ k. AreNodes s.arena false k (free_ids gs) (place_parts gs)) (omega arith) next) in
    subst (λ (hs : List Free). AreNodes s.arena false 0 (free_ids hs) (place_parts hs)) (sym (more_places ns n))
    (subst (λ is. AreNodes s.arena false 0 is (place_parts (fs ++ gs))) (sym (both_ids fs gs)) (subst (λ ps. AreNodes s.arena false 0 (free_ids fs ++ free_ids gs) ps) (sym (both_parts fs gs)) both))

pub more_slots : (k : ℕ) (ns : List HeldName) (n : HeldName) → SlotsFrom k ns → n.slot ≡ k + length ns → SlotsFrom k (ns ++ n ∷ [])
more_slots k [] n slots next = (omega (arith, next), tt)
more_slots k (m ∷ ns) n slots next = (slots.0, more_slots (suc k) ns n slots.1 (omega (arith, next)))

-- ---- the test at the end

-- the choice nodes of parts are the arena's with their numbers
listed : (es : List Entry) (k j : ℕ) (is : List ℕ) (ps : List Part) (id : ℕ) → Numbered es → AreNodes es true k is ps → slice_get is j ≡ Some id → slice_get (local_ids es) (k + j) ≡ Some id
listed es k j [] [] id numbered nodes at = absurd (cc)
listed es k j [] (p ∷ ps) id numbered nodes at = absurd nodes
listed es k j (i ∷ is) [] id numbered nodes at = absurd nodes
listed es k zero (i ∷ is) (p ∷ ps) id numbered nodes at = ap (slice_get (local_ids es)) (omega (arith, nodes.0.number)) ∙ numbered.all i nodes.0.there nodes.0.stands nodes.0.local ∙ at
listed es k (suc j) (i ∷ is) (p ∷ ps) id numbered nodes at = ap (slice_get (local_ids es)) (omega arith) ∙ listed es (suc k) j is ps id numbered nodes.1 at

not_there : {A : Type 0} (x : ℕ) → None ≡ Some x → A
not_there x e = absurd (cc)

some_same : (x y : ℕ) → Some x ≡ Some y → x ≡ y
some_same x y e = cc

same_items : (xs ys : List ℕ) → ((k x : ℕ) → slice_get xs k ≡ Some x → slice_get ys k ≡ Some x) → ((k x : ℕ) → slice_get ys k ≡ Some x → slice_get xs k ≡ Some x) → xs ≡ ys
same_items [] [] to from = refl
same_items [] (y ∷ ys) to from = not_there y (from 0 y refl)
same_items (x ∷ xs) [] to from = not_there x (to 0 x refl)
same_items (x ∷ xs) (y ∷ ys) to from = ap (λ x. x ∷ xs) (some_same x y (from 0 y refl)) ∙ ap (λ zs. y ∷ zs) (same_items xs ys (λ k. to (suc k)) (λ k. from (suc k)))

pub whole_by_test : (s : Run) → IsRun s → AllNoted s → local_ids s.arena ≡ free_ids s.choices
whole_by_test s run noted = same_items (local_ids s.arena) (free_ids s.choices)
    (λ k id at. let c = run.arena.numbered.there k id at in ap (slice_get (free_ids s.choices)) (sym c.number) ∙ noted id c.there c.stands c.local)
    (λ k id at. ap (slice_get (local_ids s.arena)) (omega arith) ∙ listed s.arena 0 k (free_ids s.choices) (all_parts (taken s)) id run.arena.numbered run.locals at)
