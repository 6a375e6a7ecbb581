-- Nodes of parts, by what is read of them.
use Rattle.std.proofs.Common.{◌≡◌, ◌≢◌, ◌∙◌, ℕ, zero, suc, ◌+◌, ◌<◌, Bool, true, false, List, [], ◌∷◌, ◌++◌, length, map, take, Option, Some, None, is_some, slice_get, refl, sym, ap, subst, arith}
use Rattle.std.proofs.lemmas.List.{append-nil, length-append}
use Rattle.std.proofs.Math.Seq.{take-length}
use Rattle.std.proofs.lemmas.List.Concat.{flat_map-append}
use Rattle.std.specs.Option.{option_map}
use Rattle.mz_value.specs.Ranges.{Range}
use Rattle.mz_value.specs.Contents.{Content}
use Rattle.mz_value.specs.Contents as values
use Rattle.mz_core.specs.declared.types.Base.{Base}
use Rattle.mz_core.specs.declared.types.Base.TheVariants as base
use Rattle.mz_operations.specs.Sets.{same_set}
use Rattle.mz_arena.specs.declared.node.Node.{Node}
use Rattle.mz_arena.specs.declared.node.NodeKind.{NodeKind}
use Rattle.mz_arena.specs.declared.node.NodeKind.TheVariants.{Var, Local, SetVar, SetLocal}
use Rattle.mz_arena.specs.Entries.{Entry, is_free, is_local}
use Rattle.mz_arena.specs.FreeNodes.{is_set_kind}
use Rattle.mz_arena.specs.Arenas.{IsArena, IsSetConst, HasDomain, has_mark}
use Rattle.mz_arena.specs.Values.{set_comparison_term}
use Rattle.mz_arena.specs.Values as terms
use Rattle.mz_instance.specs.Parts.{Part, Subset, occurrence, truths, sort_of, parts_of, IsNode, AreNodes}
use Rattle.mz_symbol.specs.declared.types.Free.{Free}
use Rattle.mz_symbol.specs.declared.types.Symbol.{Symbol}
use Rattle.mz_symbol.specs.Choices.{domain_parts}
use Rattle.mz_symbol.specs.StepsChoices.{part_over}
use Rattle.mz_symbol.specs.Symbols.{with_id, symbol_ids, domain_of, free_ids}
use Rattle.mz_symbol.specs.Runs.{Run}
use Rattle.mz_model_state.specs.Hands.{HeldName, kind_places, all_places, AreVars}
use Rattle.mz_model_state.specs.Variables.{part_count}
use Rattle.mz_model_state.proofs.Tests.{bit_true, sets_tested}
use Rattle.mz_model_state.proofs.Variables.{place_parts, both_ids, both_parts, joined_nodes, more_vars}
use Rattle.mz_model_state.specs.Placed.{ArePlaced}
use Rattle.mz_model_state.specs.StepsParts.{IsVarKind, IsOption, IsPlacedAt}

-- ---- sets that are the same

one_set : (s t : List Range) → ◌≡◌ {A = Option Content} (Some (values.set None s)) (Some (values.set None t)) → s ≡ t
one_set s t e = cc

set_same : (s t : List Range) → same_set s t ≡ true → s ≡ t
unfolding set_comparison_term
set_same s t h = let one = (sets_tested base.SetInt (Some (terms.set s)) (Some (terms.set t)) refl).to (bit_true (same_set s t) ∙ h) in one_set s t (one.first ∙ sym one.second)

-- ---- what stands at an id

record Stands (es : List Entry) (id : ℕ) (n : Node) : Type 0 where
  there : Entry
  at : slice_get es id ≡ Some there
  node : there.node ≡ n

stands : (es : List Entry) (id : ℕ) (n : Node) (o : Option Entry) → slice_get es id ≡ o → option_map (λ (e : Entry). e.node) o ≡ Some n → Stands es id n
stands es id n None is h = absurd (cc)
stands es id n (Some e) is h = record { there = e; at = is; node = same e.node n h }
  where
    same : (m n : Node) → Some m ≡ Some n → m ≡ n
    same m n e = cc

record Over (es : List Entry) (id : ℕ) (u : List Range) : Type 0 where
  there : Entry
  at : slice_get es id ≡ Some there
  set : there.set ≡ u

over : (es : List Entry) (id : ℕ) (u : List Range) (o : Option Entry) → slice_get es id ≡ o → option_map (λ (e : Entry). e.set) o ≡ Some u → Over es id u
over es id u None is h = absurd (cc)
over es id u (Some e) is h = record { there = e; at = is; set = same e.set u h }
  where
    same : (s t : List Range) → Some s ≡ Some t → s ≡ t
    same s t e = cc

-- a variable is over a SetConst
pub domain_there : (es : List Entry) (id : ℕ) (n : Node) → IsArena es → option_map (λ (e : Entry). e.node) (slice_get es id) ≡ Some n → is_free n.kind ≡ true → HasDomain es n
domain_there es id n arena h free =
    let e = stands es id n (slice_get es id) refl h in
    subst (HasDomain es) e.node (arena.domains id e.there e.at (ap (λ (n : Node). is_free n.kind) e.node ∙ free))

pub const_there : (es : List Entry) (id : ℕ) (n : Node) → IsArena es → option_map (λ (e : Entry). e.node) (slice_get es id) ≡ Some n → is_free n.kind ≡ true → IsSetConst es n.a
const_there es id n arena h free = (domain_there es id n arena h free).const

pub is_node : (es : List Entry) (k : ℕ) (b : Base) (u v : List Range) (id : ℕ) (n : Node) → IsArena es → option_map (λ (e : Entry). e.node) (slice_get es id) ≡ Some n → IsVarKind b n → n.b ≡ k → option_map (λ (e : Entry). e.set) (slice_get es n.a) ≡ Some v → same_set v u ≡ true → IsNode es false k (part_over b u) id
is_node es k b u v id n arena h kind number domain same =
    let e = stands es id n (slice_get es id) refl h in
    let d = over es n.a v (slice_get es n.a) refl domain in
    let free : is_free e.there.node.kind ≡ true = ap (λ (n : Node). is_free n.kind) e.node ∙ kind.free in
    record {
      there = e.there;
      stands = e.at;
      free = free;
      local = ap (λ (n : Node). is_local n.kind) e.node ∙ kind.local;
      sort = ap (λ (n : Node). is_set_kind n.kind) e.node ∙ kind.sort;
      mark = λ other. ap (λ (n : Node). n.c) e.node ∙ kind.mark other;
      own = arena.own id e.there e.at free;
      number = ap (λ (n : Node). n.b) e.node ∙ number;
      over = d.there;
      domain = ap (λ (n : Node). slice_get es n.a) e.node ∙ d.at;
      set = d.set ∙ set_same v u same;
    }

-- a Boolean variable is over false and true
pub is_occurrence : (es : List Entry) (k id : ℕ) (n : Node) → IsArena es → option_map (λ (e : Entry). e.node) (slice_get es id) ≡ Some n → IsVarKind base.Bool n → n.b ≡ k → IsNode es false k occurrence id
is_occurrence es k id n arena h kind number =
    let e = stands es id n (slice_get es id) refl h in
    let free : is_free e.there.node.kind ≡ true = ap (λ (n : Node). is_free n.kind) e.node ∙ kind.free in
    let domain = arena.domains id e.there e.at free in
    let set = ap (λ (n : Node). is_set_kind n.kind) e.node ∙ kind.sort in
    let mark = ap (λ (n : Node). n.c) e.node ∙ kind.mark (λ e. cc) in
    record {
      there = e.there;
      stands = e.at;
      free = free;
      local = ap (λ (n : Node). is_local n.kind) e.node ∙ kind.local;
      sort = set;
      mark = λ other. mark;
      own = arena.own id e.there e.at free;
      number = ap (λ (n : Node). n.b) e.node ∙ number;
      over = domain.const.there;
      domain = domain.const.stands;
      set = domain.both (marked e.there.node.kind free set) mark;
    }
  where
    marked : (k : NodeKind) → is_free k ≡ true → is_set_kind k ≡ false → has_mark k ≡ true
    marked Var f s = refl
    marked Local f s = refl
    marked SetVar f s = absurd (cc)
    marked SetLocal f s = absurd (cc)
    marked k f s = absurd (cc)

-- ---- a place

abbrev ids_by : Free → Option ℕ → List ℕ
ids_by f o = with_id o (f.symbol.term ∷ [])

pub one_part : (es : List Entry) (k : ℕ) (f : Free) → f.symbol.occurs ≡ None → IsNode es false k (part_over f.symbol.base f.set) f.symbol.term → AreNodes es false k (symbol_ids f.symbol) (domain_parts (domain_of f))
one_part es k f is node = subst (λ o. AreNodes es false k (ids_by f o) (parts_of (is_some o) (part_over f.symbol.base f.set))) (sym is) (node, tt)

pub two_parts : (es : List Entry) (k o : ℕ) (f : Free) → f.symbol.occurs ≡ Some o → IsOption es k o f → AreNodes es false k (symbol_ids f.symbol) (domain_parts (domain_of f))
two_parts es k o f is option = subst (λ o. AreNodes es false k (ids_by f o) (parts_of (is_some o) (part_over f.symbol.base f.set))) (sym is) (option.occurs, (option.value, tt))

-- ---- places, one after the other

pub placed_none : (s : Run) (k : ℕ) → ArePlaced s k [] k
placed_none s k = record { nodes = tt; number = omega arith }

pub placed_more : (s : Run) (k n m : ℕ) (fs : List Free) (f : Free) → ArePlaced s k fs n → AreNodes s.arena false n (symbol_ids f.symbol) (domain_parts (domain_of f)) → m ≡ n + length (symbol_ids f.symbol) → ArePlaced s k (fs ++ f ∷ []) m
placed_more s k n m fs f h nodes is =
    let one : AreNodes s.arena false n (free_ids (f ∷ [])) (place_parts (f ∷ [])) =
    subst (λ is. AreNodes s.arena false n is (place_parts (f ∷ []))) (sym (append-nil (symbol_ids f.symbol))) (subst (λ ps. AreNodes s.arena false n (symbol_ids f.symbol) ps) (sym (append-nil (domain_parts (domain_of f)))) nodes) in
    let last = length (free_ids (f ∷ [])) in
    let counted : last ≡ length (symbol_ids f.symbol) = ap (λ is. length is) (append-nil (symbol_ids f.symbol)) in
    let all : length (free_ids (fs ++ f ∷ [])) ≡ length (free_ids fs) + last = ap (λ is. length is) (both_ids fs (f ∷ [])) ∙ length-append (free_ids fs) (free_ids (f ∷ [])) in
    record {
      nodes =
          subst (λ is. AreNodes s.arena false k is (place_parts (fs ++ f ∷ []))) (sym (both_ids fs (f ∷ [])))
          (subst (λ ps. AreNodes s.arena false k (free_ids fs ++ free_ids (f ∷ [])) ps) (sym (both_parts fs (f ∷ [])))
          (joined_nodes s.arena false k (free_ids fs) (free_ids (f ∷ [])) (place_parts fs) (place_parts (f ∷ [])) h.nodes (subst (λ k. AreNodes s.arena false k (free_ids (f ∷ [])) (place_parts (f ∷ []))) h.number one)));
      number = sums k n m (length (free_ids fs)) last (length (symbol_ids f.symbol)) (length (free_ids (fs ++ f ∷ []))) h.number is counted all;
    }
  where
    sums : (k n m a b c d : ℕ) → n ≡ k + a → m ≡ n + c → b ≡ c → d ≡ a + b → m ≡ k + d
    sums k n m a b c d p q r s = omega (arith, p, q, r, s)

record At (xs : List Free) (i : ℕ) : Type 0 where
  item : Free
  at : slice_get xs i ≡ Some item

there_at : (xs : List Free) (i : ℕ) → i < length xs → At xs i
there_at [] i low = absurd (omega (arith, low))
there_at (x ∷ xs) zero low = record { item = x; at = refl }
there_at (x ∷ xs) (suc i) low = let rest = there_at xs i (omega (arith, low)) in record { item = rest.item; at = rest.at }

take_next : (xs : List Free) (i : ℕ) (x : Free) → slice_get xs i ≡ Some x → take (suc i) xs ≡ take i xs ++ x ∷ []
take_next [] i x at = absurd (cc)
take_next (y ∷ xs) zero x at = ap (λ (z : Free). z ∷ []) (same y x at)
  where
    same : (y x : Free) → Some y ≡ Some x → y ≡ x
    same y x e = cc
take_next (y ∷ xs) (suc i) x at = ap (λ (zs : List Free). y ∷ zs) (take_next xs i x at)

pub placed_step : (s : Run) (k n m i j : ℕ) (fs : List Free) → i < length fs → j ≡ i + 1 → ArePlaced s k (take i fs) n → IsPlacedAt s.arena n fs i m → ArePlaced s k (take j fs) m
placed_step s k n m i j fs low is h at =
    let x = there_at fs i low in
    let one = at.place x.item x.at in
    let after : j ≡ suc i = omega (arith, is) in
    let next : take j fs ≡ take i fs ++ x.item ∷ [] = ap (λ k. take k fs) after ∙ take_next fs i x.item x.at in
    subst (λ (gs : List Free). ArePlaced s k gs m) (sym next) (placed_more s k n m (take i fs) x.item h one.nodes one.number)

pub placed_all : (s : Run) (k n i : ℕ) (fs : List Free) → i ≡ length fs → ArePlaced s k (take i fs) n → ArePlaced s k fs n
placed_all s k n i fs is h = subst (λ (gs : List Free). ArePlaced s k gs n) (ap (λ k. take k fs) is ∙ take-length fs) h

-- ---- names

more_places : (ns : List HeldName) (n : HeldName) → all_places (ns ++ n ∷ []) ≡ all_places ns ++ kind_places n.kind
more_places ns n = flat_map-append (λ n. kind_places n.kind) ns (n ∷ []) ∙ ap (λ fs. all_places ns ++ fs) (append-nil (kind_places n.kind))

pub placed_is_next : (s : Run) (ns : List HeldName) (n : HeldName) (next : ℕ) → AreVars s ns → ArePlaced s (part_count ns) (kind_places n.kind) next → AreVars s (ns ++ n ∷ [])
placed_is_next s ns n next vars placed = more_vars s ns n vars placed.nodes

pub placed_counts : (s : Run) (ns : List HeldName) (n : HeldName) (next : ℕ) → ArePlaced s (part_count ns) (kind_places n.kind) next → next ≡ part_count (ns ++ n ∷ [])
placed_counts s ns n next placed =
    placed.number ∙ sym (ap (λ (fs : List Free). length (free_ids fs)) (more_places ns n) ∙ ap (λ is. length is) (both_ids (all_places ns) (kind_places n.kind)) ∙ length-append (free_ids (all_places ns)) (free_ids (kind_places n.kind)))
