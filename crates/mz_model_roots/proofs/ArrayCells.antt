-- The places of an array have values, and so its line is defined.
use Rattle.std.proofs.Common.{◌≡◌, ◌∙◌, ℕ, Bool, true, false, List, [], ◌∷◌, ◌++◌, map, Option, Some, None, is_some, IsSome, refl, sym, ap, subst, if◌then◌else◌}
use Rattle.std.specs.Option.{option_map, option_and_then}
use Rattle.mz_value.specs.Ranges.{Range}
use Rattle.mz_value.specs.Contents.{Content}
use Rattle.mz_core.specs.declared.types.Base.{Base}
use Rattle.mz_core.specs.declared.types.Base.TheVariants as base
use Rattle.mz_arena.specs.Entries.{Entry}
use Rattle.mz_arena.specs.Values.{Term, bit, is_true}
use Rattle.mz_meaning.specs.Runs.{State, Out}
use Rattle.mz_instance.specs.Parts.{Part, parts_of, next, sort_of, is_subset_sort, IsNode, AreNodes}
use Rattle.mz_symbol.specs.declared.types.Free.{Free}
use Rattle.mz_symbol.specs.Choices.{all_parts}
use Rattle.mz_symbol.specs.Symbols.{with_id, value_by, symbol_value, domain_of, free_ids, all_there, elements_value, IsOccurrence, IsItem, AreItems}
use Rattle.mz_symbol.specs.Runs.{HasValue, ReadsNodes}
use Rattle.mz_symbol.specs.Readings.{Reading}
use Rattle.mz_model_state.specs.Hands.{places_value}
use Rattle.mz_model_state.proofs.Variables.{if_defined}
use Rattle.mz_model_roots.specs.StepsPlaces.{symbols_of}

-- ---- a place's nodes have values

mapped_there : {A B : Type 0} (f : A → B) (o : Option A) → IsSome o → IsSome (option_map f o)
mapped_there f None h = absurd (cc)
mapped_there f (Some x) h = refl

value_there : (b : Base) (x : Term) → HasValue (is_subset_sort (sort_of b)) x → IsSome (value_by b x)
value_there base.SetInt x h = mapped_there _ _ h
value_there (base.SetEnum e) x h = mapped_there _ _ h
value_there b x h = mapped_there _ _ h

node_there : (t : ℕ → Term) (es : List Entry) (k : ℕ) (p : Part) (id : ℕ) → ReadsNodes t es → IsNode es false k p id → HasValue (is_subset_sort p.sort) (t id)
node_there t es k p id h n = subst (λ b. HasValue b (t id)) n.sort (h.frees id n.there n.stands n.free)

record FirstThere (t : ℕ → Term) (es : List Entry) (k : ℕ) (b : Base) (o : Option ℕ) (id : ℕ) (is : List ℕ) (ps : List Part) : Type 0 where
  value : IsSome (value_by b (t id))
  occurs : IsOccurrence t o
  rest : AreNodes es false (next (is_some o) k) is ps

first_there : (t : ℕ → Term) (es : List Entry) (k : ℕ) (b : Base) (u : List Range) (o : Option ℕ) (id : ℕ) (is : List ℕ) (ps : List Part) → ReadsNodes t es → AreNodes es false k (with_id o (id ∷ []) ++ is) (parts_of (is_some o) (record { sort = sort_of b; set = u }) ++ ps) → FirstThere t es k b o id is ps
first_there t es k b u None id is ps h ns = record { value = value_there b (t id) (node_there t es k _ id h ns.0); occurs = tt; rest = ns.1 }
first_there t es k b u (Some o) id is ps h ns = record { value = value_there b (t id) (node_there t es _ _ id h ns.1.0); occurs = node_there t es k _ o h ns.0; rest = ns.1.1 }

pub places_there : (t : ℕ → Term) (es : List Entry) (k : ℕ) (fs : List Free) → ReadsNodes t es → AreNodes es false k (free_ids fs) (all_parts (map domain_of fs)) → AreItems t (symbols_of fs)
places_there t es k [] h ns = tt
places_there t es k (f ∷ fs) h ns =
    let r = first_there t es k f.symbol.base f.set f.symbol.occurs f.symbol.term (free_ids fs) (all_parts (map domain_of fs)) h ns in
    (record { value = r.value; occurs = r.occurs }, places_there t es (next (is_some f.symbol.occurs) k) fs h r.rest)

-- ---- the line of an array that is defined

symbols_value : (t : ℕ → Term) (fs : List Free) → map (symbol_value t) (symbols_of fs) ≡ map (λ f. symbol_value t f.symbol) fs
symbols_value t [] = refl
symbols_value t (f ∷ fs) = ap (λ xs. symbol_value t f.symbol ∷ xs) (symbols_value t fs)

pub defined_line : (t : ℕ → Term) (d : ℕ) (fs : List Free) → t d ≡ bit true → elements_value t d (symbols_of fs) ≡ places_value t fs
defined_line t d fs is =
    if_defined (is_true (t d)) (all_there (map (symbol_value t) (symbols_of fs))) (ap is_true is)
    ∙ ap all_there (symbols_value t fs)

out_value : {A : Type 0} (x y : A) (s t : State) → Out x s ≡ Out y t → x ≡ y
out_value x y s t h = cc

pub line_is : (r : Reading) (d line : ℕ) (fs gs : List Free) (a b x y : State) → gs ≡ fs → Out (bit true) a ≡ Out (r.term d) b → Out (elements_value r.term d (symbols_of gs)) x ≡ Out (r.line line) y → r.line line ≡ places_value r.term fs
line_is r d line fs gs a b x y same sure kept =
    sym (out_value (elements_value r.term d (symbols_of gs)) (r.line line) x y kept)
    ∙ ap (λ fs. elements_value r.term d (symbols_of fs)) same
    ∙ defined_line r.term d fs (sym (out_value (bit true) (r.term d) a b sure))
