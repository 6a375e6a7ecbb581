-- An assignment that has the values of the parts has those of the names' places.
use Rattle.std.proofs.Common.{◌≡◌, ◌∙◌, ℕ, List, [], ◌∷◌, ◌++◌, map, Option, Some, false, refl, ap, subst}
use Rattle.std.specs.Option.{option_map}
use Rattle.mz_value.specs.Contents.{Content}
use Rattle.mz_arena.specs.Numbering.{by_id}
use Rattle.mz_arena.specs.Terms.{term}
use Rattle.mz_arena.specs.Values.{Values, Term}
use Rattle.mz_meaning.specs.Domains.{Domain}
use Rattle.mz_meaning.specs.Walk.{Assignment}
use Rattle.mz_instance.specs.Parts.{next}
use Rattle.mz_model_meaning.specs.Decoded.{after_domains, cell_contents, domains_in, TellsName, Tells}
use Rattle.mz_symbol.specs.declared.types.Free.{Free}
use Rattle.mz_symbol.specs.Symbols.{symbol_value, domain_of, all_there}
use Rattle.mz_symbol.specs.Runs.{Run, IsRun}
use Rattle.mz_model_state.specs.Hands.{NameKind, ParName, OnePlace, ManyPlaces, kind_places, kind_domains, HeldName, named_as, all_places, places_value, array_value, IsAssigned, AllAssigned, AreVars}
use Rattle.mz_model_state.proofs.Places.{PlacesHave, places_told}

have_first : (t : ℕ → Term) (fs gs : List Free) (k : ℕ) (z : Values) → PlacesHave t (fs ++ gs) k z → PlacesHave t fs k z
have_first t [] gs k z h = tt
have_first t (f ∷ fs) gs k z h = (h.0, have_first t fs gs (next (domain_of f).opt k) z h.1)

have_rest : (t : ℕ → Term) (fs gs : List Free) (k : ℕ) (z : Values) → PlacesHave t (fs ++ gs) k z → PlacesHave t gs (after_domains (map domain_of fs) k) z
have_rest t [] gs k z h = h
have_rest t (f ∷ fs) gs k z h = have_rest t fs gs (next (domain_of f).opt k) z h.1

pub one_more_there : (v : Option Content) (vs : List (Option Content)) (c : Content) (cs : List Content) → v ≡ Some c → all_there vs ≡ Some cs → all_there (v ∷ vs) ≡ Some (c ∷ cs)
one_more_there v vs c cs first rest = ap (λ v. all_there (v ∷ vs)) first ∙ ap (option_map (λ xs. c ∷ xs)) rest

all_values : (t : ℕ → Term) (fs : List Free) (k : ℕ) (z : Values) → PlacesHave t fs k z → places_value t fs ≡ Some (cell_contents (map domain_of fs) k z)
all_values t [] k z h = refl
all_values t (f ∷ fs) k z h = one_more_there (symbol_value t f.symbol) (map (λ f. symbol_value t f.symbol) fs) _ _ h.0 (all_values t fs (next (domain_of f).opt k) z h.1)

kind_assigned : (t : ℕ → Term) (a : Assignment) (slot : ℕ) (d : NameKind) (k : ℕ) (z : Values) → PlacesHave t (kind_places d) k z → TellsName slot (kind_domains d) k z a → IsAssigned t a slot d
kind_assigned t a slot ParName k z h told = tt
kind_assigned t a slot (OnePlace f) k z h told = record { content = _; first = told; second = h.0 }
kind_assigned t a slot (ManyPlaces ix fs) k z h told = record { content = _; first = told; second = ap (array_value ix) (all_values t fs k z h) }

same_domains : (d : NameKind) → map domain_of (kind_places d) ≡ domains_in (kind_domains d)
same_domains ParName = refl
same_domains (OnePlace f) = refl
same_domains (ManyPlaces ix fs) = refl

names_assigned : (t : ℕ → Term) (a : Assignment) (ns : List HeldName) (k : ℕ) (z : Values) → PlacesHave t (all_places ns) k z → Tells (map named_as ns) k z a → AllAssigned t a ns
names_assigned t a [] k z h told = tt
names_assigned t a (n ∷ ns) k z h told =
    let places = kind_places n.kind in
    let rest = subst (λ (ds : List Domain). PlacesHave t (all_places ns) (after_domains ds k) z) (same_domains n.kind) (have_rest t places (all_places ns) k z h) in
    (kind_assigned t a n.slot n.kind k z (have_first t places (all_places ns) k z h) told.0, names_assigned t a ns (after_domains (domains_in (kind_domains n.kind)) k) z rest told.1)

pub all_assigned : (s : Run) (ns : List HeldName) (a : Assignment) (x y : Values) → IsRun s → AreVars s ns → Tells (map named_as ns) 0 x a → AllAssigned (λ id. term (by_id s.arena x y) s.arena id) a ns
all_assigned s ns a x y run vars told = names_assigned (λ id. term (by_id s.arena x y) s.arena id) a ns 0 x (places_told s.arena x y false 0 (all_places ns) run.arena vars) told
