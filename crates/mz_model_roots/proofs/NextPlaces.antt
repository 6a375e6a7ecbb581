-- Places, one after the other.
use Rattle.std.proofs.Common.{◌≡◌, ◌∙◌, ℕ, suc, ◌+◌, ◌*◌, ◌≤◌, Bool, true, false, List, [], ◌∷◌, ◌++◌, length, map, Option, Some, None, is_some, refl, sym, ap, subst, arith}
use Rattle.std.proofs.lemmas.List.{append-nil, append_assoc, map-append, length-append}
use Rattle.mz_value.specs.Ranges.{Range, AreCanonical, AreInLimit}
use Rattle.mz_core.specs.declared.types.Base.{Base}
use Rattle.mz_arena.specs.Arenas.{Grew}
use Rattle.mz_arena.proofs.Growing.{grew_same, grew_both}
use Rattle.mz_meaning.specs.Domains.{Domain}
use Rattle.mz_instance.specs.Parts.{Part, parts_of, next, AreNodes}
use Rattle.mz_model_meaning.specs.Decoded.{IsShaped, AreShaped}
use Rattle.mz_symbol.specs.declared.types.Free.{Free}
use Rattle.mz_symbol.specs.declared.types.Symbol.{Symbol}
use Rattle.mz_symbol.specs.Choices.{domain_parts}
use Rattle.mz_symbol.specs.Symbols.{symbol_ids, domain_of, free_ids, IsSymbolOf}
use Rattle.mz_symbol.specs.StepsChoices.{choice_domain, free_of}
use Rattle.mz_symbol.specs.Runs.{Run}
use Rattle.mz_symbol.specs.Makes.{GoesOnBy, owed, earned}
use Rattle.mz_symbol.proofs.RunLaws.{nodes_later}
use Rattle.mz_model_state.specs.Hands.{NameKind, kind_places, HeldName, AreVars}
use Rattle.mz_model_state.specs.Variables.{part_count}
use Rattle.mz_model_state.proofs.Variables.{place_parts, both_ids, both_parts, joined_nodes, more_vars, vars_kept}
use Rattle.mz_model_roots.specs.Placed.{place_over, HaveNodes, ArePlaces, AddsName, MakesPlaces}
use Rattle.mz_model_roots.specs.StepsPlaces.{IsSuited, AreSoFar}

pub shaped : (d : Domain) → AreCanonical d.set → AreInLimit d.set → IsSuited d → IsShaped d
shaped d canonical limited s = record { base = s.base; part = record { truth = s.truth; canonical = canonical; limited = limited }; allowed = s.allowed }

-- ---- what is made

pub makes_none : (n : ℕ) (s : Run) → MakesPlaces n s s
makes_none n s = record { goes = record { back = λ r h. h; paid = omega arith }; same = λ r. refl; grew = grew_same s.arena }

pub makes_most : (n m : ℕ) (old new : Run) → n ≤ m → MakesPlaces n old new → MakesPlaces m old new
makes_most n m old new h f = record { goes = record { back = f.goes.back; paid = more (owed old) (owed new) (earned old) (earned new) n m h f.goes.paid }; same = f.same; grew = f.grew }
  where
    more : (a b x y n m : ℕ) → n ≤ m → b + x ≤ a + y + n → b + x ≤ a + y + m
    more a b x y n m p q = omega (arith, p, q)

pub makes_both : (n m : ℕ) (old mid new : Run) → MakesPlaces n old mid → MakesPlaces m mid new → MakesPlaces (n + m) old new
makes_both n m old mid new f g = record {
  goes = record {
    back = λ r h. f.goes.back r (g.goes.back r h);
    paid = sums (owed old) (owed mid) (owed new) (earned old) (earned mid) (earned new) n m f.goes.paid g.goes.paid;
  };
  same = λ r. f.same r ∙ g.same r;
  grew = grew_both f.grew g.grew;
}
  where
    sums : (a b c x y z n m : ℕ) → b + x ≤ a + y + n → c + y ≤ b + z + m → c + x ≤ a + z + (n + m)
    sums a b c x y z n m p q = omega (arith, p, q)

-- ---- one place

place_domain : (y : Symbol) (b : Base) (o : Bool) (u : List Range) → y.base ≡ b → is_some y.occurs ≡ o → domain_of (free_of y u) ≡ place_over b o u
place_domain y b o u base option = ap (λ (b : Base). place_over b (is_some y.occurs) u) base ∙ ap (λ o. place_over b o u) option

pub place_made : (s : Run) (k : ℕ) (b : Base) (o : Bool) (u : List Range) (y : Symbol) → IsShaped (place_over b o u) → IsSymbolOf s.arena false k (choice_domain b o u) y → ArePlaces s k (place_over b o u ∷ []) (free_of y u ∷ [])
place_made s k b o u y is h =
    let domain = place_domain y b o u h.base h.option in
    record {
      domains = ap (λ (d : Domain). d ∷ []) domain;
      shaped = (is, tt);
      nodes =
          subst (λ is. AreNodes s.arena false k is (place_parts (free_of y u ∷ []))) (sym (append-nil (symbol_ids y)))
          (subst (λ ps. AreNodes s.arena false k (symbol_ids y) ps) (sym (append-nil (domain_parts (domain_of (free_of y u)))))
          (subst (λ (d : Domain). AreNodes s.arena false k (symbol_ids y) (domain_parts d)) (sym domain) h.nodes));
    }

-- ---- a name

pub name_added : (old new : Run) (k : ℕ) (kind : NameKind) → Grew old.arena new.arena → HaveNodes new k (kind_places kind) → AddsName old new k kind
name_added old new k kind grew nodes = record {
  vars = λ ns n is count vars.
      more_vars new ns n (vars_kept old new ns grew vars)
      (subst (λ (c : NameKind). HaveNodes new (part_count ns) (kind_places c)) (sym is) (subst (λ k. HaveNodes new k (kind_places kind)) (sym count) nodes));
}

-- ---- several places

first_of : (d e : Domain) → d ∷ [] ≡ e ∷ [] → d ≡ e
first_of d e h = cc

and_one : (ds : List Domain) (d : Domain) → AreShaped ds → IsShaped d → AreShaped (ds ++ d ∷ [])
and_one [] d shaped one = (one, tt)
and_one (e ∷ ds) d shaped one = (shaped.0, and_one ds d shaped.1 one)

-- a place counts its parts
part_number : (f : Free) (o : Bool) (k : ℕ) → is_some f.symbol.occurs ≡ o → next o k ≡ k + length (free_ids (f ∷ []))
part_number f o k option = ap (λ o. next o k) (sym option) ∙ by f.symbol.occurs
  where
    by : (p : Option ℕ) → next (is_some p) k ≡ k + length (symbol_ids (record { base = f.symbol.base; occurs = p; term = f.symbol.term }) ++ [])
    by None = omega arith
    by (Some q) = omega arith

pub places_none : (s : Run) (k : ℕ) (b : Base) (o : Bool) (all : List (List Range)) → AreSoFar s s k k b o all all []
places_none s k b o all = record { makes = makes_none (8 * 0) s; count = omega arith; number = omega arith; domains = refl; shaped = tt; nodes = tt }

pub places_more : (old mid new : Run) (k here after : ℕ) (b : Base) (o : Bool) (all rest : List (List Range)) (u : List Range) (fs : List Free) (f : Free) → AreSoFar old mid k here b o all (u ∷ rest) fs → MakesPlaces 8 mid new → ArePlaces new here (place_over b o u ∷ []) (f ∷ []) → after ≡ next o here → AreSoFar old new k after b o all rest (fs ++ f ∷ [])
places_more old mid new k here after b o all rest u fs f h makes place is =
    let domain = first_of (domain_of f) (place_over b o u) place.domains in
    let one = length-append fs (f ∷ []) in
    record {
      makes = subst (λ n. MakesPlaces n old new) (omega (arith, one)) (makes_both (8 * length fs) 8 old mid new h.makes makes);
      count = omega (arith, one, h.count);
      number =
          is ∙ part_number f o here (ap (λ (d : Domain). d.opt) domain)
          ∙ ap (λ n. n + length (free_ids (f ∷ []))) h.number
          ∙ sums k (length (free_ids fs)) (length (free_ids (f ∷ []))) (length (free_ids (fs ++ f ∷ []))) (ap (λ is. length is) (both_ids fs (f ∷ [])) ∙ length-append (free_ids fs) (free_ids (f ∷ [])));
      domains =
          ap (λ ds. ds ++ map (place_over b o) rest) (map-append domain_of fs (f ∷ []))
          ∙ append_assoc (map domain_of fs) (domain_of f ∷ []) (map (place_over b o) rest)
          ∙ ap (λ (d : Domain). map domain_of fs ++ d ∷ map (place_over b o) rest) domain
          ∙ h.domains;
      shaped = subst AreShaped (sym (map-append domain_of fs (f ∷ []))) (and_one (map domain_of fs) (domain_of f) h.shaped (subst IsShaped (sym domain) place.shaped.0));
      nodes =
          subst (λ is. AreNodes new.arena false k is (place_parts (fs ++ f ∷ []))) (sym (both_ids fs (f ∷ [])))
          (subst (λ ps. AreNodes new.arena false k (free_ids fs ++ free_ids (f ∷ [])) ps) (sym (both_parts fs (f ∷ [])))
          (joined_nodes new.arena false k (free_ids fs) (free_ids (f ∷ [])) (place_parts fs) (place_parts (f ∷ []))
          (nodes_later mid.arena new.arena false k (free_ids fs) (place_parts fs) makes.grew h.nodes)
          (subst (λ k. AreNodes new.arena false k (free_ids (f ∷ [])) (place_parts (f ∷ []))) h.number place.nodes)));
    }
  where
    sums : (k a b c : ℕ) → c ≡ a + b → k + a + b ≡ k + c
    sums k a b c e = omega (arith, e)

-- with what one more place may cost, not more than all places may
pub makes_some : (n : ℕ) (old mid new : Run) (k here : ℕ) (b : Base) (o : Bool) (all rest : List (List Range)) (u : List Range) (fs : List Free) → AreSoFar old mid k here b o all (u ∷ rest) fs → MakesPlaces 8 mid new → n ≡ length all → MakesPlaces (8 * n) old new
makes_some n old mid new k here b o all rest u fs h makes is = makes_most (8 * length fs + 8) (8 * n) old new (omega (arith, h.count, is)) (makes_both (8 * length fs) 8 old mid new h.makes makes)

pub places_all : (old new : Run) (k here : ℕ) (b : Base) (o : Bool) (all : List (List Range)) (fs : List Free) → AreSoFar old new k here b o all [] fs → ArePlaces new k (map (place_over b o) all) fs
places_all old new k here b o all fs h =
    let domains = sym (append-nil (map domain_of fs)) ∙ h.domains in
    record { domains = domains; shaped = subst AreShaped domains h.shaped; nodes = h.nodes }

pub makes_all : (old new : Run) (k here : ℕ) (b : Base) (o : Bool) (all : List (List Range)) (fs : List Free) → AreSoFar old new k here b o all [] fs → MakesPlaces (8 * length all) old new
makes_all old new k here b o all fs h = subst (λ n. MakesPlaces n old new) (omega (arith, h.count)) h.makes
