-- A declaration's name has its number for its place, and a row of mentions has the declarations that uses mean.
use Rattle.std.proofs.Common.{◌≡◌, ℕ, zero, suc, ◌+◌, ◌<◌, List, [], ◌∷◌, ◌++◌, false, Some, length, map, get_or, refl, ap, sym, ◌∙◌, subst, arith, append_assoc}
use Rattle.std.specs.Prelude.{if◌then◌else◌, ◌||◌, nat_eq}
use Rattle.std.specs.List.{position_or_len}
use Rattle.std.proofs.lemmas.List.{append-nil, get_or-map, length-map}
use Rattle.std.proofs.lemmas.Bool.{ne_eqb}
use Rattle.mz_graph.specs.Graph.{IsIn}
use Rattle.mz_graph.proofs.Membership.{in_at}
use Rattle.mz_scope_names.specs.Sets.{holds, with_name, place_of}
use Rattle.mz_scope_names.proofs.Holding.{holds_more}
use Rattle.mz_scope_names.specs.declared.name_use.NameUse.{NameUse}
use Rattle.mz_scope_names.specs.declared.name_use.NameUse.TheVariants.{Mention, Call}
use Rattle.mz_scope_names.specs.Sketches.{Sketch}
use Rattle.mz_scope_order.specs.Dependencies.{sketch_at, meant_by, IsUsed, RefersTo, AreDeclarations}
use Rattle.mz_scope_order.specs.StepsPlaces.{if_in, names_in, mentioned, mentions_in}
use Rattle.mz_scope_order.proofs.Placing.{from_row, to_row, place_there, place_within, place_holds}

-- new names are appended

names_all : (ns : List ℕ) (ss : List Sketch) → ((k : ℕ) → k < length ss → (sketch_at ss k).applied ≡ false) → ((k : ℕ) → k < length ss → holds (sketch_at ss k).name ns ≡ false) → ((j k : ℕ) → j < k → k < length ss → (sketch_at ss j).name ≡ (sketch_at ss k).name → ⊥) → names_in false ns ss ≡ ns ++ map (λ s. s.name) ss
unfolding names_in
names_all ns [] p q r = sym (append-nil ns)
names_all ns (s ∷ ss) p q r =
    let e : if_in false ns s ≡ ns ++ s.name ∷ [] = ap (λ z. if z then ns else with_name ns s.name) (p zero (omega arith)) ∙ ap (λ z. if z then ns else ns ++ s.name ∷ []) (q zero (omega arith)) in
    ap (λ z. names_in false z ss) e
    ∙ names_all (ns ++ s.name ∷ []) ss
    (λ k h. p (suc k) (omega (arith, h)))
    (λ k h. holds_more (sketch_at ss k).name s.name ns ∙ ap (λ z. z || nat_eq (sketch_at ss k).name s.name) (q (suc k) (omega (arith, h))) ∙ ne_eqb (sketch_at ss k).name s.name (λ i. r zero (suc k) (omega arith) (omega (arith, h)) (sym i)))
    (λ j k h l i. r (suc j) (suc k) (omega (arith, h)) (omega (arith, l)) i)
    ∙ append_assoc ns (s.name ∷ []) (map (λ t. t.name) ss)

names_of : (ss : List Sketch) → AreDeclarations ss → names_in false [] ss ≡ map (λ s. s.name) ss
names_of ss d = names_all [] ss d.mentioned (λ k h. refl) (λ j k h l i. let e = d.distinct j k (omega (arith, h, l)) l i in omega (arith, e, h))

name_at : (ss : List Sketch) (k : ℕ) → AreDeclarations ss → k < length ss → get_or (names_in false [] ss) k 0 ≡ (sketch_at ss k).name
name_at ss k d h = ap (λ z. get_or z k 0) (names_of ss d) ∙ get_or-map (λ s. s.name) ss k (sketch_at [] 0) 0 h

as_many_names : (ss : List Sketch) → AreDeclarations ss → length (names_in false [] ss) ≡ length ss
as_many_names ss d = ap (λ z. length z) (names_of ss d) ∙ length-map ss (λ s. s.name)

named_there : (ss : List Sketch) (k : ℕ) → AreDeclarations ss → k < length ss → IsIn (sketch_at ss k).name (names_in false [] ss)
named_there ss k d h = subst (λ z. IsIn z (names_in false [] ss)) (name_at ss k d h) (in_at (names_in false [] ss) k 0 (let l = as_many_names ss d in omega (arith, l, h)))

-- a declaration's name has its number
pub decl_place : (ss : List Sketch) (e : ℕ) → AreDeclarations ss → e < length ss → place_of (sketch_at ss e).name (names_in false [] ss) ≡ Some e
decl_place ss e d h =
    let ns : List ℕ = names_in false [] ss in
    let n : ℕ = (sketch_at ss e).name in
    let p : ℕ = position_or_len (nat_eq n) ns in
    let there : place_of n ns ≡ Some p = place_there n ns (named_there ss e d h) in
    let within : p < length ss = let w = place_within n p ns there in let l = as_many_names ss d in omega (arith, w, l) in
    let same : p ≡ e = d.distinct p e within h (sym (name_at ss p d within) ∙ place_holds n p ns there) in
    there ∙ ap (λ z. Some z) same

decl_named : (ss : List Sketch) (n e : ℕ) → AreDeclarations ss → place_of n (names_in false [] ss) ≡ Some e → (e < length ss) × ((sketch_at ss e).name ≡ n)
decl_named ss n e d i =
    let within : e < length ss = let w = place_within n e (names_in false [] ss) i in let l = as_many_names ss d in omega (arith, w, l) in
    (within, sym (name_at ss e d within) ∙ place_holds n e (names_in false [] ss) i)

meant_is : (ss : List Sketch) (e : ℕ) → AreDeclarations ss → e < length ss → meant_by (sketch_at ss e) ≡ Mention (sketch_at ss e).name
meant_is ss e d h = ap (λ z. if z then Call (sketch_at ss e).name else Mention (sketch_at ss e).name) (d.mentioned e h)

pub mention_up : (ss : List Sketch) (base e : ℕ) (us : List NameUse) → AreDeclarations ss → RefersTo us ss e → IsIn (base + e) (mentions_in base (names_in false [] ss) us)
mention_up ss base e us d r = to_row (mentioned (names_in false [] ss)) base e (meant_by (sketch_at ss e)) us r.used (ap (λ z. mentioned (names_in false [] ss) z) (meant_is ss e d r.counted) ∙ decl_place ss e d r.counted)

-- a declaration that is in a row
pub record IsMentioned (ss : List Sketch) (base y : ℕ) (us : List NameUse) : Type 0 where
  pub decl : ℕ
  pub refers : RefersTo us ss decl
  pub is : y ≡ base + decl

mention_case : (ss : List Sketch) (u : NameUse) (e : ℕ) → AreDeclarations ss → mentioned (names_in false [] ss) u ≡ Some e → (e < length ss) × (u ≡ meant_by (sketch_at ss e))
mention_case ss (Mention n) e d i = let p = decl_named ss n e d i in (p.0, ap (λ z. Mention z) (sym p.1) ∙ sym (meant_is ss e d p.0))
mention_case ss (Call n) e d i = absurd (cc)

pub mention_down : (ss : List Sketch) (base y : ℕ) (us : List NameUse) → AreDeclarations ss → IsIn y (mentions_in base (names_in false [] ss) us) → IsMentioned ss base y us
mention_down ss base y us d a =
    let f = from_row (mentioned (names_in false [] ss)) base y us a in
    let p = mention_case ss f.source f.number_of_it d f.has in
    record { decl = f.number_of_it; refers = record { counted = p.0; used = subst (λ z. IsUsed z us) p.1 f.used }; is = f.is }
