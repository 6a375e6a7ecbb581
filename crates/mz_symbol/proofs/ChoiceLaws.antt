-- Choices: their nodes, how they are noted, and what they mean.
use Rattle.std.proofs.Common.{◌≡◌, ◌≢◌, ◌∙◌, ℕ, zero, suc, ◌+◌, ◌*◌, ◌≤◌, nat_abs, Bool, true, false, List, [], ◌∷◌, ◌++◌, length, map, Some, is_some, slice_get, refl, sym, ap, subst, arith}
use Rattle.std.proofs.lemmas.List.{append-nil, map-append, length-map}
use Rattle.mz_value.specs.Ranges.{Range, AreCanonical, AreInLimit}
use Rattle.mz_core.specs.declared.types.Base.{Base}
use Rattle.mz_arena.specs.declared.node.Node.{Node}
use Rattle.mz_arena.specs.Entries.{Entry, entry}
use Rattle.mz_arena.specs.Charges.{charges}
use Rattle.mz_arena.specs.Values.{Term}
use Rattle.mz_arena.specs.Arenas.{Grew, MadeAnew, IsConst}
use Rattle.mz_arena.proofs.Folds.{get-last}
use Rattle.mz_arena.proofs.Growing.{grew_both}
use Rattle.mz_meaning.specs.Runs.{Out, noted}
use Rattle.mz_meaning.specs.Cells.{Mode, Blank, Given, held}
use Rattle.mz_meaning.specs.Lets.{choice_at}
use Rattle.mz_meaning.specs.Domains.{Domain}
use Rattle.mz_symbol.specs.declared.types.Symbol.{Symbol}
use Rattle.mz_symbol.specs.declared.types.Free.{Free}
use Rattle.mz_symbol.specs.declared.types.Line.{Line}
use Rattle.mz_instance.specs.Parts.{Part, Truth, truths, is_subset_sort, sort_of, IsNode, AreNodes}
use Rattle.mz_symbol.specs.Choices.{is_shape, domain_parts, all_parts, IsChoosable, AreChoosable}
use Rattle.mz_symbol.specs.Symbols.{symbol_ids, symbol_value, domain_of, free_ids, IsSymbolOf, waiting}
use Rattle.mz_symbol.specs.Runs.{Run, IsSound, IsCounted}
use Rattle.mz_symbol.specs.Readings.{Reading, Reads, ReadsChoices, symbol_seen, taken_in, weight_in, state_of}
use Rattle.mz_symbol.specs.Makes.{GoesOnBy}
use Rattle.mz_symbol.specs.StepsNodes.{AddsNodes}
use Rattle.mz_symbol.specs.StepsChoices.{choice_domain, part_over, free_of, IsPartNode, IsNoted}
use Rattle.mz_symbol.proofs.RunLaws.{nodes_back}

pub choosable : (b : Base) (o : Bool) (u : List Range) → is_shape b ≡ true → AreCanonical u → AreInLimit u → (sort_of b ≡ Truth → u ≡ truths) → (o ≡ true → is_subset_sort (sort_of b) ≡ false) → (is_subset_sort (sort_of b) ≡ false → u ≢ []) → IsChoosable (choice_domain b o u)
choosable b o u s c l t a n = record { base = s; truth = t; allowed = a; canonical = c; limited = l; some = n }

-- ---- nodes

pub adds_both : (n m : ℕ) (old mid new : Run) → AddsNodes n old mid → AddsNodes m mid new → AddsNodes (n + m) old new
adds_both n m old mid new f g = record {
  work = g.work ∙ f.work;
  weight = g.weight ∙ f.weight;
  saved = g.saved ∙ f.saved;
  choices = g.choices ∙ f.choices;
  lines = g.lines ∙ f.lines;
  grew = grew_both f.grew g.grew;
  charged = omega (arith, f.charged, g.charged);
}

pub adds_most : (n m : ℕ) (old new : Run) → n ≤ m → AddsNodes n old new → AddsNodes m old new
adds_most n m old new h f = record { work = f.work; weight = f.weight; saved = f.saved; choices = f.choices; lines = f.lines; grew = f.grew; charged = omega (arith, h, f.charged) }

pub adds_state : (n : ℕ) (old new : Run) (r : Reading) → AddsNodes n old new → state_of r old ≡ state_of r new
adds_state n old new r l =
    ap (λ n. record { work = n; taken = taken_in r.mode old.choices; weight = weight_in r.mode old.weight }) (sym l.work)
    ∙ ap (λ n. record { work = new.work; taken = taken_in r.mode old.choices; weight = weight_in r.mode n }) (sym l.weight)
    ∙ ap (λ cs. record { work = new.work; taken = taken_in r.mode cs; weight = weight_in r.mode new.weight }) (sym l.choices)

pub part_made : (es fs : List Entry) (choice : Bool) (b : Base) (u : List Range) (over k own : ℕ) (n : Node) (id : ℕ) → IsConst es u over → own ≡ length es → IsPartNode choice b over k own n → Grew es fs → MadeAnew es fs n id → IsNode fs choice k (part_over b u) id
part_made es fs choice b u over k own n id c o l g m = record {
  there = entry n;
  stands = ap (λ xs. slice_get xs id) m.items ∙ ap (slice_get (es ++ entry n ∷ [])) m.last ∙ get-last es (entry n);
  free = l.free;
  local = l.local;
  sort = l.sort;
  mark = l.mark;
  own = ap nat_abs l.own ∙ o ∙ sym m.last;
  number = l.number;
  over = record { node = c.node; set = u };
  domain = ap (slice_get fs) l.domain ∙ g.same over c.made.place ∙ c.made.stands;
  set = refl;
}

-- ---- lists of choices

append_assoc : {A : Type 0} (xs ys zs : List A) → xs ++ ys ++ zs ≡ xs ++ (ys ++ zs)
append_assoc [] ys zs = refl
append_assoc (x ∷ xs) ys zs = ap (λ zs. x ∷ zs) (append_assoc xs ys zs)

ids_more : (fs : List Free) (f : Free) → free_ids (fs ++ f ∷ []) ≡ free_ids fs ++ symbol_ids f.symbol
ids_more [] f = append-nil (symbol_ids f.symbol)
ids_more (g ∷ fs) f = ap (λ is. symbol_ids g.symbol ++ is) (ids_more fs f) ∙ sym (append_assoc (symbol_ids g.symbol) (free_ids fs) (symbol_ids f.symbol))

parts_more : (fs : List Free) (f : Free) → all_parts (map domain_of (fs ++ f ∷ [])) ≡ all_parts (map domain_of fs) ++ domain_parts (domain_of f)
parts_more [] f = append-nil (domain_parts (domain_of f))
parts_more (g ∷ fs) f = ap (λ ps. domain_parts (domain_of g) ++ ps) (parts_more fs f) ∙ sym (append_assoc (domain_parts (domain_of g)) (all_parts (map domain_of fs)) (domain_parts (domain_of f)))

choosable_more : (fs : List Free) (f : Free) → AreChoosable (map domain_of fs) → IsChoosable (domain_of f) → AreChoosable (map domain_of (fs ++ f ∷ []))
choosable_more [] f h c = (c, tt)
choosable_more (g ∷ fs) f h c = (h.0, choosable_more fs f h.1 c)

nodes_join : (es : List Entry) (choice : Bool) (k : ℕ) (is js : List ℕ) (ps qs : List Part) → AreNodes es choice k is ps → AreNodes es choice (k + length is) js qs → AreNodes es choice k (is ++ js) (ps ++ qs)
nodes_join es choice k [] js [] qs h g = subst (λ k. AreNodes es choice k js qs) (omega arith) g
nodes_join es choice k [] js (p ∷ ps) qs h g = absurd h
nodes_join es choice k (i ∷ is) js [] qs h g = absurd h
nodes_join es choice k (i ∷ is) js (p ∷ ps) qs h g = (h.0, nodes_join es choice (suc k) is js ps qs h.1 (subst (λ k. AreNodes es choice k js qs) (omega arith) g))

pub sound_more : (es : List Entry) (fs : List Free) (ls : List Line) (f : Free) → IsSound es fs ls → AreNodes es true (length (free_ids fs)) (symbol_ids f.symbol) (domain_parts (domain_of f)) → IsChoosable (domain_of f) → IsSound es (fs ++ f ∷ []) ls
sound_more es fs ls f s n c =
    let both = nodes_join es true 0 (free_ids fs) (symbol_ids f.symbol) (all_parts (map domain_of fs)) (domain_parts (domain_of f)) s.locals (subst (λ k. AreNodes es true k (symbol_ids f.symbol) (domain_parts (domain_of f))) (omega arith) n) in
    record {
      arena = s.arena;
      locals = subst (λ is. AreNodes es true 0 is (all_parts (map domain_of (fs ++ f ∷ [])))) (sym (ids_more fs f)) (subst (λ ps. AreNodes es true 0 (free_ids fs ++ symbol_ids f.symbol) ps) (sym (parts_more fs f)) both);
      domains = choosable_more fs f s.domains c;
      lines = s.lines;
    }

length-append : {A : Type 0} (xs ys : List A) → length (xs ++ ys) ≡ length xs + length ys
length-append [] ys = omega arith
length-append (x ∷ xs) ys = omega (arith, length-append xs ys)

pub counted_more : (es : List Entry) (fs gs : List Free) (ls : List Line) (f : Free) (parts more : ℕ) → gs ≡ fs ++ f ∷ [] → IsCounted es fs ls parts → AreNodes es true (length (free_ids fs)) (symbol_ids f.symbol) (domain_parts (domain_of f)) → IsChoosable (domain_of f) → more ≡ parts + length (symbol_ids f.symbol) → IsCounted es gs ls more
counted_more es fs gs ls f parts more e s n c m = subst (λ gs. IsCounted es gs ls more) (sym e) (record {
  sound = sound_more es fs ls f s.sound n c;
  count = m ∙ ap (λ k. k + length (symbol_ids f.symbol)) s.count ∙ sym (length-append (free_ids fs) (symbol_ids f.symbol)) ∙ ap length (sym (ids_more fs f));
})

-- as the code has it, whose copy of the set is the same
pub counted_noted : (w k saved : ℕ) (es : List Entry) (fs gs : List Free) (ls : List Line) (s : Run) (y : Symbol) (u v : List Range) (parts more : ℕ) → record { work = w; weight = k; saved = saved; arena = es; choices = fs; lines = ls } ≡ s → v ≡ u → gs ≡ fs ++ free_of y v ∷ [] → IsCounted es fs ls parts → AreNodes s.arena true (length (free_ids s.choices)) (symbol_ids y) (domain_parts (domain_of (free_of y u))) → IsChoosable (domain_of (free_of y u)) → more ≡ parts + length (symbol_ids y) → IsCounted es gs ls more
counted_noted w k saved es fs gs ls s y u v parts more i q e c n d m = counted_more es fs gs ls (free_of y u) parts more (e ∙ ap (λ v. fs ++ free_of y v ∷ []) q) c (subst (λ (s : Run). AreNodes s.arena true (length (free_ids s.choices)) (symbol_ids y) (domain_parts (domain_of (free_of y u)))) (sym i) n) d m

-- ---- what reads a run with a choice more

below_append : (cs : List Free) (c d : Free) (k : ℕ) → slice_get cs k ≡ Some d → slice_get (cs ++ c ∷ []) k ≡ Some d
below_append [] c d k h = absurd (cc)
below_append (x ∷ cs) c d zero h = h
below_append (x ∷ cs) c d (suc k) h = below_append cs c d k h

fewer : (m : Mode) (t : ℕ → Term) (cs : List Free) (c : Free) → ReadsChoices m t (cs ++ c ∷ []) → ReadsChoices m t cs
fewer (Blank n) t cs c h = h
fewer (Given f) t cs c h = λ k d e. h k d (below_append cs c d k e)

noted_back : (old new : Run) (f : Free) (r : Reading) → IsNoted old new f → Reads r new → Reads r old
noted_back old new f r n h = record {
  nodes = rw (sym n.arena) h.nodes;
  choices = fewer r.mode r.term old.choices f (subst (λ xs. ReadsChoices r.mode r.term xs) n.choices h.choices);
  lines = λ k l e. h.lines k l (ap (λ ls. slice_get ls k) n.lines ∙ e);
}

paid_for : (c d w v x y a b e f n : ℕ) → y ≡ x → b ≡ a → f ≡ e → v ≡ w → d ≤ c + n → d + 16 * v + f + 64 * (x + a) ≤ c + 16 * w + e + 64 * (y + b) + n
paid_for c d w v x y a b e f n p q k s h = omega (arith, p, q, k, s, h)

same_charges : (c d n : ℕ) (es fs gs : List Entry) → gs ≡ fs → charges fs ≤ charges es + n → charges gs ≤ charges es + n
same_charges c d n es fs gs e h = subst (λ gs. charges gs ≤ charges es + n) (sym e) h

pub takes : (n : ℕ) (old mid new : Run) (f : Free) → AddsNodes n old mid → IsNoted mid new f → GoesOnBy n old new
takes n old mid new f a m = record {
  back = λ r h. nodes_back n old mid r a (noted_back mid new f r m h);
  paid = paid_for (charges old.arena) (charges new.arena) (waiting old.lines) (waiting new.lines) old.work new.work old.weight new.weight old.saved new.saved n (m.work ∙ a.work) (m.weight ∙ a.weight) (m.saved ∙ a.saved) (ap waiting (m.lines ∙ a.lines)) (same_charges 0 0 n old.arena mid.arena new.arena m.arena a.charged);
}

pub takes_nothing : (n : ℕ) (old mid new : Run) → AddsNodes n old mid → new ≡ mid → GoesOnBy n old new
takes_nothing n old mid new a e = subst (λ s. GoesOnBy n old s) (sym e) (record {
  back = λ r h. nodes_back n old mid r a h;
  paid = paid_for (charges old.arena) (charges mid.arena) (waiting old.lines) (waiting mid.lines) old.work mid.work old.weight mid.weight old.saved mid.saved n a.work a.weight a.saved (ap waiting a.lines) a.charged;
})

last_append : (cs : List Free) (c : Free) → slice_get (cs ++ c ∷ []) (length cs) ≡ Some c
last_append [] c = refl
last_append (x ∷ cs) c = last_append cs c

value_noted : (m : Mode) (t : ℕ → Term) (cs : List Free) (c : Free) → ReadsChoices m t (cs ++ c ∷ []) → held m (choice_at m (length (taken_in m cs))) ≡ held m (symbol_value t c.symbol)
value_noted (Blank n) t cs c h = refl
value_noted (Given f) t cs c h = ap (λ k. Some (f k)) (length-map cs domain_of) ∙ sym (h (length cs) c (last_append cs c))

same_weight : (k : ℕ) → k + 0 ≡ k
same_weight k = omega arith

state_noted : (m : Mode) (t : ℕ → Term) (w k : ℕ) (cs : List Free) (c : Free) → ReadsChoices m t (cs ++ c ∷ []) → noted m (domain_of c ∷ []) 0 (record { work = w; taken = taken_in m cs; weight = weight_in m k }) ≡ record { work = w; taken = taken_in m (cs ++ c ∷ []); weight = weight_in m k }
state_noted (Blank false) t w k cs c h = refl
state_noted (Blank true) t w k cs c h = absurd (cc)
state_noted (Given f) t w k cs c h =
    ap (λ ds. record { work = w; taken = ds; weight = k + 0 }) (sym (map-append domain_of cs (c ∷ [])))
    ∙ ap (λ n. record { work = w; taken = map domain_of (cs ++ c ∷ []); weight = n }) (same_weight k)

state_is : (r : Reading) (s : Run) (w k : ℕ) (cs : List Free) → w ≡ s.work → k ≡ s.weight → cs ≡ s.choices → record { work = w; taken = taken_in r.mode cs; weight = weight_in r.mode k } ≡ state_of r s
state_is r s w k cs p q e =
    ap (λ n. record { work = n; taken = taken_in r.mode cs; weight = weight_in r.mode k }) p
    ∙ ap (λ n. record { work = s.work; taken = taken_in r.mode cs; weight = weight_in r.mode n }) q
    ∙ ap (λ cs. record { work = s.work; taken = taken_in r.mode cs; weight = weight_in r.mode s.weight }) e

choice_noted : (r : Reading) (old new : Run) (f : Free) → IsNoted old new f → Reads r new → Out (held r.mode (choice_at r.mode (length (state_of r old).taken))) (noted r.mode (domain_of f ∷ []) 0 (state_of r old)) ≡ Out (symbol_seen r f.symbol) (state_of r new)
choice_noted r old new f n h =
    let reads : ReadsChoices r.mode r.term (old.choices ++ f ∷ []) = subst (λ xs. ReadsChoices r.mode r.term xs) n.choices h.choices in
    ap (λ v. Out v (noted r.mode (domain_of f ∷ []) 0 (state_of r old))) (value_noted r.mode r.term old.choices f reads)
    ∙ ap (λ s. Out (symbol_seen r f.symbol) s) (state_noted r.mode r.term old.work old.weight old.choices f reads)
    ∙ ap (λ s. Out (symbol_seen r f.symbol) s) (state_is r new old.work old.weight (old.choices ++ f ∷ []) (sym n.work) (sym n.weight) (sym n.choices))

domain_is : (d : Domain) (es : List Entry) (k : ℕ) (s : Symbol) → IsSymbolOf es true k d s → domain_of (free_of s d.set) ≡ d
domain_is d es k s h = ap (λ b. choice_domain b (is_some s.occurs) d.set) h.base ∙ ap (λ o. choice_domain d.base o d.set) h.option

pub take_nodes : (es : List Entry) (k : ℕ) (d : Domain) (s : Symbol) → IsSymbolOf es true k d s → AreNodes es true k (symbol_ids s) (domain_parts (domain_of (free_of s d.set)))
take_nodes es k d s h = subst (λ c. AreNodes es true k (symbol_ids s) (domain_parts c)) (sym (domain_is d es k s h)) h.nodes

pub take_domain : (es : List Entry) (k : ℕ) (d : Domain) (s : Symbol) → IsSymbolOf es true k d s → IsChoosable d → IsChoosable (domain_of (free_of s d.set))
take_domain es k d s h c = subst (λ c. IsChoosable c) (sym (domain_is d es k s h)) c

-- a choice that was taken means the next one
pub take_means : (r : Reading) (n k : ℕ) (old mid new : Run) (d : Domain) (s : Symbol) → AddsNodes n old mid → IsSymbolOf mid.arena true k d s → IsNoted mid new (free_of s d.set) → Reads r new → Out (held r.mode (choice_at r.mode (length (state_of r old).taken))) (noted r.mode (d ∷ []) 0 (state_of r old)) ≡ Out (symbol_seen r s) (state_of r new)
take_means r n k old mid new d s a i m h =
    ap (λ t. Out (held r.mode (choice_at r.mode (length t.taken))) (noted r.mode (d ∷ []) 0 t)) (state_is r mid old.work old.weight old.choices (sym a.work) (sym a.weight) (sym a.choices))
    ∙ ap (λ e. Out (held r.mode (choice_at r.mode (length (state_of r mid).taken))) (noted r.mode (e ∷ []) 0 (state_of r mid))) (sym (domain_is d mid.arena k s i))
    ∙ choice_noted r mid new (free_of s d.set) m h
