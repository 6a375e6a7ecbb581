-- The Cons lists of arrays: what they are, and that they are paid for.
use Rattle.std.proofs.Common.{◌≡◌, ◌∙◌, ℕ, zero, suc, ◌+◌, ◌-◌, ◌*◌, ◌<◌, ◌≤◌, Bool, true, false, not, ◌&&◌, is_some, List, [], ◌∷◌, length, map, drop, Option, Some, None, slice_get, get_or, set, refl, sym, ap, subst, arith}
use Rattle.std.proofs.lemmas.Bool.{eqb-true}
use Rattle.mz_core.specs.declared.types.Base.{Base}
use Rattle.mz_core.specs.declared.types.Base.TheVariants as base
use Rattle.mz_arena.specs.declared.node.Node.{Node}
use Rattle.mz_arena.specs.Entries.{Entry, entry, children, is_free}
use Rattle.mz_arena.specs.Charges.{charges}
use Rattle.mz_arena.specs.Values.{Term, empty, cons_term}
use Rattle.mz_arena.specs.Terms.{node_term}
use Rattle.mz_arena.specs.Arenas.{Made}
use Rattle.mz_arena.proofs.Folds.{get-below}
use Rattle.mz_symbol.specs.declared.types.Symbol.{Symbol}
use Rattle.mz_symbol.specs.declared.types.Free.{Free}
use Rattle.mz_symbol.specs.declared.types.Line.{Line}
use Rattle.mz_symbol.specs.declared.types.Lists.{Lists}
use Rattle.mz_symbol.specs.declared.types.Listing.{Listing}
use Rattle.mz_symbol.specs.declared.types.Listing.TheVariants as listing
use Rattle.mz_symbol.specs.declared.cons.ListOf.{ListOf}
use Rattle.mz_symbol.specs.declared.cons.ListOf.TheVariants.{Values, Occurrences}
use Rattle.mz_symbol.specs.Symbols.{elements_value, line_value, list_term, item_terms, occurs_list, HaveBase, ArePlain, AreLists, IsListing, IsLine, waiting_in, waiting}
use Rattle.mz_symbol.specs.Runs.{Run, ReadsNodes, IsRun, IsCounted}
use Rattle.mz_symbol.specs.Readings.{Reading, Reads, no_values, taken_in, weight_in, state_of}
use Rattle.mz_symbol.specs.Makes.{GoesOn}
use Rattle.mz_symbol.specs.Lines.{HasLists}
use Rattle.mz_symbol.specs.StepsNodes.{AddsNodes}
use Rattle.mz_symbol.specs.StepsCons.{is_alike, all_alike, all_plain, items_in, items_at, IsListed, with_listing, marked, IsMarked, AreListsOf, part_of, parts_list, IsListOf, IsOneMore}
use Rattle.mz_symbol.proofs.RunLaws.{reads_back, nodes_back}
use Rattle.mz_symbol.proofs.ChoiceLaws.{adds_both, adds_most, adds_state as added_state}

pub put_means : (t : ℕ → Term) (es : List Entry) (n : Node) (id : ℕ) → Made es (entry n) id → is_free n.kind ≡ false → ReadsNodes t es → t id ≡ node_term no_values (entry n) (map t (children n))
put_means t es n id m f h = h.kinds id (entry n) m.stands f no_values

-- ---- what a list has

plain_by : (s : Symbol) (ss : List Symbol) (o : Option ℕ) → s.occurs ≡ o → (not (is_some o) && all_plain ss) ≡ true → (all_plain ss ≡ true → ArePlain ss) → ArePlain (s ∷ ss)
plain_by s ss None e h r = (e, r h)
plain_by s ss (Some o) e h r = absurd (cc)

pub plain_items : (ss : List Symbol) → all_plain ss ≡ true → ArePlain ss
plain_items [] h = tt
plain_items (s ∷ ss) h = plain_by s ss s.occurs refl h (λ g. plain_items ss g)

values_list : (t : ℕ → Term) (ss : List Symbol) → parts_list Values t ss ≡ list_term t (item_terms ss)
unfolding parts_list list_term
values_list t [] = refl
values_list t (s ∷ ss) = ap (cons_term (t s.term)) (values_list t ss)

occurrences_list : (t : ℕ → Term) (ss : List Symbol) → parts_list Occurrences t ss ≡ occurs_list t ss
unfolding parts_list occurs_list
occurrences_list t [] = refl
occurrences_list t (s ∷ ss) = ap (cons_term (part_of Occurrences t s)) (occurrences_list t ss)

alike_same : (a b : Base) → is_alike a b ≡ true → a ≡ b
alike_same base.Bool base.Bool h = refl
alike_same base.Int base.Int h = refl
alike_same (base.Enum d) (base.Enum e) h = ap (λ n. base.Enum n) (eqb-true d e h)
alike_same base.SetInt base.SetInt h = refl
alike_same (base.SetEnum d) (base.SetEnum e) h = ap (λ n. base.SetEnum n) (eqb-true d e h)
alike_same a b h = absurd (cc)

both_true : (p q : Bool) → (p && q) ≡ true → (p ≡ true) × (q ≡ true)
both_true true q h = (refl, h)
both_true false q h = absurd (cc)

pub alike_items : (b : Base) (ss : List Symbol) → all_alike b ss ≡ true → HaveBase b ss
alike_items b [] h = tt
alike_items b (s ∷ ss) h = let p = both_true (is_alike s.base b) (all_alike b ss) h in (alike_same s.base b p.0, alike_items b ss p.1)

pub plain_lists : (es : List Entry) (b : Base) (ss : List Symbol) (id : ℕ) → HaveBase b ss → IsListOf es Values ss id → ArePlain ss → (t : ℕ → Term) → ReadsNodes t es → AreLists t ss (record { base = b; terms = id; occurs = None })
plain_lists es b ss id q v p t h = record { bases = q; terms = v t h ∙ values_list t ss; occurs = p }

pub both_lists : (old mid new : Run) (b : Base) (ss : List Symbol) (id o n : ℕ) → HaveBase b ss → IsListOf mid.arena Values ss id → AddsNodes n mid new → IsListOf new.arena Occurrences ss o → AreListsOf new ss (record { base = b; terms = id; occurs = Some o })
both_lists old mid new b ss id o n q v a w t h = record { bases = q; terms = v t (reads_back t mid.arena new.arena a.grew h) ∙ values_list t ss; occurs = w t h ∙ occurrences_list t ss }

-- ---- a list from its end

drop_all : (ss : List Symbol) → drop (length ss) ss ≡ []
drop_all [] = refl
drop_all (s ∷ ss) = drop_all ss

drop_at : (xs : List Symbol) (i : ℕ) (x : Symbol) → slice_get xs i ≡ Some x → drop i xs ≡ x ∷ drop (suc i) xs
drop_at [] zero x e = absurd (cc)
drop_at [] (suc i) x e = absurd (cc)
drop_at (y ∷ xs) zero x e = let same : y ≡ x = cc in ap (λ z. z ∷ xs) same
drop_at (y ∷ xs) (suc i) x e = drop_at xs i x e

none_listed : (w : ListOf) (t : ℕ → Term) → parts_list w t [] ≡ Some empty
unfolding parts_list
none_listed w t = refl

more_listed : (w : ListOf) (t : ℕ → Term) (s : Symbol) (ss : List Symbol) → parts_list w t (s ∷ ss) ≡ cons_term (part_of w t s) (parts_list w t ss)
unfolding parts_list
more_listed w t s ss = refl

pub lists_none : (es : List Entry) (w : ListOf) (ss : List Symbol) (n id : ℕ) → n ≡ length ss → ((t : ℕ → Term) → ReadsNodes t es → t id ≡ Some empty) → IsListOf es w (drop (n - 0) ss) id
lists_none es w ss n id e h t r =
    let all : n - 0 ≡ length ss = omega (arith, e) in
    h t r ∙ sym (none_listed w t) ∙ ap (parts_list w t) (sym (ap (λ k. drop k ss) all ∙ drop_all ss))

pub items_kept : (old new : Run) (k : ℕ) → new.lines ≡ old.lines → items_at new k ≡ items_at old k
items_kept old new k e = ap (λ ls. items_in (slice_get ls k)) e

pub lists_more : (old mid new : Run) (w : ListOf) (k n i j m rest id : ℕ) → j ≡ i + 1 → i < n → mid.lines ≡ old.lines → IsListOf mid.arena w (drop (n - i) (items_at old k)) rest → AddsNodes m mid new → IsOneMore mid new k (n - 1 - i) w rest id → IsListOf new.arena w (drop (n - j) (items_at old k)) id
lists_more old mid new w k n i j m rest id e l q h a o t r =
    let ss = items_at old k in
    let place : slice_get ss (n - 1 - i) ≡ Some o.element = ap (λ xs. slice_get xs (n - 1 - i)) (sym (items_kept old mid k q)) ∙ o.place in
    let after : suc (n - 1 - i) ≡ n - i = omega (arith, l) in
    let here : n - j ≡ n - 1 - i = omega (arith, l, e) in
    o.is t r
    ∙ ap (cons_term (part_of w t o.element)) (h t (reads_back t mid.arena new.arena a.grew r))
    ∙ sym (more_listed w t o.element (drop (n - i) ss))
    ∙ ap (λ xs. parts_list w t (o.element ∷ xs)) (ap (λ d. drop d ss) (sym after))
    ∙ ap (parts_list w t) (sym (ap (λ d. drop d ss) here ∙ drop_at ss (n - 1 - i) o.element place))

pub lists_all : (es : List Entry) (w : ListOf) (ss : List Symbol) (n i id : ℕ) → i ≡ n → IsListOf es w (drop (n - i) ss) id → IsListOf es w ss id
lists_all es w ss n i id e h t r =
    let none : n - i ≡ 0 = omega (arith, e) in
    h t r ∙ ap (λ d. parts_list w t (drop d ss)) none

pub adds_more : (i n : ℕ) (old mid new : Run) → i < n → AddsNodes (8 * i) old mid → AddsNodes 8 mid new → AddsNodes (8 * n) old new
adds_more i n old mid new h f g = adds_most (8 * i + 8) (8 * n) old new (omega (arith, h)) (adds_both (8 * i) 8 old mid new f g)

pub adds_same : (i n : ℕ) (old new : Run) → i ≡ n → AddsNodes (8 * i) old new → AddsNodes (8 * n) old new
adds_same i n old new e f = subst (λ m. AddsNodes (8 * m) old new) e f

-- ---- how far an array's lists are made

record IsLike (ls : List Line) (k : ℕ) (l : Line) : Type 0 where
  line : Line
  stands : slice_get ls k ≡ Some line
  defined : line.defined ≡ l.defined
  items : line.items.items ≡ l.items.items

like_more : (y : Line) (ls : List Line) (k : ℕ) (l : Line) → IsLike ls k l → IsLike (y ∷ ls) (suc k) l
like_more y ls k l h = record { line = h.line; stands = h.stands; defined = h.defined; items = h.items }

marked_like : (ls : List Line) (k j : ℕ) (x : Listing) (l : Line) → slice_get ls j ≡ Some l → IsLike (marked ls k x) j l
marked_like [] k j x l e = absurd (cc)
marked_like (y ∷ ls) zero zero x l e = let same : y ≡ l = cc in record { line = with_listing y x; stands = refl; defined = ap (λ m. m.defined) same; items = ap (λ m. m.items.items) same }
marked_like (y ∷ ls) zero (suc j) x l e = record { line = l; stands = e; defined = refl; items = refl }
marked_like (y ∷ ls) (suc k) zero x l e = record { line = l; stands = e; defined = refl; items = refl }
marked_like (y ∷ ls) (suc k) (suc j) x l e = like_more y (marked ls k x) j l (marked_like ls k j x l e)

like_value : (t : ℕ → Term) (ls : List Line) (k : ℕ) (l : Line) → (h : IsLike ls k l) → line_value t h.line ≡ line_value t l
like_value t ls k l h = ap (λ d. elements_value t d h.line.items.items) h.defined ∙ ap (λ ss. elements_value t l.defined ss) h.items

marked_back : (old new : Run) (k : ℕ) (x : Listing) (r : Reading) → IsMarked old new k x → Reads r new → Reads r old
marked_back old new k x r m h = record {
  nodes = rw (sym m.arena) h.nodes;
  choices = rw (sym m.choices) h.choices;
  lines = λ j l e.
      let like = marked_like old.lines k j x l e in
      h.lines j like.line (ap (λ ls. slice_get ls j) m.lines ∙ like.stands) ∙ like_value r.term (marked old.lines k x) j l like;
}

marked_state : (old new : Run) (k : ℕ) (x : Listing) (r : Reading) → IsMarked old new k x → state_of r old ≡ state_of r new
marked_state old new k x r l =
    ap (λ n. record { work = n; taken = taken_in r.mode old.choices; weight = weight_in r.mode old.weight }) (sym l.work)
    ∙ ap (λ n. record { work = new.work; taken = taken_in r.mode old.choices; weight = weight_in r.mode n }) (sym l.weight)
    ∙ ap (λ cs. record { work = new.work; taken = taken_in r.mode cs; weight = weight_in r.mode new.weight }) (sym l.choices)

marked_waits : (ls : List Line) (k : ℕ) (x : Listing) (l : Line) → slice_get ls k ≡ Some l → waiting (marked ls k x) + waiting_in l.listing (length l.items.items) ≡ waiting ls + waiting_in x (length l.items.items)
unfolding waiting
marked_waits [] k x l e = absurd (cc)
marked_waits (y ∷ ls) zero x l e =
    let same : y ≡ l = cc in
    subst (λ m. waiting (marked (y ∷ ls) zero x) + waiting_in m.listing (length m.items.items) ≡ waiting (y ∷ ls) + waiting_in x (length m.items.items)) same (sums (waiting_in x (length y.items.items)) (waiting ls) (waiting_in y.listing (length y.items.items)))
  where
    sums : (a b c : ℕ) → a + b + c ≡ c + b + a
    sums a b c = omega arith
marked_waits (y ∷ ls) (suc k) x l e = sums (waiting_in y.listing (length y.items.items)) (waiting (marked ls k x)) (waiting ls) (waiting_in l.listing (length l.items.items)) (waiting_in x (length l.items.items)) (marked_waits ls k x l e)
  where
    sums : (a b c d f : ℕ) → b + d ≡ c + f → a + b + d ≡ a + c + f
    sums a b c d f h = omega (arith, h)

marked_line : (t : ℕ → Term) (ls : List Line) (k j : ℕ) (x : Listing) (l : Line) → ((i : ℕ) (m : Line) → slice_get ls i ≡ Some m → IsLine t m) → IsListing t (items_in (slice_get ls k)) x → slice_get (marked ls k x) j ≡ Some l → IsLine t l
marked_line t [] k j x l h p e = absurd (cc)
marked_line t (y ∷ ls) zero zero x l h p e = let same : with_listing y x ≡ l = cc in subst (λ m. IsLine t m) same (record { whole = (h zero y refl).whole; listed = p })
marked_line t (y ∷ ls) zero (suc j) x l h p e = h (suc j) l e
marked_line t (y ∷ ls) (suc k) zero x l h p e = h zero l e
marked_line t (y ∷ ls) (suc k) (suc j) x l h p e = marked_line t ls k j x l (λ i m q. h (suc i) m q) p e

pub counted_mark : (es : List Entry) (cs : List Free) (ls : List Line) (k parts : ℕ) (x : Listing) → ((t : ℕ → Term) → ReadsNodes t es → IsListing t (items_in (slice_get ls k)) x) → IsCounted es cs ls parts → IsCounted es cs (marked ls k x) parts
counted_mark es cs ls k parts x h c = record {
  sound = record {
    arena = c.sound.arena;
    locals = c.sound.locals;
    domains = c.sound.domains;
    lines = λ t n j l e. marked_line t ls k j x l (λ i m q. c.sound.lines t n i m q) (h t n) e;
  };
  count = c.count;
}

-- ---- the lists of an array

pub line_below : (s : Run) (k : ℕ) (x : Listing) → IsListed s k x → k < length s.lines
line_below s k x h = get-below s.lines k h.line h.stands

pub made_lists : (s : Run) (k : ℕ) (ls : Lists) → IsListed s k (listing.Made ls) → HasLists s k ls
made_lists s k ls h = record {
  line = h.line;
  stands = h.stands;
  lists = λ r q. subst (λ x. IsListing r.term h.line.items.items x) h.is (h.sound.lines r.term q.nodes k h.line h.stands).listed;
}

items_like : (ls : List Line) (k : ℕ) (l : Line) → (h : IsLike ls k l) → items_in (slice_get ls k) ≡ l.items.items
items_like ls k l h = ap items_in h.stands ∙ h.items

pub items_marked : (old new : Run) (k : ℕ) (x y : Listing) → IsListed old k x → IsMarked old new k y → items_at new k ≡ items_at old k
items_marked old new k x y h m =
    ap (λ ls. items_in (slice_get ls k)) m.lines
    ∙ items_like (marked old.lines k y) k h.line (marked_like old.lines k k y h.line h.stands)
    ∙ sym (ap items_in h.stands)

marked_own : (ls : List Line) (k : ℕ) (x : Listing) (l : Line) → slice_get ls k ≡ Some l → slice_get (marked ls k x) k ≡ Some (with_listing l x)
marked_own [] k x l e = absurd (cc)
marked_own (y ∷ ls) zero x l e = let same : y ≡ l = cc in ap (λ m. Some (with_listing m x)) same
marked_own (y ∷ ls) (suc k) x l e = marked_own ls k x l e

-- an array's lists were made: begun, their nodes, and done
pub record AreMade (old m1 m2 new : Run) (k : ℕ) (ls : Lists) : Type 0 where
  pub wanted : IsListed old k listing.Wanted
  pub begun : IsMarked old m1 k listing.Begun
  pub adds : AddsNodes (16 * length (items_at m1 k)) m1 m2
  pub lists : AreListsOf m2 (items_at m1 k) ls
  pub made : IsMarked m2 new k (listing.Made ls)

begun_line : (old m1 m2 : Run) (k : ℕ) → (h : IsListed old k listing.Wanted) → IsMarked old m1 k listing.Begun → m2.lines ≡ m1.lines → slice_get m2.lines k ≡ Some (with_listing h.line listing.Begun)
begun_line old m1 m2 k h b e = ap (λ ls. slice_get ls k) (e ∙ b.lines) ∙ marked_own old.lines k listing.Begun h.line h.stands

pub begun_below : (old m1 m2 : Run) (k : ℕ) → IsListed old k listing.Wanted → IsMarked old m1 k listing.Begun → m2.lines ≡ m1.lines → k < length m2.lines
begun_below old m1 m2 k h b e = get-below m2.lines k (with_listing h.line listing.Begun) (begun_line old m1 m2 k h b e)

begun_waits : (old m1 : Run) (k : ℕ) → (h : IsListed old k listing.Wanted) → IsMarked old m1 k listing.Begun → waiting m1.lines + length (items_at m1 k) ≡ waiting old.lines
begun_waits old m1 k h b =
    let n = length h.line.items.items in
    let w : waiting (marked old.lines k listing.Begun) + waiting_in h.line.listing n ≡ waiting old.lines + 0 = marked_waits old.lines k listing.Begun h.line h.stands in
    let all : waiting_in h.line.listing n ≡ n = ap (λ x. waiting_in x n) h.is in
    let count : length (items_at m1 k) ≡ n = ap length (items_marked old m1 k listing.Wanted listing.Begun h b ∙ ap items_in h.stands) in
    sums (waiting m1.lines) (waiting (marked old.lines k listing.Begun)) (waiting_in h.line.listing n) (waiting old.lines) n (length (items_at m1 k)) (ap waiting b.lines) w all count
  where
    sums : (a b c d n m : ℕ) → a ≡ b → b + c ≡ d + 0 → c ≡ n → m ≡ n → a + m ≡ d
    sums a b c d n m p q r s = omega (arith, p, q, r, s)

pub begun_goes : (old m1 m2 : Run) (k : ℕ) → IsListed old k listing.Wanted → IsMarked old m1 k listing.Begun → AddsNodes (16 * length (items_at m1 k)) m1 m2 → GoesOn old m2
begun_goes old m1 m2 k h b a = record {
  back = λ r q. marked_back old m1 k listing.Begun r b (nodes_back (16 * length (items_at m1 k)) m1 m2 r a q);
  paid = sums (charges old.arena) (charges m1.arena) (charges m2.arena) (waiting old.lines) (waiting m1.lines) (waiting m2.lines) old.work m1.work m2.work old.weight m1.weight m2.weight old.saved m1.saved m2.saved (length (items_at m1 k))
      (ap charges b.arena) a.charged (begun_waits old m1 k h b) (ap waiting a.lines) b.work a.work b.weight a.weight b.saved a.saved;
}
  where
    sums : (c d e u v w x y z f g i a b o n : ℕ) → d ≡ c → e ≤ d + 16 * n → v + n ≡ u → w ≡ v → y ≡ x → z ≡ y → g ≡ f → i ≡ g → b ≡ a → o ≡ b → e + 16 * w + o + 64 * (x + f) ≤ c + 16 * u + a + 64 * (z + i) + 0
    sums c d e u v w x y z f g i a b o n p q r s t j k l m h = omega (arith, p, q, r, s, t, j, k, l, m, h)

pub begun_state : (old m1 m2 : Run) (k n : ℕ) (r : Reading) → IsMarked old m1 k listing.Begun → AddsNodes n m1 m2 → state_of r old ≡ state_of r m2
begun_state old m1 m2 k n r b a = marked_state old m1 k listing.Begun r b ∙ added_state n m1 m2 r a

done_waits : (m2 new : Run) (k : ℕ) (l : Line) (ls : Lists) → slice_get m2.lines k ≡ Some (with_listing l listing.Begun) → IsMarked m2 new k (listing.Made ls) → waiting new.lines ≡ waiting m2.lines
done_waits m2 new k l ls e b =
    let w : waiting (marked m2.lines k (listing.Made ls)) + 0 ≡ waiting m2.lines + 0 = marked_waits m2.lines k (listing.Made ls) (with_listing l listing.Begun) e in
    ap waiting b.lines ∙ omega (arith, w)

pub made_goes : (old m1 m2 new : Run) (k : ℕ) (ls : Lists) → AreMade old m1 m2 new k ls → GoesOn old new
made_goes old m1 m2 new k ls m =
    let g = begun_goes old m1 m2 k m.wanted m.begun m.adds in
    record {
      back = λ r q. g.back r (marked_back m2 new k (listing.Made ls) r m.made q);
      paid = sums (charges old.arena) (charges m2.arena) (charges new.arena) (waiting old.lines) (waiting m2.lines) (waiting new.lines) old.work m2.work new.work old.weight m2.weight new.weight old.saved m2.saved new.saved
          g.paid (ap charges m.made.arena) (done_waits m2 new k m.wanted.line ls (begun_line old m1 m2 k m.wanted m.begun m.adds.lines) m.made) m.made.work m.made.weight m.made.saved;
    }
  where
    sums : (c d e u v w x y z f g i a b o : ℕ) → d + 16 * v + b + 64 * (x + f) ≤ c + 16 * u + a + 64 * (y + g) + 0 → e ≡ d → w ≡ v → z ≡ y → i ≡ g → o ≡ b → e + 16 * w + o + 64 * (x + f) ≤ c + 16 * u + a + 64 * (z + i) + 0
    sums c d e u v w x y z f g i a b o p q r s t m = omega (arith, p, q, r, s, t, m)

pub made_state : (old m1 m2 new : Run) (k : ℕ) (ls : Lists) (r : Reading) → AreMade old m1 m2 new k ls → state_of r old ≡ state_of r new
made_state old m1 m2 new k ls r m = begun_state old m1 m2 k (16 * length (items_at m1 k)) r m.begun m.adds ∙ marked_state m2 new k (listing.Made ls) r m.made

pub made_here : (old m1 m2 new : Run) (k : ℕ) (ls : Lists) → AreMade old m1 m2 new k ls → HasLists new k ls
made_here old m1 m2 new k ls m = record {
  line = with_listing m.wanted.line (listing.Made ls);
  stands = ap (λ ls. slice_get ls k) m.made.lines ∙ marked_own m2.lines k (listing.Made ls) (with_listing m.wanted.line listing.Begun) (begun_line old m1 m2 k m.wanted m.begun m.adds.lines);
  lists = λ r q. subst (λ ss. AreLists r.term ss ls) (items_marked old m1 k listing.Wanted listing.Begun m.wanted m.begun ∙ ap items_in m.wanted.stands) (m.lists r.term (rw (sym m.made.arena) q.nodes));
}

-- ---- how the note is written

set_marked : (ls : List Line) (k : ℕ) (x : Listing) (v : Line) → v ≡ get_or ls k v → set ls k (with_listing v x) ≡ marked ls k x
set_marked [] zero x v e = refl
set_marked [] (suc k) x v e = refl
set_marked (y ∷ ls) zero x v e = ap (λ m. with_listing m x ∷ ls) e
set_marked (y ∷ ls) (suc k) x v e = ap (λ zs. y ∷ zs) (set_marked ls k x v e)

pub mark_counted : (w k saved : ℕ) (es : List Entry) (cs : List Free) (ls : List Line) (s : Run) (line parts : ℕ) (x : Listing) (v : Line) → record { work = w; weight = k; saved = saved; arena = es; choices = cs; lines = ls } ≡ s → ((t : ℕ → Term) → ReadsNodes t s.arena → IsListing t (items_at s line) x) → v ≡ get_or ls line v → IsCounted es cs ls parts → IsCounted es cs (set ls line (with_listing v x)) parts
mark_counted w k saved es cs ls s line parts x v i h e c =
    let listed = subst (λ (s : Run). (t : ℕ → Term) → ReadsNodes t s.arena → IsListing t (items_at s line) x) (sym i) h in
    subst (λ ms. IsCounted es cs ms parts) (sym (set_marked ls line x v e)) (counted_mark es cs ls line parts x listed c)

pub mark_marked : (w k saved : ℕ) (es : List Entry) (cs : List Free) (ls : List Line) (s : Run) (line : ℕ) (x : Listing) (v : Line) → record { work = w; weight = k; saved = saved; arena = es; choices = cs; lines = ls } ≡ s → v ≡ get_or ls line v → IsMarked s (record { work = w; weight = k; saved = saved; arena = es; choices = cs; lines = set ls line (with_listing v x) }) line x
mark_marked w k saved es cs ls s line x v i e = record {
  work = ap (λ (s : Run). s.work) i;
  weight = ap (λ (s : Run). s.weight) i;
  saved = ap (λ (s : Run). s.saved) i;
  arena = ap (λ (s : Run). s.arena) i;
  choices = ap (λ (s : Run). s.choices) i;
  lines = set_marked ls line x v e ∙ ap (λ (s : Run). marked s.lines line x) i;
}
