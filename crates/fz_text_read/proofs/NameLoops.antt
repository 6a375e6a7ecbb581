-- A loop that puts names into a table, where none stands twice.
use Rattle.std.proofs.Common.{◌≡◌, ℕ, ◌+◌, ◌<◌, ◌≤◌, List, [], ◌∷◌, ◌++◌, length, take, drop, get_or, Bool, true, false, cond, not, refl, sym, ap, ◌∙◌, append_assoc, Some, None, Result}
use Rattle.std.specs.Prelude.{◌&&◌, Ok, Err, Option}
use Rattle.std.proofs.lemmas.Bool.{false≢true}
use Rattle.std.proofs.lemmas.List.{append-nil, drop_all, take_all, take_more}
use Rattle.fz_items.proofs.Loops.{cut}
use Rattle.fz_items.specs.declared.miss.Miss.{Miss}
use Rattle.fz_items.specs.declared.miss.Miss.TheVariants.{Unfit, Memory}
use Rattle.fz_items.specs.Gives.{Gives}
use Rattle.fz_program.specs.Names.{Name}
use Rattle.fz_text_read.specs.Tables.{are_new, is_among, with_text, Adds, Named}

-- a name that was new was put last
pub put_last : (old new : List Name) (x : Name) (b : Bool) → b ≡ not (is_among old x) → b ≡ true → new ≡ with_text old x → (is_among old x ≡ false) × (new ≡ old ++ x ∷ [])
put_last old new x b is was names = by (is_among old x) refl (sym is ∙ was)
  where
    by : (t : Bool) → is_among old x ≡ t → not (is_among old x) ≡ true → (is_among old x ≡ false) × (new ≡ old ++ x ∷ [])
    by false e is_not = (e, names ∙ ap (λ u. cond u old (old ++ x ∷ [])) e)
    by true e is_not = absurd (false≢true (ap not (sym e) ∙ is_not))

-- and one that wasn't stands there
pub stands_there : (old : List Name) (x : Name) (b : Bool) → b ≡ not (is_among old x) → b ≡ false → is_among old x ≡ true
stands_there old x b is was = by (is_among old x) refl (sym is ∙ was)
  where
    by : (t : Bool) → is_among old x ≡ t → not (is_among old x) ≡ false → is_among old x ≡ true
    by true e is_not = e
    by false e is_not = absurd (false≢true (sym is_not ∙ ap not e))

-- the names up to a place were put last, and what is left decides whether all are new
pub record SoFar (old so_far all : List Name) (i : ℕ) : Type 0 where
  pub rest : are_new old all ≡ are_new so_far (drop i all)
  pub names : so_far ≡ old ++ take i all

pub none_yet : (old all : List Name) → SoFar old old all 0
none_yet old all = record { rest = refl; names = sym (append-nil old) }

new_cons : (names : List Name) (x : Name) (xs : List Name) → are_new names (x ∷ xs) ≡ (not (is_among names x) && are_new (names ++ x ∷ []) xs)
unfolding are_new
new_cons names x xs = refl

new_nil : (names : List Name) → are_new names [] ≡ true
unfolding are_new
new_nil names = refl

pub one_more : (old so_far new all : List Name) (i : ℕ) (x : Name) → i < length all → x ≡ get_or all i x → SoFar old so_far all i → (is_among so_far x ≡ false) × (new ≡ so_far ++ x ∷ []) → SoFar old new all (i + 1)
one_more old so_far new all i x below is before added = record {
  rest = before.rest ∙ ap (are_new so_far) (cut all i x below is) ∙ new_cons so_far x (drop (i + 1) all) ∙ ap (λ t. not t && are_new (so_far ++ x ∷ []) (drop (i + 1) all)) added.0 ∙ ap (λ ns. are_new ns (drop (i + 1) all)) (sym added.1);
  names = added.1 ∙ ap (λ ns. ns ++ x ∷ []) before.names ∙ append_assoc old (take i all) (x ∷ []) ∙ ap (λ ns. old ++ ns) (ap (λ y. take i all ++ y ∷ []) is ∙ sym (take_more all i x below));
}

pub twice : (old so_far all : List Name) (i : ℕ) (x : Name) → i < length all → x ≡ get_or all i x → SoFar old so_far all i → is_among so_far x ≡ true → are_new old all ≡ false
twice old so_far all i x below is before stands = before.rest ∙ ap (are_new so_far) (cut all i x below is) ∙ new_cons so_far x (drop (i + 1) all) ∙ ap (λ t. not t && are_new (so_far ++ x ∷ []) (drop (i + 1) all)) stands

-- the next name stands twice, or memory ran out
pub stops_at : (old so_far new all : List Name) (i : ℕ) (x : Name) (miss : Miss) → i < length all → x ≡ get_or all i x → SoFar old so_far all i → Adds so_far new x (Err miss) → Named old new all (Err miss)
stops_at old so_far new all i x Unfit below is before stands = twice old so_far all i x below is before stands
stops_at old so_far new all i x Memory below is before stands = tt

pub all_put : (old so_far all : List Name) (i : ℕ) → length all ≤ i → SoFar old so_far all i → (are_new old all ≡ true) × (so_far ≡ old ++ all)
all_put old so_far all i past before = (before.rest ∙ ap (are_new so_far) (drop_all i all past) ∙ new_nil so_far, before.names ∙ ap (λ ns. old ++ ns) (take_all i all past))

pub new_append : (earlier xs ys : List Name) → are_new earlier (xs ++ ys) ≡ (are_new earlier xs && are_new (earlier ++ xs) ys)
unfolding are_new
new_append earlier [] ys = rw (append-nil earlier) refl
new_append earlier (x ∷ xs) ys = by (not (is_among earlier x)) (new_append (earlier ++ x ∷ []) xs ys ∙ ap (λ ns. are_new (earlier ++ x ∷ []) xs && are_new ns ys) (append_assoc earlier (x ∷ []) xs))
  where
    by : (t : Bool) → are_new (earlier ++ x ∷ []) (xs ++ ys) ≡ (are_new (earlier ++ x ∷ []) xs && are_new (earlier ++ (x ∷ xs)) ys) → (t && are_new (earlier ++ x ∷ []) (xs ++ ys)) ≡ ((t && are_new (earlier ++ x ∷ []) xs) && are_new (earlier ++ (x ∷ xs)) ys)
    by true e = e
    by false e = refl

-- names of two lists, one after the other
pub new_both : (xs ys : List Name) → are_new [] xs ≡ true → are_new xs ys ≡ true → are_new [] (xs ++ ys) ≡ true
new_both xs ys one two = new_append [] xs ys ∙ rw (one, two) refl

pub new_first : (xs ys : List Name) → are_new [] xs ≡ false → are_new [] (xs ++ ys) ≡ false
new_first xs ys one = new_append [] xs ys ∙ rw one refl

pub new_second : (xs ys : List Name) → are_new [] xs ≡ true → are_new xs ys ≡ false → are_new [] (xs ++ ys) ≡ false
new_second xs ys one two = new_append [] xs ys ∙ rw (one, two) refl

-- ---- what the functions over whole lists answer

pub named_some : (names t : List Name) → (are_new [] names ≡ true) × (t ≡ [] ++ names) → cond (are_new [] names) (Some names) None ≡ Some t
named_some names t h = rw (h.0) (ap Some (sym h.1))

pub named_none : (names : List Name) → are_new [] names ≡ false → cond (are_new [] names) (Some names) None ≡ None
named_none names e = rw e refl

abbrev pub named_unit : Bool → Option (Unit {0})
named_unit b = cond b (Some tt) None

pub once_none : (xs ys : List Name) → are_new [] xs ≡ false → named_unit (are_new [] (xs ++ ys)) ≡ None
once_none xs ys e = rw (new_first xs ys e) refl

pub once_all : (xs ys t new : List Name) (r : Result (Unit {0}) Miss) → (are_new [] xs ≡ true) × (t ≡ [] ++ xs) → Named t new ys r → Gives (λ u. u) r (named_unit (are_new [] (xs ++ ys)))
once_all xs ys t new (Ok u) h n = rw (new_both xs ys h.0 (ap (λ ns. are_new ns ys) (sym h.1) ∙ n.0)) refl
once_all xs ys t new (Err Unfit) h n = rw (new_second xs ys h.0 (ap (λ ns. are_new ns ys) (sym h.1) ∙ n)) refl
once_all xs ys t new (Err Memory) h n = tt
