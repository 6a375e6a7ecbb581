-- What is told from the last element on, one element more.
use Rattle.std.proofs.Common.{◌≡◌, ◌∙◌, ℕ, zero, suc, ◌+◌, ◌*◌, ◌-◌, ◌<◌, ◌≤◌, Bool, true, false, ◌&&◌, ◌||◌, List, [], ◌∷◌, length, drop, take, slice_index_or, refl, sym, ap, subst, arith}
use Rattle.std.specs.List.{list_all, list_any}
use Rattle.mz_arena.specs.Values.{Term, bit, is_true}
use Rattle.mz_globals.specs.Lists.{pairwise, stepwise, stepwise_from}
use Rattle.mz_symbol.specs.Runs.{Run}
use Rattle.mz_symbol.specs.Readings.{Reading, Reads, state_of}
use Rattle.mz_symbol.specs.Makes.{GoesOnBy}
use Rattle.mz_symbol_rows.proofs.GoingOn.{goes_both, goes_most}
use Rattle.glob_nodes.specs.declared.nodes.Join.{Join}
use Rattle.glob_nodes.specs.declared.nodes.Join.TheVariants.{Both, Either}
use Rattle.glob_nodes.specs.Says.{Gives, Says, Tells, joins, joined_each, pair_count}
use Rattle.glob_nodes.specs.StepsEach.{Told, Given}

goes_none : (s : Run) → GoesOnBy 0 s s
goes_none s = record { back = λ r h. h; paid = omega arith }

pub goes_more : (n m p : ℕ) (old mid new : Run) → n + m ≤ p → GoesOnBy n old mid → GoesOnBy m mid new → GoesOnBy p old new
goes_more n m p old mid new h f g = goes_most (n + m) p old new h (goes_both n m old mid new f g)

pub goes_less : (n m : ℕ) (old new : Run) → n ≤ m → GoesOnBy n old new → GoesOnBy m old new
goes_less n m old new h f = goes_most n m old new h f

-- ---- beginning and end

pub told_start : (s : Run) (f : Reading → Bool) (id : ℕ) → ((r : Reading) → is_true (r.term id) ≡ f r) → Told 0 s s f id
told_start s f id e = record { goes = goes_none s; tells = record { same = λ r q. refl; tells = λ r q. e r } }

pub tells_of : (old new : Run) (f : Reading → Bool) (id : ℕ) → Says old new f id → Tells old new f id
tells_of old new f id s = record { same = s.same; tells = s.tells }

pub tells_like : (old new : Run) (f g : Reading → Bool) (id : ℕ) → ((r : Reading) → f r ≡ g r) → Tells old new f id → Tells old new g id
tells_like old new f g id e t = record { same = t.same; tells = λ r q. t.tells r q ∙ e r }

pub told_like : (n m : ℕ) (old new : Run) (f g : Reading → Bool) (id : ℕ) → n ≤ m → ((r : Reading) → f r ≡ g r) → Told n old new f id → Told m old new g id
told_like n m old new f g id h e t = record { goes = goes_most n m old new h t.goes; tells = tells_like old new f g id e t.tells }

-- from a truth value
pub told_from : (m : ℕ) (old new : Run) (f g : Reading → Bool) (id : ℕ) → GoesOnBy 0 old new → Says old new f id → ((r : Reading) → f r ≡ g r) → Told m old new g id
told_from m old new f g id goes s e = record { goes = goes_most 0 m old new (omega arith) goes; tells = tells_like old new f g id e (tells_of old new f id s) }

-- ---- one step more

pub told_step : (n m p : ℕ) (old mid new : Run) (f h : Reading → Bool) (g : Reading → Bool → Bool) (acc id : ℕ) → n + m ≤ p → Told n old mid f acc → GoesOnBy m mid new → Tells mid new (λ r. g r (is_true (r.term acc))) id → ((r : Reading) → g r (f r) ≡ h r) → Told p old new h id
told_step n m p old mid new f h g acc id most t goes says e = record {
  goes = goes_more n m p old mid new most t.goes goes;
  tells = record {
    same = λ r q. t.tells.same r (goes.back r q) ∙ says.same r q;
    tells = λ r q. says.tells r q ∙ ap (g r) (t.tells.tells r (goes.back r q)) ∙ e r;
  };
}

-- a truth value over one that was told
pub says_then : (old mid new : Run) (f h : Reading → Bool) (g : Reading → Bool → Bool) (acc id m : ℕ) → Tells old mid f acc → GoesOnBy m mid new → Says mid new (λ r. g r (is_true (r.term acc))) id → ((r : Reading) → g r (f r) ≡ h r) → Says old new h id
says_then old mid new f h g acc id m t goes s e = record {
  same = λ r q. t.same r (goes.back r q) ∙ s.same r q;
  is = λ r q. s.is r q ∙ ap (λ b. bit (g r b)) (t.tells r (goes.back r q)) ∙ ap bit (e r);
  tells = λ r q. s.tells r q ∙ ap (g r) (t.tells r (goes.back r q)) ∙ e r;
}

pub says_like : (old new : Run) (f g : Reading → Bool) (id : ℕ) → ((r : Reading) → f r ≡ g r) → Says old new f id → Says old new g id
says_like old new f g id e s = record { same = s.same; is = λ r q. s.is r q ∙ ap bit (e r); tells = λ r q. s.tells r q ∙ e r }

pub given_step : (n m p : ℕ) (old mid new : Run) (f h : Reading → Term) (g : Reading → Term → Term) (acc id : ℕ) → n + m ≤ p → Given n old mid f acc → GoesOnBy m mid new → Gives mid new (λ r. g r (r.term acc)) id → ((r : Reading) → g r (f r) ≡ h r) → Given p old new h id
given_step n m p old mid new f h g acc id most t goes gives e = record {
  goes = goes_more n m p old mid new most t.goes goes;
  gives = record {
    same = λ r q. t.gives.same r (goes.back r q) ∙ gives.same r q;
    is = λ r q. gives.is r q ∙ ap (g r) (t.gives.is r (goes.back r q)) ∙ e r;
  };
}

-- ---- what the steps so far cost

next_room : (c m : ℕ) → c * m + c ≤ c * (m + 1)
next_room c m = grind arith

pub room_left : (c n k : ℕ) → k ≤ n → 0 < k → c * (n - k) + c ≤ c * (n - (k - 1))
room_left c n k h p = subst (λ m. c * (n - k) + c ≤ c * m) (omega (arith, h, p)) (next_room c (n - k))

pub grows : (c a b : ℕ) → a ≤ b → c * a ≤ c * b
grows c a b h = subst (λ m. c * a ≤ c * m) (omega (arith, h)) (more c a (b - a))
  where
    more : (c a d : ℕ) → c * a ≤ c * (a + d)
    more c a d = grind arith

pub room_all : (c n k : ℕ) → k ≤ n → 0 < k → c * (n - k) + c ≤ c * n
room_all c n k h p =
    let one = room_left c n k h p in
    let all = grows c (n - (k - 1)) n (omega arith) in
    omega (arith, one, all)

pub no_room : (c n k : ℕ) → c * (n - k) ≤ c * n
no_room c n k = grows c (n - k) n (omega arith)

-- ---- lists

and_assoc : (a b c : Bool) → (a && (b && c)) ≡ ((a && b) && c)
and_assoc true b c = refl
and_assoc false b c = refl

pub drop_at : {A : Type 0} (d x : A) (xs : List A) (k : ℕ) → k < length xs → x ≡ slice_index_or xs k d → drop k xs ≡ x ∷ drop (suc k) xs
drop_at d x [] k h e = absurd (omega (arith, h))
drop_at d x (y ∷ xs) zero h e = ap (λ z. z ∷ xs) (sym e)
drop_at d x (y ∷ xs) (suc k) h e = drop_at d x xs k (omega (arith, h)) e

pub drop_before : {A : Type 0} (d x : A) (xs : List A) (k : ℕ) → k ≤ length xs → 0 < k → x ≡ slice_index_or xs (k - 1) d → drop (k - 1) xs ≡ x ∷ drop k xs
drop_before d x xs k h p e =
    let back : suc (k - 1) ≡ k = omega (arith, p) in
    drop_at d x xs (k - 1) (omega (arith, h, p)) e ∙ ap (λ i. x ∷ drop i xs) back

pub drop_all : {A : Type 0} (xs : List A) → drop (length xs) xs ≡ []
drop_all [] = refl
drop_all (x ∷ xs) = drop_all xs

take_all : {A : Type 0} (n : ℕ) (xs : List A) → length xs ≤ n → take n xs ≡ xs
take_all zero [] h = refl
take_all (suc n) [] h = refl
take_all zero (x ∷ xs) h = absurd (omega (arith, h))
take_all (suc n) (x ∷ xs) h = ap (λ ys. x ∷ ys) (take_all n xs (omega (arith, h)))

drop_length : {A : Type 0} (k : ℕ) (xs : List A) → length (drop k xs) ≤ length xs - k
drop_length zero xs = omega arith
drop_length (suc k) [] = omega arith
drop_length (suc k) (x ∷ xs) = let less = drop_length k xs in omega (arith, less)

-- a slice up to the end
pub tail_is : {A : Type 0} (k : ℕ) (xs : List A) → take (length xs - k) (drop k xs) ≡ drop k xs
tail_is k xs = take_all (length xs - k) (drop k xs) (drop_length k xs)

-- ---- an item related to each of others

pub each_begins : {A : Type 0} (op : Join) (p : A → Bool) (xs : List A) (b : Bool) → b ≡ joined_each op p (drop (length xs) xs) b
each_begins op p xs b = ap (λ ys. joined_each op p ys b) (sym (drop_all xs))

pub each_goes : {A : Type 0} (op : Join) (p : A → Bool) (d x : A) (xs : List A) (k : ℕ) (b : Bool) → k ≤ length xs → 0 < k → x ≡ slice_index_or xs (k - 1) d → joins op (p x) (joined_each op p (drop k xs) b) ≡ joined_each op p (drop (k - 1) xs) b
each_goes op p d x xs k b h q e = ap (λ ys. joined_each op p ys b) (sym (drop_before d x xs k h q e))

-- ---- pairs

pub all_joined : {A : Type 0} (p : A → Bool) (xs : List A) (b : Bool) → joined_each Both p xs b ≡ (list_all p xs && b)
all_joined p [] b = refl
all_joined p (x ∷ xs) b = ap (λ c. p x && c) (all_joined p xs b) ∙ and_assoc (p x) (list_all p xs) b

pub any_joined : {A : Type 0} (p : A → Bool) (xs : List A) → joined_each Either p xs false ≡ list_any p xs
any_joined p [] = refl
any_joined p (x ∷ xs) = ap (λ c. p x || c) (any_joined p xs)

pub two_goes : {A : Type 0} (p : A → A → Bool) (d x : A) (xs : List A) (k : ℕ) → k ≤ length xs → 0 < k → x ≡ slice_index_or xs (k - 1) d → joined_each Both (p x) (drop k xs) (pairwise p (drop k xs)) ≡ pairwise p (drop (k - 1) xs)
two_goes p d x xs k h q e = all_joined (p x) (drop k xs) (pairwise p (drop k xs)) ∙ ap (pairwise p) (sym (drop_before d x xs k h q e))

shared : (c a b : ℕ) → c * a + c * b ≤ c * (b + a)
shared c a b = grind arith

pub two_room : {A : Type 0} (c : ℕ) (d x : A) (xs : List A) (k : ℕ) → k ≤ length xs → 0 < k → x ≡ slice_index_or xs (k - 1) d → c * pair_count (drop k xs) + c * length (drop k xs) ≤ c * pair_count (drop (k - 1) xs)
two_room c d x xs k h q e = subst (λ ys. c * pair_count (drop k xs) + c * length (drop k xs) ≤ c * pair_count ys) (sym (drop_before d x xs k h q e)) (shared c (pair_count (drop k xs)) (length (drop k xs)))

pub fewer_pairs : {A : Type 0} (k : ℕ) (xs : List A) → pair_count (drop k xs) ≤ pair_count xs
fewer_pairs zero xs = omega arith
fewer_pairs (suc k) [] = omega arith
fewer_pairs (suc k) (x ∷ xs) = let less = fewer_pairs k xs in omega (arith, less)

pub two_most : {A : Type 0} (c : ℕ) (d x : A) (xs : List A) (k : ℕ) → k ≤ length xs → 0 < k → x ≡ slice_index_or xs (k - 1) d → c * pair_count (drop k xs) + c * length (drop k xs) ≤ c * pair_count xs
two_most c d x xs k h q e =
    let one = two_room c d x xs k h q e in
    let all = grows c (pair_count (drop (k - 1) xs)) (pair_count xs) (fewer_pairs (k - 1) xs) in
    omega (arith, one, all)

pub no_pairs : {A : Type 0} (c : ℕ) (xs : List A) → 0 ≤ c * pair_count (drop (length xs) xs)
no_pairs c xs = omega arith

-- ---- each item and the next

last_from : {A : Type 0} (p : A → A → Bool) (xs : List A) (n : ℕ) → length xs ≤ n + 1 → true ≡ stepwise p (drop n xs)
last_from p [] zero h = refl
last_from p [] (suc n) h = refl
last_from p (x ∷ []) zero h = refl
last_from p (x ∷ y ∷ ys) zero h = absurd (omega (arith, h))
last_from p (x ∷ xs) (suc n) h = last_from p xs n (omega (arith, h))

pub steps_begin : {A : Type 0} (p : A → A → Bool) (xs : List A) → true ≡ stepwise p (drop (length xs - 1) xs)
steps_begin p xs = last_from p xs (length xs - 1) (omega arith)

pub steps_go : {A : Type 0} (p : A → A → Bool) (d e x y : A) (xs : List A) (k : ℕ) → k ≤ length xs → 1 < k → x ≡ slice_index_or xs (k - 1 - 1) d → y ≡ slice_index_or xs (k - 1) e → (p x y && stepwise p (drop (k - 1) xs)) ≡ stepwise p (drop (k - 1 - 1) xs)
steps_go p d e x y xs k h q i j =
    ap (λ ys. p x y && stepwise p ys) (drop_before e y xs k h (omega (arith, q)) j)
    ∙ ap (λ ys. stepwise p (x ∷ ys)) (sym (drop_before e y xs k h (omega (arith, q)) j))
    ∙ ap (stepwise p) (sym (drop_before d x xs (k - 1) (omega (arith, h)) (omega (arith, q)) i))
