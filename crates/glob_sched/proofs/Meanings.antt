-- What the terms tell is what the rows say of numbers.
use Rattle.std.proofs.Common.{◌≡◌, ◌∙◌, ℕ, ℤ, pos, ◌+ℤ◌, ◌*ℤ◌, int_le, int_lt, Bool, true, false, not, ◌&&◌, ◌||◌, List, map, zip, Option, Some, None, refl, ap, arith, if◌then◌else◌}
use Rattle.std.proofs.lemmas.Int.{ints}
use Rattle.std.specs.List.{list_all}
use Rattle.std.specs.Ordering.{int_eq}
use Rattle.mz_operations.specs.Views.{number_of_bool}
use Rattle.mz_value.specs.Ranges.{Range}
use Rattle.mz_globals.specs.Lists.{pairwise, numbered}
use Rattle.mz_globals.specs.Scheduling as scheduling
use Rattle.mz_globals.specs.Scheduling.{Task}
use Rattle.mz_symbol.specs.Readings.{Reading}
use Rattle.glob_nodes.specs.declared.nodes.Compare.TheVariants.{Equal, AtMost}
use Rattle.glob_nodes.specs.Says.{num, compares}
use Rattle.glob_nodes.specs.Numbers.{added}
use Rattle.glob_nodes.proofs.Seen.{both, both_first, both_second, both_same, either_same, all_seen, pairs_seen, added_seen, zip_seen}
use Rattle.glob_nodes.specs.Places.{lies_within, known}
use Rattle.glob_nodes.proofs.Indexing.{place_seen, numbered_seen, index_seen, element_seen}
use Rattle.glob_nodes.proofs.Several.{placed}
use Rattle.glob_sched.specs.Senses.{one_after, are_apart, is_idle, are_apart_or_idle, are_boxes_apart, taken, taken_at, start_fits, is_enough, weight, weight_in, bin_fits, all_bins_fit, all_in_bins, has_load, are_loads}

abbrev pub task_seen : Reading → ℕ × ℕ → Option Task
task_seen r p = both (num r p.0) (num r p.1)

-- ---- tasks apart

after_told : (s d t e : Option ℤ) (v w : Task) → both s d ≡ Some v → both t e ≡ Some w → one_after s d t e ≡ scheduling.one_after v w
after_told None d t e v w h k = absurd (cc)
after_told (Some s) None t e v w h k = absurd (cc)
after_told (Some s) (Some d) None e v w h k = absurd (cc)
after_told (Some s) (Some d) (Some t) None v w h k = absurd (cc)
after_told (Some s) (Some d) (Some t) (Some e) v w h k =
    let i : ◌≡◌ {A = Task} (s, d) v = cc in
    let j : ◌≡◌ {A = Task} (t, e) w = cc in
    ap (λ x. scheduling.one_after x (t, e)) i ∙ ap (scheduling.one_after v) j

pub apart_told : (r : Reading) (j k : ℕ × ℕ) (v w : Task) → task_seen r j ≡ Some v → task_seen r k ≡ Some w → are_apart r j k ≡ scheduling.one_after v w
apart_told r j k v w h i = after_told (num r j.0) (num r j.1) (num r k.0) (num r k.1) v w h i

at_most_zero : (d : ℤ) → int_le d (pos 0) ≡ not (int_lt (pos 0) d)
at_most_zero d = grind (arith, ints)

idle_told : (s d : Option ℤ) (v : Task) → both s d ≡ Some v → is_idle d ≡ not (int_lt (pos 0) v.1)
idle_told s d v h = ap is_idle (both_second s d v h) ∙ at_most_zero v.1

or_assoc : (a b c : Bool) → (a || (b || c)) ≡ ((a || b) || c)
or_assoc true b c = refl
or_assoc false b c = refl

apart_or_idle_told : (r : Reading) (j k : ℕ × ℕ) (v w : Task) → task_seen r j ≡ Some v → task_seen r k ≡ Some w → are_apart_or_idle r j k ≡ scheduling.one_after_or_idle v w
apart_or_idle_told r j k v w h i =
    either_same (is_idle (num r j.1)) (is_idle (num r k.1) || are_apart r j k) (not (int_lt (pos 0) v.1)) (not (int_lt (pos 0) w.1) || scheduling.one_after v w) (idle_told (num r j.0) (num r j.1) v h)
    (either_same (is_idle (num r k.1)) (are_apart r j k) (not (int_lt (pos 0) w.1)) (scheduling.one_after v w) (idle_told (num r k.0) (num r k.1) w i) (apart_told r j k v w h i))
    ∙ or_assoc (not (int_lt (pos 0) v.1)) (not (int_lt (pos 0) w.1)) (scheduling.one_after v w)

pub strict_told : (r : Reading) (s d : List ℕ) (us vs : List ℤ) → map (num r) s ≡ map (λ n. Some n) us → map (num r) d ≡ map (λ n. Some n) vs → pairwise (are_apart r) (zip s d) ≡ scheduling.is_strictly_disjunctive (zip us vs)
strict_told r s d us vs h k = pairs_seen (task_seen r) (are_apart r) scheduling.one_after (zip s d) (zip us vs) (apart_told r) (zip_seen (num r) (num r) s d us vs h k)

pub disjunctive_told : (r : Reading) (s d : List ℕ) (us vs : List ℤ) → map (num r) s ≡ map (λ n. Some n) us → map (num r) d ≡ map (λ n. Some n) vs → pairwise (are_apart_or_idle r) (zip s d) ≡ scheduling.is_disjunctive (zip us vs)
disjunctive_told r s d us vs h k = pairs_seen (task_seen r) (are_apart_or_idle r) scheduling.one_after_or_idle (zip s d) (zip us vs) (apart_or_idle_told r) (zip_seen (num r) (num r) s d us vs h k)

abbrev pub box_seen : Reading → (ℕ × ℕ) × (ℕ × ℕ) → Option (Task × Task)
box_seen r p = both (task_seen r p.0) (task_seen r p.1)

boxes_told : (r : Reading) (p q : (ℕ × ℕ) × (ℕ × ℕ)) (v w : Task × Task) → box_seen r p ≡ Some v → box_seen r q ≡ Some w → are_boxes_apart r p q ≡ scheduling.side_by_side v w
boxes_told r p q v w h i =
    either_same (are_apart r p.0 q.0) (are_apart r p.1 q.1) (scheduling.one_after v.0 w.0) (scheduling.one_after v.1 w.1)
    (apart_told r p.0 q.0 v.0 w.0 (both_first (task_seen r p.0) (task_seen r p.1) v h) (both_first (task_seen r q.0) (task_seen r q.1) w i))
    (apart_told r p.1 q.1 v.1 w.1 (both_second (task_seen r p.0) (task_seen r p.1) v h) (both_second (task_seen r q.0) (task_seen r q.1) w i))

pub diffn_told : (r : Reading) (x dx y dy : List ℕ) (us dus vs dvs : List ℤ) → map (num r) x ≡ map (λ n. Some n) us → map (num r) dx ≡ map (λ n. Some n) dus → map (num r) y ≡ map (λ n. Some n) vs → map (num r) dy ≡ map (λ n. Some n) dvs → pairwise (are_boxes_apart r) (zip (zip x dx) (zip y dy)) ≡ scheduling.is_diffn (zip (zip us dus) (zip vs dvs))
diffn_told r x dx y dy us dus vs dvs h i j k =
    pairs_seen (box_seen r) (are_boxes_apart r) scheduling.side_by_side (zip (zip x dx) (zip y dy)) (zip (zip us dus) (zip vs dvs)) (boxes_told r)
    (zip_seen (task_seen r) (task_seen r) (zip x dx) (zip y dy) (zip us dus) (zip vs dvs) (zip_seen (num r) (num r) x dx us dus h i) (zip_seen (num r) (num r) y dy vs dvs j k))

-- ---- what tasks use

bit_times : (b : Bool) (w : ℤ) → number_of_bool b *ℤ w ≡ (if b then w else pos 0)
bit_times true w = omega (arith, ints)
bit_times false w = omega (arith, ints)

abbrev pub use_seen : Reading → (ℕ × ℕ) × ℕ → Option (Task × ℤ)
use_seen r u = both (task_seen r u.0) (num r u.1)

taken_told : (t : ℤ) (s d u : Option ℤ) (v : Task × ℤ) → both (both s d) u ≡ Some v → taken (Some t) s d u ≡ Some (scheduling.taken_at t v)
taken_told t None d u v h = absurd (cc)
taken_told t (Some a) None u v h = absurd (cc)
taken_told t (Some a) (Some b) None v h = absurd (cc)
taken_told t (Some a) (Some b) (Some c) v h =
    let i : ◌≡◌ {A = Task × ℤ} ((a, b), c) v = cc in
    ap (λ n. Some n) (bit_times (int_le a t && int_lt t (a +ℤ b)) c) ∙ ap (λ x. Some (scheduling.taken_at t x)) i

start_told : (r : Reading) (us : List ((ℕ × ℕ) × ℕ)) (b : ℕ) (vs : List (Task × ℤ)) (m : ℤ) → map (use_seen r) us ≡ map (λ n. Some n) vs → num r b ≡ Some m → (u : (ℕ × ℕ) × ℕ) (v : Task × ℤ) → use_seen r u ≡ Some v → start_fits r us b u ≡ scheduling.start_fits vs m v
start_told r us b vs m h k u v i =
    let here : num r u.0.0 ≡ Some v.0.0 = both_first (num r u.0.0) (num r u.0.1) v.0 (both_first (task_seen r u.0) (num r u.1) v i) in
    ap (λ o. compares AtMost o (num r b)) (added_seen (use_seen r) (λ w. taken_at r u.0.0 w) (scheduling.taken_at v.0.0) us vs
    (λ w x j. ap (λ t. taken t (num r w.0.0) (num r w.0.1) (num r w.1)) here ∙ taken_told v.0.0 (num r w.0.0) (num r w.0.1) (num r w.1) x j) h)
    ∙ ap (compares AtMost (Some (scheduling.used_at vs v.0.0))) k

pub cumulative_told : (r : Reading) (s d u : List ℕ) (b : ℕ) (us vs ws : List ℤ) (m : ℤ) → map (num r) s ≡ map (λ n. Some n) us → map (num r) d ≡ map (λ n. Some n) vs → map (num r) u ≡ map (λ n. Some n) ws → num r b ≡ Some m → is_enough r (zip (zip s d) u) b ≡ scheduling.is_cumulative (zip (zip us vs) ws) m
cumulative_told r s d u b us vs ws m h i j k =
    let seen : map (use_seen r) (zip (zip s d) u) ≡ map (λ n. Some n) (zip (zip us vs) ws) = zip_seen (task_seen r) (num r) (zip s d) u (zip us vs) ws (zip_seen (num r) (num r) s d us vs h i) j in
    both_same (compares AtMost (Some (pos 0)) (num r b)) (list_all (λ w. start_fits r (zip (zip s d) u) b w) (zip (zip s d) u)) (int_le (pos 0) m) (list_all (scheduling.start_fits (zip (zip us vs) ws) m) (zip (zip us vs) ws))
    (ap (compares AtMost (Some (pos 0))) k)
    (all_seen (use_seen r) (λ w. start_fits r (zip (zip s d) u) b w) (scheduling.start_fits (zip (zip us vs) ws) m) (zip (zip s d) u) (zip (zip us vs) ws) (start_told r (zip (zip s d) u) b (zip (zip us vs) ws) m seen k) seen)

-- ---- things in bins

weight_told : (bin : ℤ) (b w : Option ℤ) (v : ℤ × ℤ) → both b w ≡ Some v → weight (Some bin) b w ≡ Some (scheduling.weight_in bin v)
weight_told bin None w v h = absurd (cc)
weight_told bin (Some b) None v h = absurd (cc)
weight_told bin (Some b) (Some w) v h =
    let i : ◌≡◌ {A = ℤ × ℤ} (b, w) v = cc in
    ap (λ n. Some n) (bit_times (int_eq b bin) w) ∙ ap (λ x. Some (scheduling.weight_in bin x)) i

pub load_told : (r : Reading) (ps : List (ℕ × ℕ)) (vs : List (ℤ × ℤ)) (b : ℕ) (bin : ℤ) → map (task_seen r) ps ≡ map (λ n. Some n) vs → num r b ≡ Some bin → added (λ q. weight_in r b q) ps ≡ Some (scheduling.load vs bin)
load_told r ps vs b bin h k =
    added_seen (task_seen r) (λ q. weight_in r b q) (scheduling.weight_in bin) ps vs
    (λ q x j. ap (λ t. weight t (num r q.0) (num r q.1)) k ∙ weight_told bin (num r q.0) (num r q.1) x j) h

bin_told : (r : Reading) (ps : List (ℕ × ℕ)) (most : ℕ) (vs : List (ℤ × ℤ)) (m : ℤ) → map (task_seen r) ps ≡ map (λ n. Some n) vs → num r most ≡ Some m → (p : ℕ × ℕ) (v : ℤ × ℤ) → task_seen r p ≡ Some v → bin_fits r ps most p ≡ scheduling.bin_fits vs m v
bin_told r ps most vs m h k p v i =
    ap (λ o. compares AtMost o (num r most)) (load_told r ps vs p.0 v.0 h (both_first (num r p.0) (num r p.1) v i))
    ∙ ap (compares AtMost (Some (scheduling.load vs v.0))) k

pub packing_told : (r : Reading) (bins weights : List ℕ) (most : ℕ) (us vs : List ℤ) (m : ℤ) → num r most ≡ Some m → map (num r) bins ≡ map (λ n. Some n) us → map (num r) weights ≡ map (λ n. Some n) vs → all_bins_fit r (zip bins weights) most ≡ scheduling.packs m (zip us vs)
packing_told r bins weights most us vs m k h i =
    let seen : map (task_seen r) (zip bins weights) ≡ map (λ n. Some n) (zip us vs) = zip_seen (num r) (num r) bins weights us vs h i in
    both_same (compares AtMost (Some (pos 0)) (num r most)) (list_all (λ p. bin_fits r (zip bins weights) most p) (zip bins weights)) (int_le (pos 0) m) (list_all (scheduling.bin_fits (zip us vs) m) (zip us vs))
    (ap (compares AtMost (Some (pos 0))) k)
    (all_seen (task_seen r) (λ p. bin_fits r (zip bins weights) most p) (scheduling.bin_fits (zip us vs) m) (zip bins weights) (zip us vs) (bin_told r (zip bins weights) most (zip us vs) m seen k) seen)

-- ---- loads

load_is : (r : Reading) (ps : List (ℕ × ℕ)) (vs : List (ℤ × ℤ)) (bin : ℤ) → map (task_seen r) ps ≡ map (λ n. Some n) vs → added (λ q. weight (Some bin) (num r q.0) (num r q.1)) ps ≡ Some (scheduling.load vs bin)
load_is r ps vs bin h =
    added_seen (task_seen r) (λ q. weight (Some bin) (num r q.0) (num r q.1)) (scheduling.weight_in bin) ps vs
    (λ q x j. weight_told bin (num r q.0) (num r q.1) x j) h

place_told : (r : Reading) (ps : List (ℕ × ℕ)) (vs : List (ℤ × ℤ)) → map (task_seen r) ps ≡ map (λ n. Some n) vs → (p : ℤ × ℕ) (v : ℤ × ℤ) → place_seen r p ≡ Some v → has_load r ps (known p) ≡ scheduling.is_load vs v
place_told r ps vs h p v i =
    ap (λ o. compares Equal (added (λ q. weight o (num r q.0) (num r q.1)) ps) (num r p.1)) (index_seen r p v i)
    ∙ ap (λ o. compares Equal o (num r p.1)) (load_is r ps vs v.0 h)
    ∙ ap (compares Equal (Some (scheduling.load vs v.0))) (element_seen r p v i)

pub loads_told : (r : Reading) (range : Range) (loads bins weights : List ℕ) (ls us vs : List ℤ) → map (num r) loads ≡ map (λ n. Some n) ls → map (num r) bins ≡ map (λ n. Some n) us → map (num r) weights ≡ map (λ n. Some n) vs → are_loads r range loads (zip bins weights) ≡ scheduling.are_loads (placed range ls) (zip us vs)
loads_told r range loads bins weights ls us vs h i j =
    let seen : map (task_seen r) (zip bins weights) ≡ map (λ n. Some n) (zip us vs) = zip_seen (num r) (num r) bins weights us vs i j in
    both_same (all_in_bins r range (zip bins weights)) (list_all (λ p. has_load r (zip bins weights) (known p)) (numbered range.0 loads)) (list_all (scheduling.is_loaded (placed range ls)) (zip us vs)) (list_all (scheduling.is_load (zip us vs)) (numbered range.0 ls))
    (all_seen (task_seen r) (λ p. lies_within range (num r p.0)) (scheduling.is_loaded (placed range ls)) (zip bins weights) (zip us vs) (λ p v k. ap (lies_within range) (both_first (num r p.0) (num r p.1) v k)) seen)
    (all_seen (place_seen r) (λ p. has_load r (zip bins weights) (known p)) (scheduling.is_load (zip us vs)) (numbered range.0 loads) (numbered range.0 ls) (place_told r (zip bins weights) (zip us vs) seen) (numbered_seen r range.0 loads ls h))
