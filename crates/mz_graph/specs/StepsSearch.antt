-- Mirror of src/search.rt and src/components.rt; private clauses only.
use Rattle.std.specs.Prelude.{◌≡◌, ℕ, ◌+◌, ◌<◌, ◌≤◌, List, [], ◌∷◌, ◌++◌, length, Bool, true, false, slice_index_or, slice_set}
use Rattle.mz_graph.specs.Graph.{Graph, heads, IsIn, Edge, Path}
use Rattle.mz_graph.specs.declared.search.Visit.{Visit}
use Rattle.mz_graph.specs.declared.search.Visit.TheVariants.{Unvisited, OnPath, Numbered}
use Rattle.mz_graph.specs.declared.search.Search.{Search}

-- a path of components: `starts` and `floors` say where each begins on `path` and on `work`
pub record Trail : Type 0 where
  pub visits : List Visit
  pub path : List ℕ
  pub work : List ℕ
  pub starts : List ℕ
  pub floors : List ℕ
  pub count : ℕ

abbrev pub trail : Search → Trail
trail s = record { visits = s.visits.items; path = s.path.items; work = s.work.items; starts = s.starts.items; floors = s.floors.items; count = length s.leaders.items }

abbrev pub visit_of : List Visit → ℕ → Visit
visit_of visits x = slice_index_or visits x Unvisited

abbrev pub at : List ℕ → ℕ → ℕ
at xs k = slice_index_or xs k 0

pub record IsAt (path : List ℕ) (x p : ℕ) : Type 0 where
  pub within : p < length path
  pub is : at path p ≡ x

pub record HasNumberUpTo (visits : List Visit) (c y : ℕ) : Type 0 where
  pub number : ℕ
  pub numbered : visit_of visits y ≡ Numbered number
  pub low : number ≤ c

-- Where an edge of the path leads: to a numbered node, to one of the path from `start` on, to one whose edge is still to be
-- followed, or to the one in hand.
pub data IsCovered (visits : List Visit) (work hand : List ℕ) (start floor y : ℕ) : Type 0 where
  by_number : (c : ℕ) → visit_of visits y ≡ Numbered c → IsCovered visits work hand start floor y
  by_path : (p : ℕ) → visit_of visits y ≡ OnPath p → start ≤ p → IsCovered visits work hand start floor y
  by_work : (k : ℕ) → floor ≤ k → k < length work → at work k ≡ y → IsCovered visits work hand start floor y
  by_hand : IsIn y hand → IsCovered visits work hand start floor y

-- the node of the path whose edge is still to be followed
pub record Tail (g : Graph) (path starts floors : List ℕ) (k y : ℕ) : Type 0 where
  pub place : ℕ
  pub within : place < length path
  pub edge : Edge g (at path place) y
  pub after : (i : ℕ) → i < length starts → at floors i ≤ k → at starts i ≤ place
  pub before : (i : ℕ) → i < length starts → k < at floors i → place < at starts i

pub record Rises (starts floors : List ℕ) (i j : ℕ) : Type 0 where
  pub start : at starts i < at starts j
  pub floor : at floors i ≤ at floors j

-- the first component begins where the path does
pub record BeginsPath (starts : List ℕ) : Type 0 where
  pub some : 0 < length starts
  pub is : at starts 0 ≡ 0

-- the nodes that were visited: those of the path, and those with a number
pub record IsPath (g : Graph) (visits : List Visit) (path : List ℕ) (count : ℕ) : Type 0 where
  pub sized : length visits ≡ length g
  pub on_path : (p : ℕ) → p < length path → visit_of visits (at path p) ≡ OnPath p
  pub placed : (x p : ℕ) → visit_of visits x ≡ OnPath p → IsAt path x p
  pub numbers : (x c : ℕ) → visit_of visits x ≡ Numbered c → c < count
  pub falls : (x c y : ℕ) → visit_of visits x ≡ Numbered c → Edge g x y → HasNumberUpTo visits c y
  pub connected : (x y c : ℕ) → visit_of visits x ≡ Numbered c → visit_of visits y ≡ Numbered c → Path g x y
  pub onwards : (p q : ℕ) → p ≤ q → q < length path → Path g (at path p) (at path q)

-- the components of the path
pub record AreParts (g : Graph) (path work starts floors : List ℕ) : Type 0 where
  pub paired : length floors ≡ length starts
  pub tails : (k : ℕ) → k < length work → Tail g path starts floors k (at work k)
  pub back : (i q : ℕ) → i < length starts → q < length path → (i + 1 < length starts → q < at starts (i + 1)) → Path g (at path q) (at path (at starts i))
  pub rises : (i j : ℕ) → i < j → j < length starts → Rises starts floors i j
  pub inside : (i : ℕ) → i < length starts → at starts i < length path
  pub above : (i : ℕ) → i < length starts → at floors i ≤ length work
  pub begins : 0 < length path → BeginsPath starts

-- no edge of the path is lost
abbrev pub IsWholeWork : Graph → List ℕ → Trail → Type 0
IsWholeWork g hand t = (i q y : ℕ) → i < length t.starts → at t.starts i ≤ q → q < length t.path → Edge g (at t.path q) y → IsCovered t.visits t.work hand (at t.starts i) (at t.floors i) y

pub record Holds (g : Graph) (hand : List ℕ) (t : Trail) : Type 0 where
  pub path : IsPath g t.visits t.path t.count
  pub parts : AreParts g t.path t.work t.starts t.floors
  pub covered : IsWholeWork g hand t

-- each node of the path reaches y
abbrev pub AllReach : Graph → Trail → ℕ → Type 0
AllReach g t y = (q : ℕ) → q < length t.path → Path g (at t.path q) y

-- a measure: unvisited nodes with their edges, edges still to be followed, and nodes of the path
abbrev pub unvisited : List Visit → Graph → ℕ
unvisited [] g = 0
unvisited (v ∷ vs) [] = 0
unvisited (Unvisited ∷ vs) (hs ∷ g) = (length hs + 2) + unvisited vs g
unvisited (OnPath p ∷ vs) (hs ∷ g) = unvisited vs g
unvisited (Numbered c ∷ vs) (hs ∷ g) = unvisited vs g

abbrev pub left : Graph → Trail → ℕ
left g t = unvisited t.visits g + (length t.work + length t.path)

pub record IsNew (n : ℕ) (t : Trail) : Type 0 where
  pub sized : length t.visits ≡ n
  pub visits : (x : ℕ) → visit_of t.visits x ≡ Unvisited
  pub path : t.path ≡ []
  pub work : t.work ≡ []
  pub starts : t.starts ≡ []
  pub floors : t.floors ≡ []

-- what was visited stays so
abbrev pub StayVisited : List Visit → List Visit → Type 0
StayVisited old new = (x : ℕ) → visit_of new x ≡ Unvisited → visit_of old x ≡ Unvisited

-- a node steps onto the path, as a component of its own
abbrev pub entered : Graph → ℕ → Trail → Trail
entered g x t = record {
  visits = slice_set t.visits x (OnPath (length t.path));
  path = t.path ++ x ∷ [];
  work = t.work ++ heads g x;
  starts = t.starts ++ length t.path ∷ [];
  floors = t.floors ++ length t.work ∷ [];
  count = t.count;
}

-- the list without its last item
pub record IsPrefix (xs ys : List ℕ) : Type 0 where
  pub one : length xs + 1 ≡ length ys
  pub same : (i : ℕ) → i < length xs → at xs i ≡ at ys i

-- nodes of the path get a number: those from `start` on, before `end`
pub record AreNumberedFrom (old new : List Visit) (path : List ℕ) (start end c : ℕ) : Type 0 where
  pub sized : length new ≡ length old
  pub now : (q : ℕ) → start ≤ q → q < end → visit_of new (at path q) ≡ Numbered c
  pub others : (x : ℕ) → ((q : ℕ) → start ≤ q → q < end → at path q ≡ x → ⊥) → visit_of new x ≡ visit_of old x

-- these nodes get a number, and no others
pub record AreNumbered (old new : List Visit) (nodes : List ℕ) (c : ℕ) : Type 0 where
  pub sized : length new ≡ length old
  pub now : (x : ℕ) → IsIn x nodes → visit_of new x ≡ Numbered c
  pub others : (x : ℕ) → (IsIn x nodes → ⊥) → visit_of new x ≡ visit_of old x

abbrev pub number : Visit → ℕ
number Unvisited = 0
number (OnPath p) = 0
number (Numbered c) = c

-- one step of the search, or its end
abbrev pub Stepped : Graph → Bool → Trail → Trail → Type 0
Stepped g true old new = left g new < left g old
Stepped g false old new = length new.starts ≡ 0

abbrev pub AreVisits : List Visit → List ℕ → Type 0
AreVisits visits path = (q : ℕ) → q < length path → at path q < length visits

-- only `starts` and `floors` may differ
pub record HasSamePath (old new : Trail) : Type 0 where
  pub visits : new.visits ≡ old.visits
  pub path : new.path ≡ old.path
  pub work : new.work ≡ old.work
