-- Mirror of src/turns.rt; private clauses only.
use Rattle.std.specs.Prelude.{◌≡◌, ℕ, zero, suc, ◌+◌, ◌<◌, ◌≤◌, List, [], ◌∷◌, ◌++◌, ◌⊎◌, length, Bool, true, false, slice_index_or, Option, Some, None}
use Rattle.mz_graph.specs.Graph.{Graph, IsIn, heads, graph_of, Edge}
use Rattle.mz_graph.specs.Order.{IsReady, Continues}
use Rattle.mz_graph.specs.declared.turns.Turns.{Turns}

pub record Line : Type 0 where
  pub passed : List ℕ
  pub waiting : Graph
  pub done : List Bool
  pub ready : List ℕ
  pub order : List ℕ

abbrev pub line : Turns → Line
line t = record { passed = t.passed.items; waiting = graph_of t.waiting.items; done = t.done.items; ready = t.ready.keys; order = t.order.items }

abbrev pub is_done : List Bool → ℕ → Bool
is_done done x = slice_index_or done x false

abbrev pub passed_of : List ℕ → ℕ → ℕ
passed_of passed x = slice_index_or passed x 0

-- each table has a row for each node
pub record HasRows (n : ℕ) (l : Line) : Type 0 where
  pub passed : length l.passed ≡ n
  pub waiting : length l.waiting ≡ n
  pub done : length l.done ≡ n

-- x waits for y
pub record Waits (g : Graph) (order : List ℕ) (y x : ℕ) : Type 0 where
  pub edge : Edge g x y
  pub counted : x < length g
  pub still : IsIn y order → ⊥

pub record IsWaiting (waiting : Graph) (x : ℕ) : Type 0 where
  pub for : ℕ
  pub listed : IsIn x (heads waiting for)

pub record IsFlagged (n : ℕ) (done : List Bool) (x : ℕ) : Type 0 where
  pub counted : x < n
  pub flag : is_done done x ≡ true

pub record IsLeft (n : ℕ) (order : List ℕ) (x : ℕ) : Type 0 where
  pub counted : x < n
  pub remains : IsIn x order → ⊥

-- What holds between two turns, but that the nodes of `todo` have no place.
pub record Stands (g : Graph) (todo : List ℕ) (l : Line) : Type 0 where
  pub begins : (rest : List ℕ) → Continues (Edge g) (length g) l.order rest → Continues (Edge g) (length g) [] (l.order ++ rest)
  pub flags : (x : ℕ) → is_done l.done x ≡ true → IsIn x l.order
  pub flagged : (x : ℕ) → IsIn x l.order → IsFlagged (length g) l.done x
  pub served : (x y : ℕ) → IsIn x l.order → Edge g x y → IsIn y l.order
  pub ready : (x : ℕ) → IsIn x l.ready → IsReady (Edge g) (length g) l.order x
  pub waits : (y x : ℕ) → IsIn x (heads l.waiting y) → Waits g l.order y x
  pub known : (x k : ℕ) → k < passed_of l.passed x → IsIn (slice_index_or (heads g x) k 0) l.order
  pub left : (x : ℕ) → IsIn x todo → IsLeft (length g) l.order x
  pub placed : (x : ℕ) → x < length g → ((IsIn x l.order ⊎ IsIn x l.ready) ⊎ (IsIn x todo ⊎ IsWaiting l.waiting x))

-- the first head from a place on that had no turn
pub record IsPending (hs : List ℕ) (done : List Bool) (from k : ℕ) : Type 0 where
  pub later : from ≤ k
  pub within : k < length hs
  pub before : (j : ℕ) → from ≤ j → j < k → is_done done (slice_index_or hs j 0) ≡ true
  pub is_open : is_done done (slice_index_or hs k 0) ≡ false

abbrev pub AreDone : List ℕ → List Bool → ℕ → Type 0
AreDone hs done from = (j : ℕ) → from ≤ j → j < length hs → is_done done (slice_index_or hs j 0) ≡ true

abbrev pub IsFirstPending : List ℕ → List Bool → ℕ → Option ℕ → Type 0
IsFirstPending hs done from (Some k) = IsPending hs done from k
IsFirstPending hs done from None = AreDone hs done from

-- how many had no turn
abbrev pub open_turns : List Bool → ℕ
open_turns [] = 0
open_turns (true ∷ bs) = open_turns bs
open_turns (false ∷ bs) = 1 + open_turns bs

-- n numbers, from x on
abbrev pub from_on : ℕ → ℕ → List ℕ
from_on x zero = []
from_on x (suc n) = x ∷ from_on (x + 1) n

abbrev pub AreBelow : ℕ → List ℕ → Type 0
AreBelow n xs = (x : ℕ) → IsIn x xs → x < n

-- one turn was taken, or none was ready
abbrev pub Turned : Bool → Line → Line → Type 0
Turned true old new = open_turns new.done < open_turns old.done
Turned false old new = new.ready ≡ []

-- nothing has a place
pub record IsNew (n : ℕ) (l : Line) : Type 0 where
  pub passed : (x : ℕ) → passed_of l.passed x ≡ 0
  pub waiting : (x : ℕ) → heads l.waiting x ≡ []
  pub done : (x : ℕ) → is_done l.done x ≡ false
  pub ready : l.ready ≡ []
  pub order : l.order ≡ []
