-- Mirror of src/walk.rt; private clauses only.
use Rattle.std.specs.Prelude.{◌≡◌, ℕ, ◌+◌, List, Bool, true, false, drop, map}
use Rattle.mz_value.specs.Contents.{content}
use Rattle.soln_reader.specs.declared.walk.Stop.{Stop}
use Rattle.soln_reader.specs.declared.walk.Walk.{Walk}
use Rattle.soln_reader.specs.declared.walk.Stop.TheVariants as stop
use Rattle.fz_items.specs.Forms.{Form}
use Rattle.soln_reader.specs.Blocks.{Block}
use Rattle.soln_reader.specs.Stream.{Place, block, mark, Outcome, gives, is_bad, Passes, has_line, after_line, line_outcome}

abbrev pub place_at : ℕ → Block → Place
place_at n b = record { lines = n; block = b }

-- lines pass up to a line with an outcome
pub record WalksTo (fs : List Form) (ended : Bool) (lines : ℕ) (b : Block) (bs : List ℕ) (o : Outcome) (last taken : ℕ) : Type 0 where
  pub before : Place
  pub from : List ℕ
  pub passed : Passes fs ended (place_at lines b) bs before from
  pub line : has_line ended from ≡ true
  pub outcome : line_outcome fs before.block from ≡ o
  pub counted : last ≡ before.lines + 1
  pub rest : drop taken bs ≡ after_line from

-- all whole lines pass
pub record WalksOver (fs : List Form) (ended : Bool) (lines : ℕ) (b : Block) (bs : List ℕ) (new : Block) (last taken : ℕ) : Type 0 where
  pub passed : Passes fs ended (place_at lines b) bs (place_at last new) (drop taken bs)

-- where a walk ends; the last parameter says what holds where memory ran out
abbrev pub Walks : List Form → Bool → ℕ → Block → List ℕ → Block → Stop → ℕ → ℕ → Type 0 → Type 0
Walks fs ended lines b bs new (stop.Solved a) last taken short = WalksTo fs ended lines b bs (gives (block (map content a.values.items))) last taken
Walks fs ended lines b bs new (stop.Marked m) last taken short = WalksTo fs ended lines b bs (gives (mark m)) last taken
Walks fs ended lines b bs new stop.Bad last taken short = WalksTo fs ended lines b bs is_bad last taken
Walks fs ended lines b bs new stop.NoLine last taken short = WalksOver fs ended lines b bs new last taken × (has_line ended (drop taken bs) ≡ false)
Walks fs ended lines b bs new stop.Memory last taken short = short

-- the same of a walk that the code took
abbrev pub Follows : List Form → Bool → ℕ → Block → List ℕ → Block → Walk → Type 0 → Type 0
Follows fs ended lines b bs new w short = Walks fs ended lines b bs new w.stop w.lines w.taken short

abbrev pub is_short : Stop → Bool
is_short stop.Memory = true
is_short _ = false

-- nothing is taken
abbrev pub Untouched : Block → Block → ℕ → ℕ → ℕ → Type 0
Untouched old new lines last taken = (new ≡ old) × (last ≡ lines) × (taken ≡ 0)

abbrev pub IsUntouched : Block → Block → ℕ → Walk → Type 0
IsUntouched old new lines w = Untouched old new lines w.lines w.taken
