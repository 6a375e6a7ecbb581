-- What one call of a reader does with its cursor.
use Rattle.std.specs.Prelude.{◌≡◌, ◌<◌, ◌≤◌, ℕ, length, Result, OnOk}
use Rattle.mz_base.specs.declared.stop.Stop.{Stop}
use Rattle.mz_grammar.specs.declared.cursor.Cursor.{Cursor}
use Rattle.mz_grammar.specs.RulesPromise.{Gives}
use Rattle.mz_grammar.specs.RulesReading.{Reader}

-- It answers what is read next, or why nothing is; on Ok it has gone over some tokens, and as many may be opened as before.
pub record Reads {X Y : Type 0} (view : X → Y) (read : ℕ → Reader Y) (old new : Cursor) (result : Result X Stop) : Type 0 where
  pub reads : Gives view new.end new.rest.now result (read old.room old.rest.now)
  pub room : OnOk result (new.room ≡ old.room)
  pub end : new.end ≡ old.end
  pub shorter : OnOk result (length new.rest.now < length old.rest.now)

-- The same of a reader that may go over no token.
pub record Passes {X Y : Type 0} (view : X → Y) (read : ℕ → Reader Y) (old new : Cursor) (result : Result X Stop) : Type 0 where
  pub reads : Gives view new.end new.rest.now result (read old.room old.rest.now)
  pub room : OnOk result (new.room ≡ old.room)
  pub end : new.end ≡ old.end
  pub shorter : OnOk result (length new.rest.now ≤ length old.rest.now)
