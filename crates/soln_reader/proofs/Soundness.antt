-- What a reader keeps of its own parts.
use Rattle.std.proofs.Common.{◌≡◌, ℕ, ◌<◌, ◌≤◌, ◌+◌, ◌-◌, ◌^◌, List, ◌++◌, length, drop, sym, arith, subst, Option, Result, Ok, Err}
use Rattle.std.specs.Prelude.{OnOk, OnErr}
use Rattle.std.proofs.lemmas.List.{length-append, length-drop}
use Rattle.mz_base.specs.declared.stop.Memory.{Memory}
use Rattle.mz_value.specs.declared.value.Shape.{Shape}
use Rattle.soln_reader.specs.Stream.{line_len}
use Rattle.fz_items.specs.Tables.{Table}
use Rattle.soln_reader.specs.StepsReader.{IsSound, FitsShapes}
use Rattle.soln_reader.proofs.LineLemmas.{len_grows}

-- after a piece was fed, or wasn't
pub feed_sound : (r : Result (Unit {0}) Memory) (ss : List Shape) (table : Option Table) (bytes more piece : List ℕ) (from start seen lines : ℕ) → IsSound ss table bytes from seen lines → OnOk r (drop start more ≡ drop from bytes ++ piece) → OnErr r (drop start more ≡ drop from bytes) → start ≤ length more → lines + length (drop from bytes) + length piece < 2 ^ 32 → IsSound ss table more start seen lines
feed_sound (Ok u) ss table bytes more piece from start seen lines h ok err within few = record {
  table_fits = h.table_fits;
  within = within;
  no_newline = let P : List ℕ → Type 0 = λ bs. seen ≤ line_len bs in subst P (sym ok) (omega (arith, h.no_newline, len_grows (drop from bytes) piece));
  few = let P : List ℕ → Type 0 = λ bs. lines + length bs < 2 ^ 32 in subst P (sym ok) (omega (arith, few, length-append (drop from bytes) piece));
}
feed_sound (Err e) ss table bytes more piece from start seen lines h ok err within few = record {
  table_fits = h.table_fits;
  within = within;
  no_newline = let P : List ℕ → Type 0 = λ bs. seen ≤ line_len bs in subst P (sym err) h.no_newline;
  few = let P : List ℕ → Type 0 = λ bs. lines + length bs < 2 ^ 32 in subst P (sym err) h.few;
}

-- after a walk
pub next_sound : (ss : List Shape) (table after : Option Table) (bytes cs : List ℕ) (from taken seen known lines last : ℕ) → IsSound ss table bytes from seen lines → FitsShapes ss after → cs ≡ drop from bytes → taken ≤ length cs → last + (length cs - taken) ≤ lines + length cs → known ≤ line_len (drop (from + taken) bytes) → IsSound ss after bytes (from + taken) known last
next_sound ss table after bytes cs from taken seen known lines last h fits is within few low =
    let P : List ℕ → Type 0 = λ ds. taken ≤ length ds in
    let Q : List ℕ → Type 0 = λ ds. last + (length ds - taken) ≤ lines + length ds in
    let w : taken ≤ length (drop from bytes) = subst P is within in
    let f : last + (length (drop from bytes) - taken) ≤ lines + length (drop from bytes) = subst Q is few in
    record {
      table_fits = fits;
      within = omega (arith, h.within, w, length-drop from bytes);
      no_newline = low;
      few = omega (arith, h.few, h.within, f, w, length-drop from bytes, length-drop (from + taken) bytes);
    }
