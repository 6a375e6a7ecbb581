-- The first line of some bytes, and of these with more bytes after them.
use Rattle.std.proofs.Common.{◌≡◌, ℕ, ◌<◌, ◌+◌, List, [], ◌∷◌, ◌++◌, length, Bool, true, false, refl, sym, ◌∙◌, arith, inl, inr}
use Rattle.std.proofs.lemmas.Bool.{false≢true}
use Rattle.std.proofs.lemmas.List.{length-append, length-drop}
use Rattle.fz_items.specs.Forms.{Form}
use Rattle.soln_reader.specs.Blocks.{Block}
use Rattle.soln_reader.specs.Stream.{Event, Outcome, leaves, gives, is_bad, line_len, line_limit, has_line, after_line, line_outcome, outcome}
use Rattle.soln_reader.proofs.LineLemmas.{last_line, long_outcome, long_line, ended_line, len_grows}
use Rattle.soln_reader.proofs.CutLemmas.{len_more, after_more, outcome_more, newline_or_bad, some_line}

-- outcomes are apart

pub leaves_not_bad : (b : Block) → leaves b ≡ is_bad → ⊥
leaves_not_bad b e = cc

pub gives_not_bad : (e : Event) → gives e ≡ is_bad → ⊥
gives_not_bad e h = cc

pub leaves_not_gives : (b : Block) (e : Event) → leaves b ≡ gives e → ⊥
leaves_not_gives b e h = cc

pub block_left : (b c : Block) → leaves b ≡ leaves c → b ≡ c
block_left b c e = cc

pub event_given : (d e : Event) → gives d ≡ gives e → d ≡ e
event_given d e h = cc

pub both : {A : Type 0} (t : Bool) → t ≡ true → t ≡ false → A
both t is isnt = absurd (false≢true (sym isnt ∙ is))

-- how much a line takes

pub line_takes : (ended : Bool) (bs : List ℕ) → has_line ended bs ≡ true → length (after_line bs) < length bs
line_takes ended bs h = omega (arith, some_line ended bs h, length-drop (line_len bs + 1) bs)

pub none_at_the_end : (bs : List ℕ) → has_line true bs ≡ false → bs ≡ []
none_at_the_end [] h = refl
none_at_the_end (c ∷ cs) h = both _ (last_line (c ∷ cs) (omega arith)) h

pub no_line_there : has_line true [] ≡ false
unfolding has_line
no_line_there = refl

pub no_line_yet : has_line false [] ≡ false
unfolding has_line
no_line_yet = refl

-- a line with its newline, and more bytes after it

-- a line that is there stays, and does what it does, whichever bytes come after it
pub record Begins (fs : List Form) (ended : Bool) (b : Block) (bs more : List ℕ) : Type 0 where
  pub line : has_line ended (bs ++ more) ≡ true
  pub outcome : line_outcome fs b (bs ++ more) ≡ line_outcome fs b bs

pub begins : (fs : List Form) (ended : Bool) (b : Block) (bs more : List ℕ) → has_line false bs ≡ true → Begins fs ended b bs more
begins fs ended b bs more line =
    elim (newline_or_bad fs b bs line) [
      | inl h ↦ record {
        line = ended_line ended (bs ++ more) (omega (arith, len_more bs more h, length-append bs more));
        outcome = outcome_more fs b bs more h;
      }
      | inr h ↦
          let long : line_limit < line_len (bs ++ more) = omega (arith, len_grows bs more) in
          record {
            line = long_line ended (bs ++ more) long;
            outcome = long_outcome fs b (bs ++ more) long ∙ sym (long_outcome fs b bs h);
          }
    ]

-- and where it isn't bad, the bytes after it stay too
pub rest_stays : (fs : List Form) (b : Block) (bs more : List ℕ) (o : Outcome) → has_line false bs ≡ true → line_outcome fs b bs ≡ o → (o ≡ is_bad → ⊥) → after_line (bs ++ more) ≡ after_line bs ++ more
rest_stays fs b bs more o line is good =
    elim (newline_or_bad fs b bs line) [
      | inl h ↦ after_more bs more h
      | inr h ↦ absurd (good (sym is ∙ long_outcome fs b bs h))
    ]
