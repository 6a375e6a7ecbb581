-- In a data file with room for three open tokens each fault is a fault of syntax: nothing nests deeper, and no form is left out.
use Rattle.std.proofs.Common.{◌≡◌, ℕ, zero, suc, ◌≤◌, List, true, false, Option, refl, arith}
use Rattle.std.specs.Prelude.{Some, None}
use Rattle.mz_lexer.specs.declared.token.Token.{Token}
use Rattle.mz_lexer.specs.declared.token.Tok.{Tok}
use Rattle.mz_base.specs.declared.fault.Span.{Span}
use Rattle.mz_grammar.specs.Rules as rules
use Rattle.mz_grammar.specs.Rules.{Reason, syntax, keeps, opens, give, refuse, leave_out, when, ahead, leave, part, Behind, kept, opened, Refuses, unfit, unwanted, one_too_many, one_name_too_many, behind_over, behind_skip, behind_find, behind_lack, behind_sight, behind_miss, behind_leave, within, beyond}
use Rattle.mz_grammar.specs.Data.{Place, Value, Told, Ruled, rule, file, item, datum, named, sized, index_sets, plains, rows, row, plain, range, set, bounds, ones, one}

-- how deep the tokens that a part opens are nested
unfoldable pub depth : Place → ℕ
depth (file d) = 3
depth (item d) = 3
depth (datum d) = 3
depth (named d n) = 3
depth (sized n) = 2
depth (index_sets n) = 1
depth plains = 1
depth rows = 1
depth row = 1
depth plain = 1
depth set = 1
depth _ = 0

-- behind a token, which may open something
abbrev Inside : rules.Opens → ℕ → (ℕ → Type 0) → Type 0
Inside keeps d rest = rest d
Inside opens zero rest = ⊥
Inside opens (suc d) rest = rest d

-- a rule opens at most this many, and leaves no form out
abbrev pub Opens : {n : Place} → ℕ → Ruled n → Type 0
Opens d (give x) = Unit {0}
Opens d refuse = Unit {0}
Opens d leave_out = ⊥
Opens d (when o b f q) = Inside o d (λ e. (s : Span) → Opens e (f s)) × Opens d q
Opens d (rules.named o c find f q) = Inside o d (λ e. (a : Told c) (s : Span) → Opens e (f a s)) × Opens d q
Opens d (ahead b p q) = Opens d p × Opens d q
Opens d (leave p) = Opens (suc d) p
Opens d (part m f) = (depth m ≤ d) × ((x : Value m) → Opens d (f x))

at_most : (n : Place) → Opens (depth n) (rule n)
unfolding rule depth
at_most (file d) = (tt, (omega arith, λ i. (tt, (λ s. (omega arith, λ is. tt), tt))))
at_most (item d) = (λ n s. (λ q. (omega arith, λ v. tt), tt), tt)
at_most (datum d) = (λ s. (omega arith, λ vs. tt), (λ s. (omega arith, λ ls. tt), (λ n s. (omega arith, λ v. tt), (omega arith, λ v. tt))))
at_most (named None n) = (tt, (omega arith, λ v. tt))
at_most (named (Some d) n) = (λ s. (omega arith, λ v. tt), (omega arith, λ v. tt))
at_most (sized n) = (omega arith, λ ss. (λ s. (omega arith, λ vs. (λ c. tt, tt)), tt))
at_most (index_sets zero) = (λ c. tt, tt)
at_most (index_sets (suc n)) = (omega arith, λ v. (λ c. (omega arith, λ vs. tt), tt))
at_most plains = (λ c. tt, (omega arith, λ v. (λ c. (omega arith, λ vs. tt), (λ c. tt, tt))))
at_most rows = (λ c. tt, (omega arith, λ l. (λ c. (omega arith, λ ls. tt), (λ c. tt, tt))))
at_most row = (omega arith, λ v. (λ c. (tt, (omega arith, λ vs. tt)), tt))
at_most plain = (λ s. (omega arith, λ vs. tt), (λ s. tt, (omega arith, λ v. (omega arith, λ w. tt))))
at_most (range v) = (λ d. (omega arith, λ w. tt), tt)
at_most set = (λ s. (omega arith, λ vs. tt), (omega arith, λ v. (omega arith, λ w. tt)))
at_most (bounds true v) = (λ d. (omega arith, λ w. tt), tt)
at_most (bounds false v) = (λ d. (omega arith, λ w. tt), tt)
at_most ones = (λ c. tt, (omega arith, λ v. (λ c. (omega arith, λ vs. tt), (λ c. tt, tt))))
at_most one = (λ s. (λ z t. tt, tt), (λ v s. tt, tt))

-- behind the token there is room for what may be opened there
inside : {o : rules.Opens} {q r : ℕ} (d : ℕ) (rest : ℕ → Type 0) → Behind o q r → Inside o d rest → d ≤ q → (e : ℕ) × (e ≤ r) × rest e
inside d rest kept h l = (d, l, h)
inside zero rest opened h l = absurd h
inside (suc d) rest opened h l = (d, omega arith, h)

all_syntax : {n : Place} {q : ℕ} {p : Ruled n} {us : List Token} {why : Reason} {next : Option Tok} → Refuses rule n q p us why next → (d : ℕ) → Opens d p → d ≤ q → why ≡ syntax
all_syntax unfit d h l = refl
all_syntax unwanted d h l = absurd h
all_syntax (one_too_many e) zero h l = absurd h.0
all_syntax (one_too_many e) (suc d) h l = absurd (omega arith)
all_syntax (one_name_too_many e) zero h l = absurd h.0
all_syntax (one_name_too_many e) (suc d) h l = absurd (omega arith)
all_syntax (behind_over {t = t} k e g) d h l = let i = inside d _ k h.0 l in all_syntax g i.0 (i.2 t.span) i.1
all_syntax (behind_skip e g) d h l = all_syntax g d h.1 l
all_syntax (behind_find {a = a} {t = t} k e g) d h l = let i = inside d _ k h.0 l in all_syntax g i.0 (i.2 a t.span) i.1
all_syntax (behind_lack e g) d h l = all_syntax g d h.1 l
all_syntax (behind_sight e g) d h l = all_syntax g d h.0 l
all_syntax (behind_miss e g) d h l = all_syntax g d h.1 l
all_syntax (behind_leave g) d h l = all_syntax g (suc d) h (omega arith)
all_syntax (within {m = m} g) d h l = all_syntax g (depth m) (at_most m) (omega (arith, h.0))
all_syntax (beyond us vs r g) d h l = all_syntax g d (h.1 _) l

depth_low : (n : Place) → depth n ≤ 3
unfolding depth
depth_low (file d) = omega arith
depth_low (item d) = omega arith
depth_low (datum d) = omega arith
depth_low (named d n) = omega arith
depth_low (sized n) = omega arith
depth_low (index_sets n) = omega arith
depth_low plains = omega arith
depth_low rows = omega arith
depth_low row = omega arith
depth_low plain = omega arith
depth_low (range v) = omega arith
depth_low set = omega arith
depth_low (bounds free v) = omega arith
depth_low ones = omega arith
depth_low one = omega arith

pub is_syntax : (n : Place) (q : ℕ) (us : List Token) (why : Reason) (next : Option Tok) → Refuses rule n q (rule n) us why next → 3 ≤ q → why ≡ syntax
is_syntax n q us why next h l = all_syntax h (depth n) (at_most n) (omega (arith, depth_low n))
