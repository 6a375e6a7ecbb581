-- What comes first, from the language's own words.
use Rattle.std.proofs.Common.{◌≡◌, ℕ, suc, ◌+◌, ◌-◌, ◌<◌, ◌≤◌, List, [], ◌∷◌, ◌++◌, length, take, drop, Bool, true, false, ◌&&◌, not, cond, refl, sym, ap, subst, ◌∙◌, inl, inr, arith, append_assoc, length-append}
use Rattle.std.specs.Prelude.{Option, Some, nat_eq, nat_le, pos}
use Rattle.std.specs.Option.{option_map}
use Rattle.std.specs.List.{prefix_len, list_all}
use Rattle.std.specs.Str.{IsUtf8}
use Rattle.std.specs.Str.Lossy.{utf8_valid_len}
use Rattle.std.proofs.Math.Seq.{take-append-add}
use Rattle.std.proofs.Math.Numerals.{one-add}
use Rattle.std.proofs.lemmas.List.{take_at, drop_at, take_all, take-append-le}
use Rattle.std.proofs.lemmas.Str.{IsUtf8-nil, IsUtf8-drop, IsCharBoundary-from_take, utf8_valid_len-IsValidUpTo}
use Rattle.std.proofs.lemmas.Bool.{cases_lt, and_parts}
use Rattle.std.proofs.lemmas.Bool.Decides.{nat_tests, Decides-eqb}
use Rattle.mz_base.specs.declared.kind.Kind.{Kind}
use Rattle.mz_base.specs.declared.kind.Kind.TheVariants.{Lexical, LeftOut, Bounds}
use Rattle.mz_lexer.specs.Bytes.{first_byte, second_byte, is_blank, is_newline}
use Rattle.mz_base.specs.Words.{is_digit}
use Rattle.mz_lexer.specs.Numbers.{limit}
use Rattle.mz_lexer.specs.Texts.{is_plain, is_escape, content_len, content_from, meaning}
use Rattle.mz_lexer.specs.Lexemes as lx
use Rattle.mz_lexer.specs.Steps as steps
use Rattle.mz_lexer.specs.Lexemes.{Lexeme}
use Rattle.mz_lexer.specs.Steps.{Prefix, prefix_of, piece_prefix, piece_end, comment_len, comment_of, ends_comment}
use Rattle.mz_lexer.specs.Lexes.{Means, nothing, a_byte, an_escape, IsContent, Spells, EndsFirst, opens_piece, NothingBegins, IsStuck, at_the_end, at_newline, at_backslash, at_no_character, IsLineEnd}
use Rattle.mz_base.proofs.Choices.{pick}
use Rattle.mz_lexer.proofs.Prefixes.{Covers, by_token, by_left_out, covers, raw_prefix, number_raw, raw_is_prefix, raw_is_number, prefix_is_number, prefix_is_blank, prefix_is_line, prefix_is_comment, prefix_is_text, prefix_is_later, piece_up_to, content_of}
use Rattle.mz_lexer.proofs.LeftOuts.{left_prefix}
use Rattle.mz_lexer.proofs.Cuts.{prefix_content}
use Rattle.mz_lexer.proofs.Meanings.{byte_utf8}
use Rattle.mz_lexer.proofs.Shapes.{NumberShape, a_literal, no_literal, number_shape, limited, number_is_limited, piece_parts}

-- what comes first, with the number of a literal past the limit
pub data IsRaw (later : Bool) (bs : List ℕ) (f : Prefix) : Type 0 where
  raw_same : raw_prefix later bs ≡ f → IsRaw later bs f
  raw_past : (m z : ℕ) → raw_prefix later bs ≡ steps.token (lx.int (pos z)) m → f ≡ steps.refusal Bounds 0 → IsRaw later bs f

raw_literal : (later : Bool) (bs : List ℕ) (f g : Prefix) → raw_prefix later bs ≡ g → NumberShape bs g → limited g ≡ f → IsRaw later bs f
raw_literal later bs f g raw (a_literal {z = z} {m = m} spells le) e = go (nat_le z limit) e
  where
    go : (t : Bool) → cond t (steps.token (lx.int (pos z)) m) (steps.refusal Bounds 0) ≡ f → IsRaw later bs f
    go true h = raw_same (raw ∙ h)
    go false h = raw_past m z raw (sym h)
raw_literal later bs f g raw (no_literal is) e = raw_same (raw ∙ e)

pub raw_of : (later : Bool) (bs : List ℕ) (f : Prefix) → prefix_of later bs ≡ f → IsRaw later bs f
raw_of later bs f e = go (is_digit (first_byte bs)) refl
  where
    go : (t : Bool) → is_digit (first_byte bs) ≡ t → IsRaw later bs f
    go true is = raw_literal later bs f (number_raw bs) (raw_is_number later bs is) (number_shape bs is) (sym (number_is_limited bs) ∙ sym (prefix_is_number later bs is) ∙ e)
    go false isnt = raw_same (raw_is_prefix later bs isnt ∙ e)

-- a token that begins here, where a token comes first
pub record IsShorter (v : List ℕ) (y x : Lexeme) (m : ℕ) : Type 0 where
  pub le : length v ≤ m
  pub same : length v ≡ m → y ≡ x

covered_at : {v : List ℕ} {y x : Lexeme} {m : ℕ} (f : Prefix) → Covers v y f → f ≡ steps.token x m → IsShorter v y x m
covered_at f (by_token le same) e = record { le = omega (arith, le, length_of e); same = λ h. same (h ∙ sym (length_of e)) ∙ lexeme_of e }
  where
    length_of : {x y : Lexeme} {m n : ℕ} → steps.token x m ≡ steps.token y n → m ≡ n
    length_of h = cc

    lexeme_of : {x y : Lexeme} {m n : ℕ} → steps.token x m ≡ steps.token y n → x ≡ y
    lexeme_of h = cc
covered_at f by_left_out e = cc

pub shorter : {later : Bool} {v : List ℕ} {y x : Lexeme} {m : ℕ} → Spells later v y → (behind bs : List ℕ) → v ++ behind ≡ bs → raw_prefix later bs ≡ steps.token x m → IsShorter v y x m
shorter {later = later} spells behind bs split raw = covered_at _ (covers spells behind) (ap (raw_prefix later) split ∙ raw)

covers_no_gap : {v : List ℕ} {y : Lexeme} {n : ℕ} (f : Prefix) → Covers v y f → f ≡ steps.gap n → ⊥
covers_no_gap f (by_token le same) e = cc
covers_no_gap f by_left_out e = cc

covers_no_lexical : {v : List ℕ} {y : Lexeme} {n : ℕ} (f : Prefix) → Covers v y f → f ≡ steps.refusal Lexical n → ⊥
covers_no_lexical f (by_token le same) e = cc
covers_no_lexical f by_left_out e = cc

-- no token begins where a blank or a comment does, or a text is stuck
pub no_gap : {later : Bool} {v : List ℕ} {y : Lexeme} {n : ℕ} → Spells later v y → (behind bs : List ℕ) → v ++ behind ≡ bs → prefix_of later bs ≡ steps.gap n → ⊥
no_gap {later = later} {n = n} spells behind bs split e = elim (raw_of later bs (steps.gap n) e) [
  | raw_same raw ↦ covers_no_gap _ (covers spells behind) (ap (raw_prefix later) split ∙ raw)
  | raw_past m z raw past ↦ cc
]

pub no_lexical : {later : Bool} {v : List ℕ} {y : Lexeme} {n : ℕ} → Spells later v y → (behind bs : List ℕ) → v ++ behind ≡ bs → prefix_of later bs ≡ steps.refusal Lexical n → ⊥
no_lexical {later = later} {n = n} spells behind bs split e = elim (raw_of later bs (steps.refusal Lexical n) e) [
  | raw_same raw ↦ covers_no_lexical _ (covers spells behind) (ap (raw_prefix later) split ∙ raw)
  | raw_past m z raw past ↦ cc
]

pub raw_token : (later : Bool) (bs : List ℕ) (x : Lexeme) (m : ℕ) → prefix_of later bs ≡ steps.token x m → raw_prefix later bs ≡ steps.token x m
raw_token later bs x m e = elim (raw_of later bs (steps.token x m) e) [ raw_same raw ↦ raw | raw_past k z raw past ↦ cc ]

pub line_end : (bs : List ℕ) → IsLineEnd (drop (prefix_len (λ b. not (is_newline b)) bs) bs)
line_end [] = tt
line_end (b ∷ bs) = go (is_newline b) refl (line_end bs)
  where
    go : (t : Bool) → is_newline b ≡ t → IsLineEnd (drop (prefix_len (λ x. not (is_newline x)) bs) bs) → IsLineEnd (drop (cond (not t) (1 + prefix_len (λ x. not (is_newline x)) bs) 0) (b ∷ bs))
    go true is rest = is
    go false isnt rest = rw one-add rest

pub line_run : (c bs : List ℕ) → list_all (λ b. not (is_newline b)) c ≡ true → IsLineEnd bs → prefix_len (λ b. not (is_newline b)) (c ++ bs) ≡ length c
line_run [] [] all end = refl
line_run [] (b ∷ bs) all end = rw end refl
line_run (b ∷ c) bs all end =
    let parts = and_parts (not (is_newline b)) (list_all (λ x. not (is_newline x)) c) all in
    ap (λ t. cond t (1 + prefix_len (λ x. not (is_newline x)) (c ++ bs)) 0) parts.0 ∙ omega (arith, line_run c bs parts.1 end)

-- comments
comment_cons : (b : ℕ) (bs : List ℕ) → comment_len (b ∷ bs) ≡ cond (ends_comment (b ∷ bs)) (Some 2) (option_map suc (comment_len bs))
unfolding comment_len
comment_cons b bs = refl

behind_first : (b : ℕ) (c : List ℕ) → EndsFirst (b ∷ c) → EndsFirst c
behind_first b c first v behind e = let h = first (b ∷ v) behind (ap (λ us. b ∷ us) e) in omega (arith, h)

no_end_yet : (b : ℕ) (c rest : List ℕ) → EndsFirst (b ∷ c) → ends_comment (b ∷ (c ++ 42 ∷ 47 ∷ rest)) ≡ false
no_end_yet b [] rest first = and_false (nat_eq b 42)
  where
    and_false : (t : Bool) → (t && false) ≡ false
    and_false true = refl
    and_false false = refl
no_end_yet b (d ∷ c) rest first = go (nat_eq b 42) (nat_eq d 47) refl refl
  where
    go : (t u : Bool) → nat_eq b 42 ≡ t → nat_eq d 47 ≡ u → (t && u) ≡ false
    go true true e f =
        let same : 42 ∷ 47 ∷ (c ++ 42 ∷ 47 ∷ []) ≡ b ∷ d ∷ (c ++ 42 ∷ 47 ∷ []) = sym (ap (λ x. x ∷ d ∷ (c ++ 42 ∷ 47 ∷ [])) ((Decides-eqb b 42).0 e) ∙ ap (λ x. 42 ∷ x ∷ (c ++ 42 ∷ 47 ∷ [])) ((Decides-eqb d 47).0 f)) in
        let h = first [] (c ++ 42 ∷ 47 ∷ []) same in absurd (omega (arith, h))
    go true false e f = refl
    go false u e f = refl

pub comment_exact : (c rest : List ℕ) → EndsFirst c → comment_len (c ++ 42 ∷ 47 ∷ rest) ≡ Some (length c + 2)
comment_exact [] rest first = comment_cons 42 (47 ∷ rest)
comment_exact (b ∷ c) rest first =
    comment_cons b (c ++ 42 ∷ 47 ∷ rest) ∙ ap (λ t. cond t (Some 2) (option_map suc (comment_len (c ++ 42 ∷ 47 ∷ rest)))) (no_end_yet b c rest first)
    ∙ ap (option_map suc) (comment_exact c rest (behind_first b c first)) ∙ ap Some (omega arith)

-- some end is found, wherever it is
pub data HasEnd : Option ℕ → Type 0 where
  has_end : (n : ℕ) → HasEnd (Some n)

one_later : (o : Option ℕ) → HasEnd o → HasEnd (option_map suc o)
one_later o (has_end n) = has_end (suc n)

pub comment_found : (c rest : List ℕ) → HasEnd (comment_len (c ++ 42 ∷ 47 ∷ rest))
comment_found [] rest = subst HasEnd (sym (comment_cons 42 (47 ∷ rest))) (has_end 2)
comment_found (b ∷ c) rest = subst HasEnd (sym (comment_cons b (c ++ 42 ∷ 47 ∷ rest))) (pick HasEnd (ends_comment (b ∷ (c ++ 42 ∷ 47 ∷ rest))) _ _ (λ _. has_end 2) (λ _. one_later _ (comment_found c rest)))

-- pieces of texts
joined : {a b u v : List ℕ} → Means a u → Means b v → Means (a ++ b) (u ++ v)
joined nothing m = m
joined (a_byte plain l) m = a_byte plain (joined l m)
joined (an_escape escape l) m = an_escape escape (joined l m)

utf8_behind : (c d : List ℕ) → IsUtf8 c → IsUtf8 (c ++ d) → IsUtf8 d
utf8_behind c d u w =
    let boundary = IsCharBoundary-from_take (c ++ d) (length c) w (omega (arith, length-append c d)) (subst IsUtf8 (sym (take_at c d (length c) refl)) u) in
    subst IsUtf8 (drop_at c d (length c) refl) (IsUtf8-drop (c ++ d) (length c) w boundary)

-- no prefix of what goes on with a content is UTF-8
no_prefix : (a r : List ℕ) → ((n : ℕ) → 0 < n → IsUtf8 (take n (a ++ r)) → ⊥) → (n : ℕ) → 0 < n → 0 < length a → IsUtf8 (take n a) → ⊥
no_prefix a r none n some long u = elim (cases_lt (length a) n) [
  | inl past ↦ none (length a) long (subst IsUtf8 (take_all n a (omega (arith, past)) ∙ sym (take_at a r (length a) refl)) u)
  | inr within ↦ none n some (subst IsUtf8 (sym (take-append-le n a r within)) u)
]

valid_up_to : (c a r : List ℕ) → IsUtf8 c → ((n : ℕ) → 0 < n → IsUtf8 (take n (a ++ r)) → ⊥) → 0 < length a → utf8_valid_len (c ++ a) ≡ length c
valid_up_to c a r u none long = utf8_valid_len-IsValidUpTo (c ++ a) (length c) (record {
  short = omega (arith, length-append c a);
  front = subst IsUtf8 (sym (take_at c a (length c) refl)) u;
  longest = λ m more w.
      let same : m ≡ length c + (m - length c) = omega arith in
      no_prefix a r none (m - length c) (omega arith) long (utf8_behind c (take (m - length c) a) u (subst IsUtf8 (ap (λ (k : ℕ). take k (c ++ a)) same ∙ take-append-add c a (m - length c)) w));
})

first_high : (b : ℕ) (bs : List ℕ) → ((n : ℕ) → 0 < n → IsUtf8 (take n (b ∷ bs)) → ⊥) → 128 ≤ b
first_high b bs none = elim (cases_lt b 128) [ inl low ↦ absurd (none 1 (omega arith) (byte_utf8 b low)) | inr high ↦ high ]

plain_first : (b : ℕ) → 128 ≤ b → is_plain b ≡ true
plain_first b high = grind (arith, nat_tests)

plain_cons : (b : ℕ) (bs : List ℕ) → is_plain b ≡ true → content_from false (b ∷ bs) ≡ suc (content_from false bs)
unfolding content_from
plain_cons b bs is = rw is refl

not_whole : (n m : ℕ) → n < m → nat_eq n m ≡ false
not_whole n m less = grind (arith, nat_tests)

no_character_exact : (later : Bool) (c v bs : List ℕ) → IsContent c v → ((n : ℕ) → 0 < n → IsUtf8 (take n bs) → ⊥) → piece_prefix later (c ++ bs) ≡ steps.refusal Lexical (length c + 1)
no_character_exact later c v [] is none = absurd (none 1 (omega arith) IsUtf8-nil)
no_character_exact later c v (b ∷ bs) is none =
    let f = prefix_content (b ∷ bs) in
    let long : 0 < length f.content = omega (arith, f.len, plain_cons b bs (plain_first b (first_high b bs none))) in
    let all : List ℕ = c ++ f.content in
    let split : c ++ (b ∷ bs) ≡ all ++ f.rest = ap (λ us. c ++ us) f.split ∙ sym (append_assoc c f.content f.rest) in
    let len : content_len (all ++ f.rest) ≡ length all = content_of (joined is.means f.means) f.rest f.stops in
    let valid : utf8_valid_len all ≡ length c = valid_up_to c f.content f.rest is.utf8 (λ n some u. none n some (subst (λ us. IsUtf8 (take n us)) (sym f.split) u)) long in
    let isnt : nat_eq (utf8_valid_len all) (length all) ≡ false = not_whole _ _ (omega (arith, valid, length-append c f.content, long)) in
    ap (piece_prefix later) split ∙ piece_parts later all f.rest len ∙ rw isnt (ap (λ (n : ℕ). steps.refusal Lexical (n + 1)) valid)

stops_end : content_from false [] ≡ 0
unfolding content_from
stops_end = refl

stops_newline : (bs : List ℕ) → content_from false (10 ∷ bs) ≡ 0
unfolding content_from
stops_newline bs = refl

stops_backslash : (bs : List ℕ) → is_escape (first_byte bs) ≡ false → content_from false (92 ∷ bs) ≡ 0
unfolding content_from
stops_backslash bs isnt = rw isnt refl

backslash_end : (later : Bool) (v : List ℕ) (n : ℕ) (bs : List ℕ) → nat_eq (first_byte bs) 40 ≡ false → piece_end later v n (92 ∷ bs) ≡ steps.refusal Lexical (n + 1)
backslash_end later v n bs isnt = rw isnt refl

-- a stuck text is a fault there
pub stuck_exact : (later : Bool) (c v bs : List ℕ) → IsContent c v → IsStuck bs → piece_prefix later (c ++ bs) ≡ steps.refusal Lexical (length c + 1)
stuck_exact later c v bs is at_the_end = piece_up_to later c v [] is stops_end
stuck_exact later c v bs is (at_newline us) = piece_up_to later c v (10 ∷ us) is (stops_newline us)
stuck_exact later c v bs is (at_backslash us isnt no_inner) = piece_up_to later c v (92 ∷ us) is (stops_backslash us isnt) ∙ backslash_end later v (length c) us no_inner
stuck_exact later c v bs is (at_no_character none) = no_character_exact later c v bs is none

piece_byte : (later : Bool) (b : ℕ) (bs : List ℕ) (f : Prefix) → opens_piece later b ≡ true → ((opened : Bool) → piece_prefix opened bs ≡ f) → prefix_of later (b ∷ bs) ≡ f
piece_byte later b bs f opens is = go (nat_eq b 34) refl
  where
    at_quote : nat_eq b 34 ≡ true → prefix_of later (b ∷ bs) ≡ f
    at_quote e = ap (λ x. prefix_of later (x ∷ bs)) ((Decides-eqb b 34).0 e) ∙ prefix_is_text later bs ∙ is false

    at_later : (l : Bool) → later ≡ l → (l && nat_eq b 41) ≡ true → prefix_of later (b ∷ bs) ≡ f
    at_later true e h = ap (λ l. prefix_of l (b ∷ bs)) e ∙ ap (λ x. prefix_of true (x ∷ bs)) ((Decides-eqb b 41).0 h) ∙ prefix_is_later bs ∙ is true
    at_later false e h = cc

    go : (t : Bool) → nat_eq b 34 ≡ t → prefix_of later (b ∷ bs) ≡ f
    go true e = at_quote e
    go false e = at_later later refl (second_opens (nat_eq b 34) e opens)
      where
        second_opens : (t : Bool) → t ≡ false → cond t true (later && nat_eq b 41) ≡ true → (later && nat_eq b 41) ≡ true
        second_opens true e' h = cc
        second_opens false e' h = h

pub stuck_prefix : (later : Bool) (b : ℕ) (c v bs : List ℕ) → opens_piece later b ≡ true → IsContent c v → IsStuck bs → prefix_of later (b ∷ (c ++ bs)) ≡ steps.refusal Lexical (length c + 1)
stuck_prefix later b c v bs opens is st = piece_byte later b (c ++ bs) _ opens (λ opened. stuck_exact opened c v bs is st)

-- no piece of a text is a fault at its own first byte
data IsBehind : Prefix → Type 0 where
  a_token : {x : Lexeme} {m : ℕ} → IsBehind (steps.token x m)
  a_fault : {k : Kind} {n : ℕ} → 0 < n → IsBehind (steps.refusal k n)

end_behind : (later : Bool) (v : List ℕ) (n : ℕ) (bs : List ℕ) → IsBehind (piece_end later v n bs)
end_behind later v n bs = pick IsBehind (nat_eq (first_byte bs) 34) _ _ (λ _. a_token) (λ _. pick IsBehind (nat_eq (first_byte bs) 92 && nat_eq (second_byte bs) 40) _ _ (λ _. a_token) (λ _. a_fault (omega arith)))

piece_behind : (later : Bool) (bs : List ℕ) → IsBehind (piece_prefix later bs)
unfolding piece_prefix
piece_behind later bs = pick IsBehind (nat_eq (utf8_valid_len (take (content_len bs) bs)) (content_len bs)) _ _ (λ _. end_behind later (meaning (take (content_len bs) bs)) (content_len bs) (drop (content_len bs) bs)) (λ _. a_fault (omega arith))

behind_not_first : (f : Prefix) → IsBehind f → f ≡ steps.refusal Lexical 0 → ⊥
behind_not_first f a_token e = cc
behind_not_first f (a_fault {n = n} some) e = let zero_is : n ≡ 0 = at_of e in absurd (omega arith)
  where
    at_of : {k l : Kind} {m n : ℕ} → steps.refusal k m ≡ steps.refusal l n → m ≡ n
    at_of h = cc

opens_behind : (later : Bool) (b : ℕ) (bs : List ℕ) → opens_piece later b ≡ true → IsBehind (prefix_of later (b ∷ bs))
opens_behind later b bs opens = go (nat_eq b 34) refl later refl
  where
    second_opens : (t : Bool) → t ≡ false → cond t true (later && nat_eq b 41) ≡ true → (later && nat_eq b 41) ≡ true
    second_opens true e' h = cc
    second_opens false e' h = h

    go : (t : Bool) → nat_eq b 34 ≡ t → (l : Bool) → later ≡ l → IsBehind (prefix_of later (b ∷ bs))
    go true e l is = subst IsBehind (sym (ap (λ x. prefix_of later (x ∷ bs)) ((Decides-eqb b 34).0 e) ∙ prefix_is_text later bs)) (piece_behind false bs)
    go false e true is = subst IsBehind (sym (ap (λ m. prefix_of m (b ∷ bs)) is ∙ ap (λ x. prefix_of true (x ∷ bs)) ((Decides-eqb b 41).0 (and_parts later (nat_eq b 41) (second_opens (nat_eq b 34) e opens)).1) ∙ prefix_is_later bs)) (piece_behind true bs)
    go false e false is = absurd (no_flag (sym is ∙ (and_parts later (nat_eq b 41) (second_opens (nat_eq b 34) e opens)).0))
      where
        no_flag : false ≡ true → ⊥
        no_flag h = cc

yes_or_no : (t : Bool) → (t ≡ true → ⊥) → t ≡ false
yes_or_no true h = absurd (h refl)
yes_or_no false h = refl

-- where nothing can begin, nothing does
pub nothing_there : (later : Bool) (b : ℕ) (bs : List ℕ) → prefix_of later (b ∷ bs) ≡ steps.refusal Lexical 0 → NothingBegins later (b ∷ bs)
nothing_there later b bs e = record {
  no_blank = yes_or_no (is_blank b) (λ is. gap_no (sym (prefix_is_blank later (b ∷ bs) is) ∙ e));
  no_line = yes_or_no (nat_eq b 37) (λ is. gap_no (sym (ap (λ x. prefix_of later (x ∷ bs)) ((Decides-eqb b 37).0 is) ∙ prefix_is_line later bs) ∙ e));
  no_comment = λ c behind split. comment_no (comment_len (c ++ 42 ∷ 47 ∷ behind)) (comment_found c behind) (sym (prefix_is_comment later (c ++ 42 ∷ 47 ∷ behind)) ∙ ap (λ us. prefix_of later (47 ∷ 42 ∷ us)) (sym (append_assoc c (42 ∷ 47 ∷ []) behind)) ∙ ap (prefix_of later) split ∙ e);
  no_piece = yes_or_no (opens_piece later b) (λ is. behind_not_first _ (opens_behind later b bs is) e);
  no_token = λ v behind x split spells. no_lexical spells behind (b ∷ bs) split e;
  no_left_out = λ l. kinds (sym (left_prefix l later) ∙ e);
}
  where
    gap_no : {n m : ℕ} {k : Kind} → steps.gap n ≡ steps.refusal k m → ⊥
    gap_no h = cc

    comment_no : (o : Option ℕ) → HasEnd o → comment_of o ≡ steps.refusal Lexical 0 → ⊥
    comment_no o (has_end n) h = cc

    kinds : {n m : ℕ} → steps.refusal LeftOut n ≡ steps.refusal Lexical m → ⊥
    kinds h = cc
