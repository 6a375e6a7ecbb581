-- Mentions by names of a table, and by texts.
use Rattle.std.proofs.Common.{◌≡◌, ◌<◌, ℕ, List, [], ◌∷◌, ◌++◌, length, map, Bool, true, false, cond, refl, sym, ap, subst, ◌∙◌, nat_eq, arith, fold, take, get_or, ◌+◌}
use Rattle.std.specs.Prelude.{All, ◌||◌}
use Rattle.std.specs.List.{list_any, flat_map}
use Rattle.std.specs.Str.{bytes_eq}
use Rattle.std.proofs.lemmas.List.{map-append, take_more}
use Rattle.std.proofs.lemmas.List.Sums.{fold-append}
use Rattle.std.proofs.lemmas.List.Elements.{All-push, All-weaker, All-head, All-tail}
use Rattle.std.proofs.lemmas.Slice.Eq.{bytes_eq-Decides}
use Rattle.std.proofs.lemmas.Bool.Decides.{nat_tests}
use Rattle.mz_base.specs.Names.{text_of, AreDistinct, Grows}
use Rattle.mz_include.specs.declared.queue.Mention.{Mention as CodeMention}
use Rattle.mz_tree.specs.declared.item.Item.{Item}
use Rattle.mz_tree.specs.Items.{ItemTree, item as tree_of}
use Rattle.mz_include.specs.Naming.{Mention, with_mention}
use Rattle.mz_include.specs.Views.{mention, IsKnown, with_code_mention}
use Rattle.mz_include.proofs.Later.{flat_map_push}

-- where the table has grown from old to new
module _ (old new : List (List ℕ)) (grows : Grows old new) where
  pub known_later : (m : CodeMention) → IsKnown old m → IsKnown new m
  known_later m known = record { name = (grows m.name known.name).0; owner = (grows m.owner known.owner).0 }

  pub all_known_later : (q : List CodeMention) → All (IsKnown old) q → All (IsKnown new) q
  all_known_later q known = All-weaker (IsKnown old) (IsKnown new) known_later q known

  pub mention_later : (m : CodeMention) → IsKnown old m → mention new m ≡ mention old m
  mention_later m known =
      ap (λ (t : List ℕ). let v : Mention = record { name = t; span = m.span; owner = text_of new m.owner } in v) (grows m.name known.name).1
      ∙ ap (λ (t : List ℕ). let v : Mention = record { name = text_of old m.name; span = m.span; owner = t } in v) (grows m.owner known.owner).1

  pub mentions_later : (q : List CodeMention) → All (IsKnown old) q → map (mention new) q ≡ map (mention old) q
  mentions_later [] known = refl
  mentions_later (m ∷ q) known =
      ap (λ v. v ∷ map (mention new) q) (mention_later m (All-head (IsKnown old) m q known))
      ∙ ap (λ vs. mention old m ∷ vs) (mentions_later q (All-tail (IsKnown old) m q known))

-- where each text of the table has one name
module _ (names : List (List ℕ)) (distinct : AreDistinct names) where
  same_test : (i j : ℕ) → i < length names → j < length names → bytes_eq (text_of names i) (text_of names j) ≡ nat_eq i j
  same_test i j below_i below_j = go (bytes_eq (text_of names i) (text_of names j)) refl
    where
      go : (b : Bool) → bytes_eq (text_of names i) (text_of names j) ≡ b → b ≡ nat_eq i j
      go true e = let same : i ≡ j = distinct i j below_i below_j ((bytes_eq-Decides (text_of names i) (text_of names j)).0 e) in grind (arith, nat_tests)
      go false e = differ (nat_eq i j) refl
        where
          differ : (c : Bool) → nat_eq i j ≡ c → false ≡ c
          differ false d = refl
          differ true d = let same : i ≡ j = grind (arith, nat_tests) in sym e ∙ (bytes_eq-Decides (text_of names i) (text_of names j)).1 (ap (text_of names) same)

  pub seen_by_name : (m : CodeMention) (q : List CodeMention) → m.name < length names → All (IsKnown names) q → list_any (λ (s : Mention). bytes_eq (text_of names m.name) s.name) (map (mention names) q) ≡ list_any (λ (s : CodeMention). nat_eq m.name s.name) q
  seen_by_name m [] below known = refl
  seen_by_name m (s ∷ q) below known =
      ap (λ b. b || list_any (λ (s : Mention). bytes_eq (text_of names m.name) s.name) (map (mention names) q)) (same_test m.name s.name below (All-head (IsKnown names) s q known).name)
      ∙ ap (λ b. nat_eq m.name s.name || b) (seen_by_name m q below (All-tail (IsKnown names) s q known))

  chosen : (b : Bool) (q : List CodeMention) (m : CodeMention) → map (mention names) (cond b q (q ++ m ∷ [])) ≡ cond b (map (mention names) q) (map (mention names) q ++ mention names m ∷ [])
  chosen true q m = refl
  chosen false q m = map-append (mention names) q (m ∷ [])

  -- a mention that is put into the queue is put among the texts
  pub put_by_name : (q : List CodeMention) (m : CodeMention) → m.name < length names → All (IsKnown names) q → map (mention names) (with_code_mention q m) ≡ with_mention (map (mention names) q) (mention names m)
  unfolding with_code_mention with_mention
  put_by_name q m below known =
      chosen (list_any (λ (s : CodeMention). nat_eq m.name s.name) q) q m
      ∙ ap (λ b. cond b (map (mention names) q) (map (mention names) q ++ mention names m ∷ [])) (sym (seen_by_name m q below known))

known_chosen : (names : List (List ℕ)) (b : Bool) (q : List CodeMention) (m : CodeMention) → All (IsKnown names) q → IsKnown names m → All (IsKnown names) (cond b q (q ++ m ∷ []))
known_chosen names true q m known k = known
known_chosen names false q m known k = All-push (IsKnown names) q m known k

pub known_with : (names : List (List ℕ)) (q : List CodeMention) (m : CodeMention) → All (IsKnown names) q → IsKnown names m → All (IsKnown names) (with_code_mention q m)
unfolding with_code_mention
known_with names q m known k = known_chosen names (list_any (λ (s : CodeMention). nat_eq m.name s.name) q) q m known k

-- a file that is named is put among the texts, where the table has got its name
pub noted : (old new : List (List ℕ)) (q later : List CodeMention) (m : CodeMention) (path : List ℕ) → Grows old new → AreDistinct new → All (IsKnown old) q → m.name < length new → m.owner < length old → text_of new m.name ≡ path
    → later ≡ with_code_mention q m → map (mention new) later ≡ with_mention (map (mention old) q) (record { name = path; span = m.span; owner = text_of old m.owner })
noted old new q later m path grows distinct known below owner named put =
    ap (map (mention new)) put ∙ put_by_name new distinct q m below (all_known_later old new grows q known)
    ∙ ap (λ ms. with_mention ms (mention new m)) (mentions_later old new grows q known)
    ∙ ap (λ (t : List ℕ). with_mention (map (mention old) q) (let v : Mention = record { name = t; span = m.span; owner = text_of new m.owner } in v)) named
    ∙ ap (λ (t : List ℕ). with_mention (map (mention old) q) (let v : Mention = record { name = path; span = m.span; owner = t } in v)) (grows m.owner owner).1

pub known_put : (old new : List (List ℕ)) (q later : List CodeMention) (m : CodeMention) → Grows old new → All (IsKnown old) q → m.name < length new → m.owner < length old → later ≡ with_code_mention q m → All (IsKnown new) later
known_put old new q later m grows known below owner put =
    subst (All (IsKnown new)) (sym put) (known_with new q m (all_known_later old new grows q known) (record { name = below; owner = (grows m.owner owner).0 }))

-- one item more
pub noted_items : (start : List Mention) (f : ItemTree → List Mention) (items : List Item) (k : ℕ) (i : Item) (before after : List Mention) → k < length items → i ≡ get_or items k i
    → before ≡ fold with_mention start (flat_map f (map tree_of (take k items))) → after ≡ fold with_mention before (f (tree_of i))
    → after ≡ fold with_mention start (flat_map f (map tree_of (take (k + 1) items)))
noted_items start f items k i before after below is so_far one =
    one ∙ ap (λ b. fold with_mention b (f (tree_of i))) so_far
    ∙ sym (fold-append with_mention start (flat_map f (map tree_of (take k items))) (f (tree_of i)))
    ∙ ap (fold with_mention start) (sym (flat_map_push f (map tree_of (take k items)) (tree_of i)) ∙ ap (flat_map f) (sym (map-append tree_of (take k items) (i ∷ [])) ∙ ap (map tree_of) (sym (take_more items k i below ∙ ap (λ j. take k items ++ j ∷ []) (sym is)))))
