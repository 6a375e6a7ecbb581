use Rattle.std.proofs.Common.{ℕ, subst, sym, take}
use Rattle.std.specs.Str.{IsUtf8}
use Rattle.fz_items.proofs.NameBytes.{name_utf8}
use Rattle.fz_text_read.proofs.token.name.Goals as goal

pub returns-in-Err : goal.returns-in-Err
returns-in-Err c =
    let from = c.args.bytes.now in
    let P : ℕ → Type 0 = λ n. IsUtf8 (take n from) in
    absurd (c.in-Err.ensures.cases.0 (subst P (sym c.name_len-n.ensures.value) (name_utf8 from)))
