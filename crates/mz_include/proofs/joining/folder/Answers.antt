use Rattle.std.proofs.Common.{◌∙◌, arith}
use Rattle.std.specs.Prelude.{Some, None}
use Rattle.std.proofs.Math.Numerals.{add-one}
use Rattle.std.proofs.lemmas.Str.Pattern.{rfind_char}
use Rattle.mz_include.proofs.Folders.{no_folder, folder_at}
use Rattle.mz_include.proofs.joining.folder.Goals as goal

pub returns-in-Some : goal.returns-in-Some
returns-in-Some c =
    let at = rfind_char 47 c.args.name.now (Some c.in-Some.slash) c.in-Some.ensures.cases (omega arith) in
    c.split_at.ensures.front ∙ rw add-one (folder_at c.args.name.now c.in-Some.slash at.0 at.1 at.2)

pub returns-in-None : goal.returns-in-None
returns-in-None c = no_folder c.args.name.now (rfind_char 47 c.args.name.now None c.in-None.ensures.cases (omega arith))
