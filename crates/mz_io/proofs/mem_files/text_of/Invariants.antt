use Rattle.std.proofs.Common.{◌≡◌, map, string_bytes, drop}
use Rattle.mz_io.specs.MemFiles.{text_of}
use Rattle.mz_io.proofs.mem_files.text_of.Given as goal

-- no entry that was passed has the name
abbrev pub invariant-loop-key : goal.invariant-loop-key
invariant-loop-key l =
    text_of (map (λ e. (string_bytes e.0, e.1.items)) (drop l.key-index l.texts)) l.name
    ≡ text_of (map (λ e. (string_bytes e.0, e.1.items)) l.texts) l.name
