-- What was written behind the bytes of a file is held.
use Rattle.std.proofs.Common.{◌≡◌, ℕ, List, ◌++◌, length, take, drop, sym, ap, ◌∙◌, subst}
use Rattle.std.proofs.Math.Seq.{take-append_seam, drop-append_seam}
use Rattle.record_spec.specs.Base32.{digest_text}
use Rattle.record_spec.specs.Record.{IsResponseRecord}
use Rattle.crawl_facts.specs.Pages.{naming_at, spot_at}
use Rattle.crawl_facts.specs.Archives.{part}
use Rattle.crawl_facts.specs.Laws.{BehindIsHeld}

part_is : (file before bytes after : List ℕ) (at : ℕ) → file ≡ before ++ (bytes ++ after) → length before ≡ at → take (length bytes) (drop at file) ≡ bytes
part_is file before bytes after at cut place =
    let rest : drop at file ≡ bytes ++ after =
    ap (drop at) cut ∙ ap (λ n. drop n (before ++ (bytes ++ after))) (sym place) ∙ drop-append_seam before (bytes ++ after) in
    ap (take (length bytes)) rest ∙ take-append_seam bytes after

pub behind_is_held : BehindIsHeld
behind_is_held settings files a place before bytes after uri block payload start archive cut at address written =
    let same : part files (spot_at place (length bytes)) ≡ bytes = part_is (files place.file) before bytes after place.end cut at in
    let P : List ℕ → Type 0 = λ b. IsResponseRecord (naming_at settings place) uri start (digest_text payload) block b in
    archive (spot_at place (length bytes)) block (record { uri = uri; start = start; payload = payload; address = address; written = subst P (sym same) written })
