use Rattle.std.proofs.Common.{◌≡◌, List, ℕ, true, ◌∙◌, sym, subst}
use Rattle.page_spec.specs.Fields.{is_media}
use Rattle.http_message.proofs.MediaText.{media_fits, media_utf8}
use Rattle.http_message.proofs.media.media_in.Goals as goal

pub keep-requires-in-Ok : goal.keep-requires-in-Ok
keep-requires-in-Ok c =
    let text : List ℕ = c.as_slice-2.result.now in
    let P : List ℕ → Type 0 = λ m. is_media m ≡ true in
    let media : is_media text ≡ true = subst P (c.as_slice.ensures.value ∙ sym c.as_slice-2.ensures.value) (sym c.is_media.ensures ∙ c.if-not-is_media.false) in
    rw c.in-Ok.ensures.cases.0 (media_fits text media)

pub unreachable-requires : goal.unreachable-requires
unreachable-requires c =
    let text : List ℕ = c.as_slice-2.result.now in
    let P : List ℕ → Type 0 = λ m. is_media m ≡ true in
    let media : is_media text ≡ true = subst P (c.as_slice.ensures.value ∙ sym c.as_slice-2.ensures.value) (sym c.is_media.ensures ∙ c.if-not-is_media.false) in
    c.in-Err.ensures.cases.0 (media_utf8 text media)
