-- The links of a robots file.
use Rattle.std.proofs.Common.{◌≡◌, inl, inr, ℕ, Bool, true, false, List, [], ◌∷◌, refl, sym, ◌∙◌, ap, subst}
use Rattle.std.specs.Prelude.{All, find}
use Rattle.std.proofs.lemmas.Bool.{cases_Bool}
use Rattle.std.proofs.lemmas.List.Elements.{All-cons, All-head, All-nil, All-tail}
use Rattle.crawl_kinds.specs.declared.item.Item.{Item}
use Rattle.crawl_history.specs.Outcomes.{is_prerequisite}
use Rattle.extract_spec.specs.Joining.{IsLink}
use Rattle.extract_spec.specs.Links.{is_redirection, links_of}
use Rattle.extract_spec.specs.declared.found.Found.{Found}
use Rattle.http_message.specs.declared.front.Reply.{Reply}
use Rattle.httparse.specs.Grammar.{ResponseHead, status_code}
use Rattle.link_extract.specs.Words.{HasAddress, HasLetter}
use Rattle.page_spec.specs.Response.{fields_of, IsHead}
use Rattle.process_chains.specs.Done.{AreLinks, alone, is_redirect}
use Rattle.process_chains.proofs.Drafting.{clash}

-- what holds of each holds of the one that is found
found_all : (P : Found → Type 0) (test : Found → Bool) (xs : List Found) → All P xs → All P (alone (find test xs))
found_all P test [] all = all
found_all P test (x ∷ xs) all = elim (cases_Bool (test x)) [
  | inl hit ↦ rw hit (All-cons P x [] (All-head P x xs all) (All-nil P))
  | inr miss ↦ rw miss (found_all P test xs (All-tail P x xs all))
]

-- and it is found again
found_again : (test : Found → Bool) (xs : List Found) → find test (alone (find test xs)) ≡ find test xs
found_again test [] = refl
found_again test (x ∷ xs) = elim (cases_Bool (test x)) [
  | inl hit ↦ rw (hit, hit) refl
  | inr miss ↦ rw miss (found_again test xs)
]

both_of : (links : List Found) → All HasAddress links → All HasLetter links → All IsLink links
both_of links addresses letters = λ k d inside. record { letter = letters k d inside; address = addresses k d inside }

module _ (item : Item) (reply : Reply) (links : List Found)
    (same : (h : ResponseHead) (payload : List ℕ) → IsHead reply.block h payload → links ≡ links_of item.uri (status_code h) (fields_of h) payload)
    (addresses : All HasAddress links) (letters : All HasLetter links) where
  -- the links of a page
  pub page_are : is_prerequisite item ≡ false → AreLinks item reply links
  page_are page = record {
    same = λ h payload head. same h payload head ∙ rw page refl;
    redirect = λ h payload head redirects. ap (find is_redirect) (same h payload head);
    each = both_of links addresses letters;
  }

  -- and of a robots file with a redirect
  pub redirect_are : (own : List Found) → is_prerequisite item ≡ true → is_redirection reply.status ≡ true → own ≡ alone (find is_redirect links) → AreLinks item reply own
  redirect_are own robots redirects is = record {
    same = λ h payload head. is ∙ ap (λ (l : List Found). alone (find is_redirect l)) (same h payload head) ∙ rw (robots, redirects) refl;
    redirect = λ h payload head also. ap (find is_redirect) is ∙ found_again is_redirect links ∙ ap (find is_redirect) (same h payload head);
    each = subst (λ (l : List Found). All IsLink l) (sym is) (found_all IsLink is_redirect links (both_of links addresses letters));
  }

-- and of one without
pub none_are : (item : Item) (reply : Reply) (own : List Found) → is_prerequisite item ≡ true → is_redirection reply.status ≡ false → own ≡ [] → AreLinks item reply own
none_are item reply own robots other is = record {
  same = λ h payload head. is ∙ rw (robots, other) refl;
  redirect = λ h payload head also. absurd (clash (is_redirection reply.status) also other);
  each = subst (λ (l : List Found). All IsLink l) (sym is) (All-nil IsLink);
}
