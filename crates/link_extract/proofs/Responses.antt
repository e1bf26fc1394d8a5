-- What was read of a head gives the links of the response.
use Rattle.std.proofs.Common.{◌≡◌, ℕ, List, ◌++◌, ◌∙◌, subst, All, Result, Ok, Err}
use Rattle.std.specs.Prelude.{IfOk}
use Rattle.std.proofs.lemmas.List.Elements.{All-same}
use Rattle.crawl_kinds.specs.declared.memory.NoMemory.{NoMemory}
use Rattle.page_spec.specs.Fields.{Pair}
use Rattle.link_spec.specs.declared.reference.Ref.{Ref}
use Rattle.extract_spec.specs.declared.found.Found.{Found}
use Rattle.extract_spec.specs.declared.source.Source.{Source}
use Rattle.extract_spec.specs.Source.{source_of}
use Rattle.extract_spec.specs.Joining.{base_of}
use Rattle.extract_spec.specs.Links.{body_refs, header_refs, links_from, links_of}
use Rattle.link_extract.specs.Words.{HasLetter}
use Rattle.link_extract.proofs.Letters.{links_letters}

-- the links that were read
abbrev read_links : List ℕ → List Ref → Source → List ℕ → List Found
read_links uri redirects read payload = links_from (base_of uri read payload) (redirects ++ body_refs read payload)

same_links : (uri : List ℕ) (status : ℕ) (fields : List Pair) (payload : List ℕ) (redirects : List Ref) (read : Source) (rest : List ℕ)
    → redirects ≡ header_refs status fields → read ≡ source_of fields → rest ≡ payload → read_links uri redirects read rest ≡ links_of uri status fields payload
unfolding links_of
same_links uri status fields payload redirects read rest heads sources rests = λ i. read_links uri (heads i) (sources i) (rests i)

pub gives_links : (result : Result (List Found) NoMemory) (uri : List ℕ) (status : ℕ) (fields : List Pair) (payload : List ℕ) (redirects : List Ref) (read : Source) (rest : List ℕ)
    → redirects ≡ header_refs status fields → read ≡ source_of fields → rest ≡ payload
    → IfOk result (λ links. links ≡ read_links uri redirects read rest) → IfOk result (λ links. links ≡ links_of uri status fields payload)
gives_links result uri status fields payload redirects read rest heads sources rests given =
    subst (λ links. IfOk result (λ own. own ≡ links)) (same_links uri status fields payload redirects read rest heads sources rests) given

pub gives_letters : (result : Result (List Found) NoMemory) (uri : List ℕ) (status : ℕ) (fields : List Pair) (redirects : List Ref) (read : Source) (rest : List ℕ)
    → redirects ≡ header_refs status fields
    → IfOk result (λ links. links ≡ read_links uri redirects read rest) → IfOk result (All HasLetter)
gives_letters (Ok links) uri status fields redirects read rest heads given =
    All-same HasLetter links _ (given ∙ (λ i. read_links uri (heads i) read rest)) (links_letters (base_of uri read rest) status fields read rest)
gives_letters (Err e) uri status fields redirects read rest heads given = tt
