-- What is known of an item that was processed.
--     AreLinks item reply links      the links to which its response leads
--     IsBodyOf f a d body      the body is that of the response, where one came
--     IsDone d      the end suits the work, and the links are those of the response
use Rattle.std.specs.Prelude.{◌≡◌, ◌≤◌, ◌<◌, ◌^◌, ℕ, pos, Bool, true, ◌==◌, List, [], ◌∷◌, All, drop, find, Option, Some, None, is_some, IfSome, IsTrue, if◌then◌else◌}
use Rattle.httparse.specs.Grammar.{ResponseHead, status_code}
use Rattle.crawl_kinds.specs.declared.event.Body.{Body}
use Rattle.crawl_kinds.specs.declared.item.Item.{Item}
use Rattle.crawl_kinds.specs.declared.item.Work.{Work}
use Rattle.crawl_kinds.specs.declared.settings.Settings.{Settings}
use Rattle.crawl_history.specs.Ends.{Suits}
use Rattle.crawl_history.specs.Facts.{Facts, Archive}
use Rattle.crawl_history.specs.Outcomes.{is_prerequisite}
use Rattle.extract_spec.specs.Joining.{IsLink}
use Rattle.extract_spec.specs.Links.{is_redirection, links_of, redirect}
use Rattle.extract_spec.specs.declared.found.Found.{Found}
use Rattle.http_message.specs.declared.front.Reply.{Reply}
use Rattle.journal_valid.specs.Ends.{IsBody, IsEnd}
use Rattle.page_spec.specs.Request.{request_text}
use Rattle.page_spec.specs.Response.{fields_of, IsHead, IsReplyOf}
use Rattle.process_chains.specs.Endings.{end_with}
use Rattle.process_chains.specs.declared.ending.Ending.{Ending}

pub record Done : Type 0 where
  pub work : Work
  -- those that it was processed with
  pub settings : Settings
  pub ending : Ending
  -- what was asked, where a whole response came
  pub request : List ℕ
  pub reply : Option Reply
  pub links : List Found

-- whether a link has the letter of a redirect
abbrev pub is_redirect : Found → Bool
is_redirect found = found.letter == redirect

-- the link that was found, alone
abbrev pub alone : Option Found → List Found
alone None = []
alone (Some found) = found ∷ []

-- a page leads to all its links, a robots file to its first redirect alone (RFC 9309 section 2.3.1.2)
abbrev pub item_links : Item → ℕ → List Found → List Found
item_links item status links =
    if is_prerequisite item
    then (if is_redirection status then alone (find is_redirect links) else [])
    else links

-- those of the links that are defined for address and block
pub record AreLinks (item : Item) (reply : Reply) (links : List Found) : Type 0 where
  pub same :
      (h : ResponseHead) (payload : List ℕ) → IsHead reply.block h payload
      → links ≡ item_links item reply.status (links_of item.uri (status_code h) (fields_of h) payload)
  -- so a redirection leads where the first of all redirects does
  pub redirect :
      (h : ResponseHead) (payload : List ℕ) → IsHead reply.block h payload → is_redirection reply.status ≡ true
      → find is_redirect links ≡ find is_redirect (links_of item.uri (status_code h) (fields_of h) payload)
  pub each : All IsLink links

-- without a response there are none
abbrev pub AreLinksOf : Item → Option Reply → List Found → Type 0
AreLinksOf item None links = links ≡ []
AreLinksOf item (Some reply) links = AreLinks item reply links

-- the reply is that of a whole response of at most so many bytes
abbrev pub IsReply : ℕ → Reply → Type 0
IsReply limit reply = IsReplyOf limit reply.block reply.status reply.media reply.head_len

-- the body says what the response is, where one came, and stands at its block
abbrev pub IsBodyOf : Facts → Archive → List ℕ → Ending → Option Reply → Option Body → Type 0
IsBodyOf f a uri ending None body = body ≡ None
IsBodyOf f a uri ending (Some reply) None = ⊥
IsBodyOf f a uri ending (Some reply) (Some body) =
    (a body.spot ≡ reply.block) × IsTrue (f.fits uri reply.block (end_with ending (Some body)))

-- what was asked for a response; nothing where none came
abbrev pub asked_for : Settings → List ℕ → Option Reply → List ℕ
asked_for settings uri None = []
asked_for settings uri (Some reply) = request_text uri settings

pub record IsDone (d : Done) : Type 0 where
  -- whatever the pages of a job with these settings are, the end with that body suits the verdict at this try
  pub suits :
      (f : Facts) (a : Archive) (body : Option Body) → f.settings ≡ d.settings → IsBodyOf f a d.work.item.uri d.ending d.reply body
      → Suits f a d.work.tries d.work.item (end_with d.ending body) d.work.verdict
  -- nothing of a response is cut off, and from the first try on a line of the journal can name the end with any body that one
  -- can name
  pub small : d.work.tries < 2 ^ 32
  pub uncut : d.ending.notes.cut ≡ None
  pub valid : 1 ≤ d.work.tries → (body : Option Body) → is_some body ≡ is_some d.reply → IfSome body IsBody → IsEnd (end_with d.ending body)
  pub reply : IfSome d.reply (IsReply d.settings.max_response_bytes)
  -- the code is then its status
  pub status : IfSome d.reply (λ reply. d.ending.code ≡ pos reply.status)
  pub request : d.request ≡ asked_for d.settings d.work.item.uri d.reply
  pub links : AreLinksOf d.work.item d.reply d.links
  pub each : All IsLink d.links

-- the block and the payload of the response, empty where none came
abbrev pub block_of : Option Reply → List ℕ
block_of None = []
block_of (Some reply) = reply.block

abbrev pub payload_of : Option Reply → List ℕ
payload_of None = []
payload_of (Some reply) = drop reply.head_len reply.block
