-- What is known of the robots rules of a class (RFC 9309 section 2.3).
--     redirect_of f a c      the address that a robots file redirects to, where it is followed
--     robots_state f a h class t      the state of the class, by its last robots file of this session
use Rattle.std.specs.Prelude.{ℕ, ◌+◌, ◌-◌, ◌/◌, Bool, ◌&&◌, nat_le, nat_lt, ◌==◌, List, [], find, Option, Some, None, bytes_eq, slice_index, take, nat_abs, if◌then◌else◌}
use Rattle.crawl_kinds.specs.declared.event.Outcome.{Outcome}
use Rattle.crawl_kinds.specs.declared.event.Outcome.TheVariants.{Success, Failure, Disregard, Retry}
use Rattle.crawl_kinds.specs.declared.event.Body.{Body}
use Rattle.crawl_kinds.specs.declared.item.Item.{Item}
use Rattle.crawl_kinds.specs.Event.{Finishing}
use Rattle.crawl_history.specs.Scans.{last_of}
use Rattle.crawl_history.specs.Codes.{redirect_letter}
use Rattle.crawl_history.specs.History.{History, session_finishes}
use Rattle.crawl_history.specs.Queues.{in_class}
use Rattle.crawl_history.specs.Outcomes.{is_prerequisite, is_success_or_failure}
use Rattle.crawl_history.specs.Facts.{Facts, Archive, Link}

pub data RobotsState : Type 0 where
  -- no robots file was fetched in this session, or too long ago
  NotKnown : RobotsState
  -- it could not be fetched (section 2.3.1.4)
  NotReached : RobotsState
  -- its text holds (section 2.3.1.1)
  Rules : (text : List ℕ) → RobotsState
  -- it redirects to this address, which is fetched next (section 2.3.1.2)
  Followed : (uri : List ℕ) → RobotsState
  -- there are no rules (section 2.3.1.3)
  AllAllowed : RobotsState

-- how long a robots file holds: a day in milliseconds (section 2.4)
abbrev pub robots_life : ℕ
robots_life = 86400000

-- how many bytes of a robots file are read (section 2.5)
abbrev pub robots_bytes : ℕ
robots_bytes = 524288

-- how many redirects of a robots file are followed (section 2.3.1.2)
abbrev pub most_redirects : ℕ
most_redirects = 5

-- the block that a finish cites
abbrev pub cited_block : Archive → Option Body → List ℕ
cited_block a None = []
cited_block a (Some body) = a body.spot

-- the links of the page that a finish cites
abbrev pub page_links : Facts → Archive → Finishing → List Link
page_links f a c = f.links c.item.uri (cited_block a c.end.body)

-- how many redirects led to a robots item: the digit behind `robots` in its key
abbrev pub redirect_count : Item → ℕ
redirect_count item = slice_index item.key 6 - 48

-- the address of the link, where it stays in the class
abbrev pub redirect_in : Facts → List ℕ → Option Link → Option (List ℕ)
redirect_in f class None = None
redirect_in f class (Some link) = if bytes_eq (f.class_of link.uri) class then Some link.uri else None

-- the first Location of a robots file, where redirects are left and it stays in the class
abbrev pub redirect_of : Facts → Archive → Finishing → Option (List ℕ)
redirect_of f a c =
    if nat_lt (redirect_count c.item) most_redirects
    then redirect_in f c.item.class (find (λ l. l.letter == redirect_letter) (page_links f a c))
    else None

-- the first digit of a status
abbrev pub status_class : Finishing → ℕ
status_class c = nat_abs c.end.code / 100

-- a redirect that is not followed is as no file
abbrev pub state_by_redirect : Option (List ℕ) → RobotsState
state_by_redirect None = AllAllowed
state_by_redirect (Some uri) = Followed uri

-- what a robots file that came says, by its status
abbrev pub state_by_status : Facts → Archive → Finishing → RobotsState
state_by_status f a c =
    if status_class c == 5
    then NotReached
    else if status_class c == 2
    then Rules (take robots_bytes (f.payload (cited_block a c.end.body)))
    else if status_class c == 3
    then state_by_redirect (redirect_of f a c)
    else AllAllowed

-- what the end of a robots file says
abbrev pub state_by_outcome : Facts → Archive → Finishing → Outcome → RobotsState
state_by_outcome f a c Success = state_by_status f a c
state_by_outcome f a c Failure = NotReached
state_by_outcome f a c Disregard = NotKnown
state_by_outcome f a c Retry = NotKnown

-- what this finish says at t, for a day
abbrev pub state_by : Facts → Archive → ℕ → Option Finishing → RobotsState
state_by f a t None = NotKnown
state_by f a t (Some c) = if nat_le (c.time + robots_life) t then NotKnown else state_by_outcome f a c c.end.outcome

-- whether a robots file of the class came or failed
abbrev pub is_robots_finish : List ℕ → Finishing → Bool
is_robots_finish class c = in_class class c.item && is_prerequisite c.item && is_success_or_failure c.end.outcome

-- the last one of this session
abbrev pub robots_finish : History → List ℕ → Option Finishing
robots_finish h class = last_of (λ c. if is_robots_finish class c then Some c else None) (session_finishes h)

-- the state of the class at t
abbrev pub robots_state : Facts → Archive → History → List ℕ → ℕ → RobotsState
robots_state f a h class t = state_by f a t (robots_finish h class)
