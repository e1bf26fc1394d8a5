-- Ends of items, and their lines as written by hand.
--     lacking_robots, lacking_robots_lines      an item that waits for its robots file
--     robots_missing, robots_missing_lines      a robots file that isn't there
--     broken_off, broken_off_lines      a last failure with every note
use Rattle.std.specs.Prelude.{ℕ, pos, negsuc, List, [], ◌∷◌, codes, Some, None}
use Rattle.crawl_kinds.specs.declared.event.Outcome.TheVariants.{Success, Failure, Retry}
use Rattle.crawl_kinds.specs.declared.event.Cut.TheVariants.{Disconnect}
use Rattle.crawl_kinds.specs.declared.event.Event.{Event}
use Rattle.crawl_kinds.specs.declared.event.Event.TheVariants.{Finish}
use Rattle.journal_lines.specs.Examples.{lines, uri_a, uri_b, uri_robots, found}

-- an item that waits for its robots file, which is added
abbrev pub lacking_robots : Event
lacking_robots =
    Finish 1700000000000 0 1 (found uri_a [] None)
    (record {
      outcome = Retry;
      code = negsuc 49;
      fetch = None;
      body = None;
      notes = record { cut = None; tries = 1; cause = pos 0 };
    })
    (found uri_robots (codes "P") (Some uri_a) ∷ [])

-- its line, and that of the robots file
abbrev pub lacking_robots_lines : List ℕ
lacking_robots_lines =
    lines
    (codes "Fr http://a.test/ - - 1700000000000 0 1 -50 - - - - - -"
    ∷ codes "F+ http://a.test/robots.txt P http://a.test/"
    ∷ [])

-- a robots file that isn't there, recorded
abbrev pub robots_missing : Event
robots_missing =
    Finish 1700000000000 0 2 (found uri_robots (codes "P") (Some uri_a))
    (record {
      outcome = Success;
      code = pos 404;
      fetch = Some (record { start = 1700000000000; duration = 0 });
      body =
          Some (record {
            size = 45;
            media = codes "no-type";
            digest = codes "sha1:3I42H3S6NNFQ2MSVX7XZKYAYSCX5QBYJ";
            spot = record { file = 0; at = 386; len = 1590 };
          });
      notes = record { cut = None; tries = 1; cause = pos 0 };
    })
    []

-- its line, with each field
abbrev pub robots_missing_lines : List ℕ
robots_missing_lines =
    lines
    (codes
    "Fs http://a.test/robots.txt P http://a.test/ 1700000000000 0 2 404 1700000000000+0 45 no-type sha1:3I42H3S6NNFQ2MSVX7XZKYAYSCX5QBYJ 0:386:1590 -"
    ∷ [])

-- a last failure, cut off and with a cause
abbrev pub broken_off : Event
broken_off =
    Finish 1700000009000 3 7 (found uri_b (codes "LE") (Some uri_a))
    (record {
      outcome = Failure;
      code = negsuc 7;
      fetch = Some (record { start = 1700000001000; duration = 8000 });
      body = None;
      notes = record { cut = Some Disconnect; tries = 3; cause = negsuc 3 };
    })
    []

-- its line, with each note
abbrev pub broken_off_lines : List ℕ
broken_off_lines =
    lines
    (codes
    "Ff http://b.test/x LE http://a.test/ 1700000009000 3 7 -8 1700000001000+8000 - - - - trunc:disconnect,tries:3,cause:-4"
    ∷ [])
