-- Where the records of a success stand: each behind the last cited one.
--     cited_end h      the end of the last cited record
--     IsPlacedNext f a h c body      the records of the finish go to the next place
use Rattle.std.specs.Prelude.{◌≡◌, ◌+◌, Option, Some, None, ⊤}
use Rattle.crawl_kinds.specs.declared.event.Body.{Body}
use Rattle.crawl_kinds.specs.declared.snapshot.Edge.{Edge}
use Rattle.crawl_kinds.specs.Event.{Finishing}
use Rattle.crawl_history.specs.Scans.{last_of}
use Rattle.crawl_history.specs.History.{History, finishes}
use Rattle.crawl_history.specs.Facts.{Facts, Archive}

-- the end of the records of a success
abbrev pub edge_after : Option Body → Option Edge
edge_after None = None
edge_after (Some body) = Some (record { file = body.spot.file; end = body.spot.at + body.spot.len })

-- the end of the records of a finish
abbrev pub edge_of : Finishing → Option Edge
edge_of c = edge_after c.end.body

-- that of the events, where they have one
abbrev pub edge_or : Option Edge → Option Edge → Option Edge
edge_or None base = base
edge_or (Some edge) base = Some edge

-- the end of the last cited record
abbrev pub cited_end : History → Option Edge
cited_end h = edge_or (last_of edge_of (finishes h)) h.base.end

-- what is recorded goes to the next place
abbrev pub IsPlacedNext : Facts → Archive → History → Finishing → Option Body → Type 0
IsPlacedNext f a h c None = ⊤
IsPlacedNext f a h c (Some body) = body.spot ≡ f.next_spot (cited_end h) c (a body.spot)
