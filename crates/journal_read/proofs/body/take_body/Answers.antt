use Rattle.journal_read.specs.Reading.{left}
use Rattle.journal_read.proofs.Bodies.{no_absent_media}
use Rattle.journal_read.proofs.body.take_body.Goals as goal

pub returns-then-not-is_same-2 : goal.returns-then-not-is_same-2
returns-then-not-is_same-2 c x rest is e =
    no_absent_media (left c.args.parts.now) (left c.next.new.self) (left c.next-2.new.self) c.in_ok-size.size.now c.in_ok-media.media.now rest x c.in_ok-size.ensures c.in_ok-media.ensures c.if-not-is_same.ensures c.if-not-is_same-2.ensures is e
