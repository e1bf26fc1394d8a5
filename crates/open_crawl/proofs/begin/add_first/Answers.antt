use Rattle.open_crawl.proofs.Firsts.{first_room, seeded_stands}
use Rattle.open_crawl.proofs.begin.add_first.Goals as goal

pub unreachable-requires : goal.unreachable-requires
unreachable-requires c =
    let own = c.requires.session in
    first_room c.args.frontier.now c.args.seeds.now _ _ own.0 own.1 own.2 c.requires.room
    (c.in-Err-Full.ensures.full c.in-Err-Full.field-0-0 c.in-Err-Full.field-0-1 (cc))

pub returns-clause-stands : goal.returns-clause-stands
returns-clause-stands c pages a stands =
    seeded_stands c.standing_laws.ensures c.args.frontier.now c.seeds.new.self c.args.seeds.now c.args.now _ c.in-Ok.ensures.ok pages a stands
